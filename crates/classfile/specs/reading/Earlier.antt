-- The members of a table that were read so far, found by name and descriptor.
use Rattle.std.specs.Prelude.{◌≡◌, ℕ, ◌+◌, ◌*◌, ◌%◌, ◌^◌, Bool, true, false, ◌&&◌, List, [], ◌∷◌, length}
use Rattle.std.specs.Prelude.{Option, Some, None, get_or, is_some, unwrap_or, ◌==◌, if◌then◌else◌}
use Rattle.std.specs.Borrow.{Bor}
use Rattle.std.specs.declared.cmp.Ordering.{Ordering}
use Rattle.std.specs.List.{list_any, list_all}
use Rattle.std.specs.Str.{bytes_eq}
use Rattle.std.specs.Ordering.{nat_cmp, ordering_then}
use Rattle.std.specs.Cmp.Lexicographic.{slice_cmp}
use Rattle.std.specs.BTreeMap.{BTreeMap, get_by}
use Rattle.std.specs.BTreeSet.{BTreeSet, contains}
use Rattle.classfile.specs.declared.constant.Constant.{Constant}
use Rattle.classfile.specs.declared.member.Member.{Member}
use Rattle.classfile.specs.declared.earlier.Earlier.{Earlier}
use Rattle.classfile.specs.declared.earlier.SignatureIndex.{SignatureIndex}
use Rattle.classfile.specs.Lookup.{utf8_of}

-- a number of a text, which most often tells it from others
abbrev pub hash_from : ℕ → List ℕ → ℕ
hash_from hash [] = hash
hash_from hash (b ∷ bs) = hash_from ((hash % 2 ^ 32) * 2654435761 + b) bs

abbrev pub utf8_hash : List ℕ → ℕ
utf8_hash text = hash_from 0 text

-- texts by number and text, each with an index
abbrev pub Utf8Map : Type 0
Utf8Map = BTreeMap (ℕ × Bor (List ℕ)) ℕ

-- the index that stands for a text, if the text was asked for
abbrev pub find_utf8 : Utf8Map → List ℕ → Option ℕ
find_utf8 by_utf8 text =
    get_by (λ key. ordering_then (nat_cmp (utf8_hash text) key.0) (slice_cmp nat_cmp text key.1.now)) by_utf8

-- the same after the text was asked for at an index: the first index stays
abbrev pub find_after : (List ℕ → Option ℕ) → List ℕ → ℕ → List ℕ → Option ℕ
find_after find text index other = if bytes_eq text other then Some (unwrap_or (find text) index) else find other

-- the index that stands for the text at an index, if that index was asked for
abbrev pub first_of : List (Option ℕ) → ℕ → Option ℕ
first_of firsts index = get_or firsts index None

-- Of the texts that were asked for, equal ones have one index, and it is the index of such a text.
pub record AreFirsts (pool : List Constant) (firsts : List (Option ℕ)) (find : List ℕ → Option ℕ) : Type 0 where
  pub count : length firsts ≡ length pool
  pub found : (text : List ℕ) (first : ℕ) → find text ≡ Some first → utf8_of pool first ≡ Some text
  pub noted : (index first : ℕ) → first_of firsts index ≡ Some first → (text : List ℕ)
      × ((utf8_of pool index ≡ Some text)
      × (find text ≡ Some first))

-- What was found out stays.
abbrev pub Grows : List (Option ℕ) → List (Option ℕ) → Type 0
Grows old new = (index first : ℕ) → first_of old index ≡ Some first → first_of new index ≡ Some first

abbrev pub is_first : ℕ → Option ℕ → Bool
is_first first None = false
is_first first (Some other) = other == first

-- whether a member's name and descriptor have these first indices
abbrev pub has_firsts : List (Option ℕ) → ℕ → ℕ → Member → Bool
has_firsts firsts name descriptor m = is_first name (first_of firsts m.name)
    && is_first descriptor (first_of firsts m.descriptor)

-- whether a member's name and descriptor were asked for
abbrev pub was_asked : List (Option ℕ) → Member → Bool
was_asked firsts m = is_some (first_of firsts m.name) && is_some (first_of firsts m.descriptor)

-- the order of pairs
abbrev pub pair_cmp : ℕ × ℕ → ℕ × ℕ → Ordering
pair_cmp x y = ordering_then (nat_cmp x.0 y.0) (nat_cmp x.1 y.1)

-- The pairs are those of these members' names and descriptors.
pub record FindsMembers (pool : List Constant) (firsts : List (Option ℕ)) (by_utf8 : Utf8Map) (pairs : BTreeSet (ℕ × ℕ))
    (members : List Member) : Type 0 where
  pub texts : AreFirsts pool firsts (find_utf8 by_utf8)
  pub asked : list_all (was_asked firsts) members ≡ true
  pub each : (name descriptor : ℕ)
      → contains pair_cmp pairs (name, descriptor) ≡ list_any (has_firsts firsts name descriptor) members

abbrev pub FindsIn : List Constant → SignatureIndex → List Member → Type 0
FindsIn pool index members = FindsMembers pool index.firsts.items index.by_utf8 index.pairs members

-- where there is an index
abbrev pub FindsBy : List Constant → Option SignatureIndex → List Member → Type 0
FindsBy pool None members = Unit {0}
FindsBy pool (Some index) members = FindsIn pool index members

abbrev pub Finds : List Constant → Earlier → List Member → Type 0
Finds pool earlier members = FindsBy pool earlier.index members
