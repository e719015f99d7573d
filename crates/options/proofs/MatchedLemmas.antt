-- Classes that patterns match, by their names in order.
use Rattle.std.proofs.Common.{◌≡◌, ℕ, zero, suc, ◌<◌, ◌⊎◌, inl, inr, Bool, List, length, take}
use Rattle.std.proofs.Common.{get_or, map, replicate, Some, None, Option, refl, sym, ap, ◌∙◌, subst, arith, ◌↔◌}
use Rattle.std.proofs.Common.{slice_get, false}
use Rattle.std.specs.List.{All, Contains}
use Rattle.std.specs.Option.{option_map}
use Rattle.std.specs.String.{string_bytes}
use Rattle.std.proofs.lemmas.List.Elements.{All-weaker, All-contains_itself}
use Rattle.std.proofs.lemmas.Option.{same_Some, slice_get_within, slice_get_read}
use Rattle.loading.specs.declared.given.GivenClass.{GivenClass}
use Rattle.loading.specs.Families.{Family, name_in, file_of}
use Rattle.loading.specs.Names.{name_of}
use Rattle.loading.proofs.PlaceLemmas.{contains_at, mapped_at, place_in}
use Rattle.options.specs.Patterns.{dotted, spelled, IsIn}
use Rattle.options.specs.Classes.{IsMatched, MatchesClass, AreClasses}
use Rattle.options.specs.Faults.{IsKnown, PatternsFail, unknown}
use Rattle.options.specs.steps.Flags.{IsFlagged, Grow}
use Rattle.options.specs.steps.Names.{AreNames, Begins}
use Rattle.options.specs.steps.Covering.{CoversMore, IsKnownIn, IsMatchedByOne, IsCoveredClass}
use Rattle.options.specs.steps.Covering.{IsMatchedClass, IsOfFirstUnknown, of_place}
use Rattle.options.specs.steps.Texts.{Text}
use Rattle.options.specs.declared.fault.OptionFault.{OptionFault}
use Rattle.options.specs.declared.fault.OptionFault.TheVariants.{Memory}
use Rattle.options.specs.declared.sorted_names.DottedName.{DottedName}
use Rattle.options.proofs.SortedNamesLemmas.{begins_in, in_begins}

-- ---- by names is by classes

pub named_within : (family : Family) (c : ℕ) (name : List ℕ) → name_in family c ≡ Some name → c < length family
named_within family c name = by (slice_get family c) refl
  where
    by : (o : Option GivenClass) → slice_get family c ≡ o → option_map name_of (file_of o) ≡ Some name
        → c < length family
    by None at named = cc
    by (Some given) at named = slice_get_within family c given at

module _ (family : Family) (names : List DottedName) (are : AreNames family (length family) names) where
  class_at : (pattern : List ℕ) (i : ℕ) (n : DottedName) → slice_get names i ≡ Some n
      → Begins (spelled pattern) n.bytes.items → MatchesClass family pattern n.class
  class_at pattern i n at begins =
      let one = (are.each n (contains_at names i n at)).1 in
      record {
        name = one.name;
        named = one.named;
        inside = in_begins (spelled pattern) (dotted one.name)
            (subst (Begins (spelled pattern)) one.bytes begins);
      }

  name_of_class : (pattern : List ℕ) (c : ℕ) → MatchesClass family pattern c
      → (i : ℕ) × (n : DottedName) × (slice_get names i ≡ Some n) × (n.class ≡ c)
      × Begins (spelled pattern) n.bytes.items
  name_of_class pattern c matches =
      let held = are.whole c (named_within family c matches.name matches.named) in
      let place = place_in names held.0 held.1 in
      let one = (are.each held.0 held.1).1 in
      let named : name_in family held.0.class ≡ Some matches.name =
      subst (λ (k : ℕ). name_in family k ≡ Some matches.name) (sym held.2) matches.named in
      let same : matches.name ≡ one.name = same_Some matches.name one.name (sym named ∙ one.named) in (
        place.0,
        held.0,
        place.1,
        held.2,
        subst (Begins (spelled pattern)) (sym one.bytes)
            (begins_in (spelled pattern) (dotted one.name)
            (subst (λ (name : List ℕ). IsIn (spelled pattern) (dotted name)) same matches.inside)),
      )

  known_is : (pattern : List ℕ) → IsKnownIn names pattern → IsKnown family pattern
  known_is pattern (i, (n, at, begins)) = (n.class, class_at pattern i n at begins)

  known_back : (pattern : List ℕ) → IsKnown family pattern → IsKnownIn names pattern
  known_back pattern (c, matches) =
      let one = name_of_class pattern c matches in (one.0, (one.1, one.2, one.4))

  pub all_are_known : (patterns : List (List ℕ)) → All (IsKnownIn names) patterns → All (IsKnown family) patterns
  all_are_known patterns all = All-weaker (IsKnownIn names) (IsKnown family) known_is patterns all

  matched_is : (patterns : List (List ℕ)) (c : ℕ) → IsMatchedClass names patterns c ↔ IsMatched family patterns c
  matched_is patterns c = (to, from)
    where
      to : IsMatchedClass names patterns c → IsMatched family patterns c
      to (i, n, at, number, (p, listed, (m, there, begins))) =
          let same : m ≡ n = same_Some m n (sym there ∙ at) in
          record {
            pattern = p;
            listed = listed;
            matches = subst (MatchesClass family p) (ap (λ (k : DottedName). k.class) same ∙ number)
                (class_at p i m there begins);
          }

      from : IsMatched family patterns c → IsMatchedClass names patterns c
      from some =
          let one = name_of_class some.pattern c some.matches in
          (one.0, one.1, one.2, one.3, (some.pattern, some.listed, (one.1, one.2, one.4)))

  pub classes_are : (flags : List Bool) (patterns : List (List ℕ)) → AreClasses flags (IsMatchedClass names patterns)
      → AreClasses flags (IsMatched family patterns)
  classes_are flags patterns are-names c = (
    λ flagged. (matched_is patterns c).0 ((are-names c).0 flagged),
    λ some. (are-names c).1 ((matched_is patterns c).1 some),
  )

  pub fails_so : (patterns : List (List ℕ)) (fault : OptionFault)
      → (fault ≡ Memory) ⊎ IsOfFirstUnknown names patterns fault
      → (fault ≡ Memory) ⊎ PatternsFail family patterns fault
  fails_so patterns fault (inl memory) = inl memory
  fails_so patterns _ (inr (of_place {text} place here none before)) = inr (unknown (record {
    place = place;
    here = here;
    unknown = λ one. none (known_back (string_bytes text) one);
    before = All-weaker (IsKnownIn names) (IsKnown family) known_is (take place patterns) before;
  }))

pub names_within : (family : Family) (names : List DottedName) → AreNames family (length family) names
    → All (λ (n : DottedName). n.class < length names) names
names_within family names are =
    All-weaker (Contains names) (λ (n : DottedName). n.class < length names)
    (λ n held. (let one = are.each n held in omega (arith, one.0, are.count))) names (All-contains_itself names)

-- ---- flags and ends that were nothing at first

none_first : (n c : ℕ) → IsFlagged (replicate n false) c → ⊥
none_first zero c is = cc
none_first (suc n) zero is = cc
none_first (suc n) (suc c) is = none_first n c is

pub flagged_alone : (P : ℕ → Type 0) (n : ℕ) (first now : List Bool) → first ≡ replicate n false → Grow first now P
    → AreClasses now P
flagged_alone P n first now is grown c = (
  λ flagged. elim ((grown.flags c).0 flagged) [
    | inl was ↦ absurd (none_first n c (subst (λ (flags : List Bool). IsFlagged flags c) is was))
    | inr one ↦ one
  ],
  λ one. (grown.flags c).1 (inr one),
)

nothing_there : (n j : ℕ) → get_or (replicate {A = ℕ} n 0) j 0 ≡ 0
nothing_there zero j = refl
nothing_there (suc n) zero = refl
nothing_there (suc n) (suc j) = nothing_there n j

pub classes_covered : (names : List DottedName) (patterns : List (List ℕ)) (n : ℕ) (ends : List ℕ) (flags : List Bool)
    → CoversMore (replicate n 0) ends (IsMatchedByOne names patterns) → AreClasses flags (IsCoveredClass names ends)
    → AreClasses flags (IsMatchedClass names patterns)
classes_covered names patterns n ends flags covers are c = (to, from)
  where
    to : IsFlagged flags c → IsMatchedClass names patterns c
    to flagged = by ((are c).0 flagged)
      where
        by : IsCoveredClass names ends c → IsMatchedClass names patterns c
        by (i, name, at, number, covered) = elim ((covers.places i).0 covered) [
          | inl was ↦ absurd (omega (arith, was.2, nothing_there n was.0))
          | inr one ↦ (i, name, at, number, one)
        ]

    from : IsMatchedClass names patterns c → IsFlagged flags c
    from (i, name, at, number, one) = (are c).1 (i, name, at, number, (covers.places i).1 (inr one))

-- ---- what is read, and what was written

-- the class of a number as it is read
pub class_read : (classes : Family) (n : ℕ) (given : GivenClass) → n < length classes → given ≡ get_or classes n given
    → slice_get classes n ≡ Some given
class_read classes n given small is = slice_get_read classes (length classes) n given refl small is

-- and the text of a place
pub text_read : (texts : List Text) (n : ℕ) (text : Text) (read : List ℕ) → n < length texts
    → text ≡ get_or texts n text → read ≡ string_bytes text → slice_get (map string_bytes texts) n ≡ Some read
text_read texts n text read small is same =
    mapped_at string_bytes texts n text (slice_get_read texts (length texts) n text refl small is) ∙ ap Some (sym same)
