-- What a set of bytes on the heap says of the texts that they hold.
use Rattle.std.proofs.Common.{◌≡◌, ℕ, zero, suc, Bool, true, false, ◌||◌, List, [], ◌∷◌, ◌++◌, length, position, get_or}
use Rattle.std.proofs.Common.{Option, Some, None, slice_get, MatchOption, Vec, Global, refl, sym, ap, ◌∙◌, subst}
use Rattle.std.proofs.Common.{true≢false, is_some, if◌then◌else◌, nat_eq, arith}
use Rattle.std.specs.List.{Contains, list_any, IsDistinct, AllByRecursion}
use Rattle.std.specs.Cmp.Lexicographic.{pointwise, same_text, other_text}
use Rattle.std.proofs.lemmas.List.Folds.{list_any_at}
use Rattle.std.proofs.lemmas.List.Quantifiers.{position-Some}
use Rattle.std.proofs.lemmas.Option.{slice_get_within, slice_get-get_or, get_or_from_slice_get}
use Rattle.std.proofs.lemmas.List.{append_assoc, append-nil}
use Rattle.indexmap.specs.IndexSet.{insert_key, insert_all}
use Rattle.loading.proofs.PlaceLemmas.{contains_at, place_in, mapped_at, unmapped_at, map_push}
use Rattle.hierarchy.specs.Texts.{AreDistinct}
use Rattle.hierarchy.specs.steps.HeldTexts.{texts_of}

-- a key holds a text
abbrev pub holds : List ℕ → Vec ℕ Global → Bool
holds text key = pointwise nat_eq text key.items

-- two keys hold one text
abbrev pub alike : Vec ℕ Global → Vec ℕ Global → Bool
alike one other = pointwise nat_eq one.items other.items

pub told : (one other : List ℕ) → one ≡ other → pointwise nat_eq one other ≡ true
told one other same = by (pointwise nat_eq one other) refl
  where
    by : (b : Bool) → pointwise nat_eq one other ≡ b → pointwise nat_eq one other ≡ true
    by true e = e
    by false e = absurd (other_text one other (sym e) same)

-- a text has the number of a key that holds it
pub held_at : (keys : List (Vec ℕ Global)) (n : ℕ) (key : Vec ℕ Global) (text : List ℕ) → slice_get keys n ≡ Some key
    → holds text key ≡ true → slice_get (texts_of keys) n ≡ Some text
held_at keys n key text at same =
    mapped_at (λ (v : Vec ℕ Global). v.items) keys n key at ∙ ap Some (sym (same_text text key.items (sym same)))

pub found : (keys : List (Vec ℕ Global)) (n : ℕ) (text : List ℕ) → position (holds text) keys ≡ Some n
    → slice_get (texts_of keys) n ≡ Some text
found [] n text at = absurd cc
found (first ∷ keys) n text at =
    let facts = position-Some (holds text) (first ∷ keys) n first at in
    held_at (first ∷ keys) n (get_or (first ∷ keys) n first) text (slice_get-get_or (first ∷ keys) n first facts.0)
    facts.1

pub not_found : (keys : List (Vec ℕ Global)) (text : List ℕ) → list_any (holds text) keys ≡ false
    → ¬ Contains (texts_of keys) text
not_found keys text none has =
    let at = place_in (texts_of keys) text has in
    let held = unmapped_at (λ (v : Vec ℕ Global). v.items) keys at.0 text at.1 in
    let there = list_any_at (holds text) keys at.0 held.0 (slice_get_within keys at.0 held.0 held.1)
    (ap (holds text) (get_or_from_slice_get keys at.0 held.0 held.0 held.1) ∙ told text held.0.items (sym held.2)) in
    true≢false (sym there ∙ none)

-- where a key holds a text
placed : (keys : List (Vec ℕ Global)) (text : List ℕ) → list_any (holds text) keys ≡ true
    → (n : ℕ) × (slice_get (texts_of keys) n ≡ Some text)
placed [] text h = absurd (true≢false (sym h))
placed (key ∷ keys) text h =
    by (holds text key) refl (λ e. placed keys text (sym (ap (λ b. b || list_any (holds text) keys) e) ∙ h))
  where
    by : (b : Bool) → holds text key ≡ b
        → (holds text key ≡ false → (n : ℕ) × (slice_get (texts_of keys) n ≡ Some text))
        → (n : ℕ) × (slice_get (texts_of (key ∷ keys)) n ≡ Some text)
    by true e rest = (0, ap Some (sym (same_text text key.items (sym e))))
    by false e rest = let there = rest e in (suc there.0, there.1)

-- the number of a text, if it has one
pub numbered : (keys : List (Vec ℕ Global)) (text : List ℕ) (result : Option ℕ) → result ≡ position (holds text) keys
    → is_some result ≡ list_any (holds text) keys
    → MatchOption result (¬ Contains (texts_of keys) text) (λ n. slice_get (texts_of keys) n ≡ Some text)
numbered keys text None at some = not_found keys text (sym some)
numbered keys text (Some n) at some = found keys n text (sym at)

-- the text of a key is none of those behind it
apart : (key : Vec ℕ Global) (keys : List (Vec ℕ Global)) → AllByRecursion (λ other. alike key other ≡ false) keys
    → (n : ℕ) (text : List ℕ) → slice_get (texts_of keys) n ≡ Some text → ¬ (key.items ≡ text)
apart key [] h n text at same = absurd cc
apart key (other ∷ keys) h zero text at same =
    let is : other.items ≡ text = cc in
    other_text key.items other.items (sym h.0) (same ∙ sym is)
apart key (other ∷ keys) h (suc n) text at same = apart key keys h.1 n text at same

pub distinct : (keys : List (Vec ℕ Global)) → IsDistinct alike keys → AreDistinct (texts_of keys)
unfolding IsDistinct
distinct [] h i j text at also = absurd cc
distinct (key ∷ keys) h zero zero text at also = refl
distinct (key ∷ keys) h zero (suc j) text at also =
    let is : key.items ≡ text = cc in absurd (apart key keys h.0 j text also is)
distinct (key ∷ keys) h (suc i) zero text at also =
    let is : key.items ≡ text = cc in absurd (apart key keys h.0 i text at is)
distinct (key ∷ keys) h (suc i) (suc j) text at also = ap suc (distinct keys h.1 i j text at also)

-- a new text comes last
pub inserted : (old new : List (Vec ℕ Global)) (key : Vec ℕ Global) (text : List ℕ) → new ≡ insert_key alike old key
    → key.items ≡ text → ¬ Contains (texts_of old) text → texts_of new ≡ texts_of old ++ text ∷ []
inserted old new key text is holds_it absent = by (list_any (alike key) old) refl
  where
    by : (b : Bool) → list_any (alike key) old ≡ b → texts_of new ≡ texts_of old ++ text ∷ []
    by true e =
        let at = placed old key.items e in
        absurd (absent (contains_at (texts_of old) at.0 text (at.1 ∙ ap Some holds_it)))
    by false e =
        ap texts_of (is ∙ ap (λ b. if b then old else old ++ key ∷ []) e)
        ∙ map_push (λ (v : Vec ℕ Global). v.items) old key ∙ ap (λ t. texts_of old ++ t ∷ []) holds_it

kept_in_front : (first rest : List (Vec ℕ Global)) (n : ℕ) (key : Vec ℕ Global) → slice_get first n ≡ Some key
    → slice_get (first ++ rest) n ≡ Some key
kept_in_front [] rest n key at = absurd cc
kept_in_front (one ∷ first) rest zero key at = at
kept_in_front (one ∷ first) rest (suc n) key at = kept_in_front first rest n key at

next_at : (first : List (Vec ℕ Global)) (key : Vec ℕ Global) (rest : List (Vec ℕ Global))
    → slice_get (first ++ key ∷ rest) (length first) ≡ Some key
next_at [] key rest = refl
next_at (one ∷ first) key rest = next_at first key rest

-- keys whose texts are distinct stay as they are where each is inserted in turn
pub all_inserted : (first rest : List (Vec ℕ Global)) → AreDistinct (texts_of (first ++ rest))
    → insert_all alike first rest ≡ first ++ rest
all_inserted first [] apart = sym (append-nil first)
all_inserted first (key ∷ rest) apart =
    let lone : insert_key alike first key ≡ first ++ key ∷ [] = by (list_any (alike key) first) refl in
    let moved : (first ++ key ∷ []) ++ rest ≡ first ++ key ∷ rest = append_assoc first (key ∷ []) rest in
    ap (λ l. insert_all alike l rest) lone
    ∙ all_inserted (first ++ key ∷ []) rest (subst (λ l. AreDistinct (texts_of l)) (sym moved) apart) ∙ moved
  where
    by : (b : Bool) → list_any (alike key) first ≡ b → insert_key alike first key ≡ first ++ key ∷ []
    by true e =
        let at = placed first key.items e in
        let held = unmapped_at (λ (v : Vec ℕ Global). v.items) first at.0 key.items at.1 in
        let within = slice_get_within first at.0 held.0 held.1 in
        let early : slice_get (texts_of (first ++ key ∷ rest)) at.0 ≡ Some key.items =
        mapped_at (λ (v : Vec ℕ Global). v.items) (first ++ key ∷ rest) at.0 held.0
        (kept_in_front first (key ∷ rest) at.0 held.0 held.1) ∙ ap Some held.2 in
        let here : slice_get (texts_of (first ++ key ∷ rest)) (length first) ≡ Some key.items =
        mapped_at (λ (v : Vec ℕ Global). v.items) (first ++ key ∷ rest) (length first) key
        (next_at first key rest) in
        let same = apart at.0 (length first) key.items early here in absurd (omega (arith, within, same))
    by false e = ap (λ b. if b then first else first ++ key ∷ []) e
