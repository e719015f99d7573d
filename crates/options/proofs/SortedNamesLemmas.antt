-- Names in order, and where those stand that a text and a dot begin.
use Rattle.std.proofs.Common.{◌≡◌, ℕ, ◌+◌, ◌<◌, ◌≤◌, inl, inr, Bool, true, false, List, [], ◌∷◌, ◌++◌}
use Rattle.std.proofs.Common.{length, take, get_or, drop, Some, refl, sym, ap, ◌∙◌, subst, arith, slice_get}
use Rattle.std.proofs.Common.{append_assoc, Ordering, Less, Equal, Greater, nat_cmp, is_lt}
use Rattle.std.specs.Cmp.Lexicographic.{slice_cmp}
use Rattle.std.specs.List.{Contains}
use Rattle.std.specs.List.Sorted.{IsPartitionedBy, IsPartitionPoint, IsPermutation}
use Rattle.std.specs.Option.{option_map}
use Rattle.std.specs.Ordering.{MatchOrdering, ordering_index, ordering_then}
use Rattle.std.proofs.lemmas.Bool.{cases_lt}
use Rattle.std.proofs.lemmas.Cmp.{nat_list_cmp_total, nat_cmp_total, ranked, tied_itself}
use Rattle.std.proofs.lemmas.List.{length_push, take_all, take_more}
use Rattle.std.proofs.lemmas.List.Elements.{Contains-push, Contains-push_cases, Contains-append_left}
use Rattle.std.proofs.lemmas.List.Sorted.{Contains-permutation, IsPermutation-sym, length_permutation}
use Rattle.std.proofs.lemmas.List.Sorted.{searchable_from_sorted}
use Rattle.std.proofs.lemmas.Option.{get_or_from_slice_get, slice_get_within}
use Rattle.loading.specs.declared.given.GivenClass.{GivenClass}
use Rattle.loading.specs.Families.{Family, name_in, file_of}
use Rattle.loading.specs.Names.{name_of, Precedes}
use Rattle.loading.proofs.PlaceLemmas.{map_push}
use Rattle.options.specs.Patterns.{dot_of, dotted, IsIn, whole, within}
use Rattle.options.specs.declared.sorted_names.DottedName.{DottedName}
use Rattle.options.specs.declared.sorted_names.NameRange.{NameRange}
use Rattle.options.specs.steps.Names.{ended, Begins, AddsName, AreNames, IsNameIn, AreSorted, IsFirstFrom, IsRunOf}

-- ---- a name, byte by byte

pub dotted_more : (name : List ℕ) (i b : ℕ) (old new : List ℕ) → i < length name → old ≡ dotted (take i name)
    → new ≡ old ++ b ∷ [] → b ≡ dot_of (get_or name i 0) → new ≡ dotted (take (i + 1) name)
dotted_more name i b old new small before more is =
    more ∙ ap (λ (l : List ℕ). l ++ b ∷ []) before
    ∙ ap (λ (x : ℕ). dotted (take i name) ++ x ∷ []) is
    ∙ sym (ap dotted (take_more name i 0 small) ∙ map_push dot_of (take i name) (get_or name i 0))

pub dotted_whole : (name : List ℕ) (i : ℕ) (old new : List ℕ) → length name ≤ i → old ≡ dotted (take i name)
    → new ≡ old ++ 46 ∷ [] → new ≡ ended name
dotted_whole name i old new end all more =
    more ∙ ap (λ (l : List ℕ). l ++ 46 ∷ []) (all ∙ ap dotted (take_all i name end))

-- ---- the names of classes, one by one

module _ (family : Family) (number : ℕ) (class : GivenClass) (at : slice_get family number ≡ Some class)
    (old new : List DottedName) (before : AreNames family number old)
    (adds : AddsName (name_of class.file) number old new) where
  named_here : IsNameIn family adds.added
  named_here = record {
    name = name_of class.file;
    named = subst (λ (k : ℕ). name_in family k ≡ Some (name_of class.file)) (sym adds.number)
        (ap (λ o. option_map name_of (file_of o)) at);
    bytes = adds.bytes;
  }

  each_more : (n : DottedName) → Contains (old ++ adds.added ∷ []) n → (n.class < number + 1) × IsNameIn family n
  each_more n held = elim (Contains-push_cases old adds.added n held) [
    | inl was ↦ let one = before.each n was in (omega (arith, one.0), one.1)
    | inr same ↦
        subst (λ (m : DottedName). (m.class < number + 1) × IsNameIn family m) same
        (omega (arith, adds.number), named_here)
  ]

  whole_more : (c : ℕ) → c < number + 1 → (n : DottedName) × Contains (old ++ adds.added ∷ []) n × (n.class ≡ c)
  whole_more c small = elim (cases_lt c number) [
    | inl below ↦
        let one = before.whole c below in (one.0, Contains-append_left old (adds.added ∷ []) one.0 one.1, one.2)
    | inr past ↦
        let same : number ≡ c = omega arith in
        (adds.added, Contains-push old adds.added, adds.number ∙ same)
  ]

  pub one_more_name : AreNames family (number + 1) new
  one_more_name = rw adds.new_is (record {
    count = (let long = length_push old adds.added in omega (arith, long, before.count));
    each = each_more;
    whole = whole_more;
  })

pub names_moved : (family : Family) (limit : ℕ) (old new : List DottedName) → IsPermutation old new
    → AreNames family limit old → AreNames family limit new
names_moved family limit old new moved are = record {
  count = length_permutation old new moved ∙ are.count;
  each = λ n held. are.each n (Contains-permutation new old n (IsPermutation-sym old new moved) held);
  whole = λ c small. (
      let one = are.whole c small in (one.0, Contains-permutation old new one.0 moved one.1, one.2));
}

-- ---- where names stop to precede a bound

no_later : (o p : Ordering) → ordering_index o ≤ ordering_index p → is_lt p ≡ true → is_lt o ≡ true
no_later Less p le is = refl
no_later Equal Less le is = absurd (omega (arith, le))
no_later Equal Equal le is = is
no_later Equal Greater le is = absurd cc
no_later Greater Less le is = absurd (omega (arith, le))
no_later Greater Equal le is = absurd cc
no_later Greater Greater le is = is

pub parted : (names : List DottedName) (bound : List ℕ) → AreSorted names
    → IsPartitionedBy (λ n. is_lt (slice_cmp nat_cmp n.bytes.items bound)) names
parted names bound sorted i j d le small is =
    no_later _ _
    (searchable_from_sorted nat_list_cmp_total (λ (n : DottedName). n.bytes.items) names bound sorted i j d le small) is

less_of : (o : Ordering) → is_lt o ≡ true → o ≡ Less
less_of Less is = refl
less_of Equal is = absurd cc
less_of Greater is = absurd cc

not_less_of : (o : Ordering) → is_lt o ≡ false → o ≡ Less → ⊥
not_less_of o is less = (let yes : is_lt o ≡ true = ap is_lt less in cc)

pub first_is : (names : List DottedName) (bound : List ℕ) (place : ℕ) → place ≤ length names
    → IsPartitionPoint (λ n. is_lt (slice_cmp nat_cmp n.bytes.items bound) ≡ true)
    (λ n. is_lt (slice_cmp nat_cmp n.bytes.items bound) ≡ false) names place
    → IsFirstFrom names bound place
first_is names bound place small point = record {
  within = small;
  before = λ i n below at. less_of _ (here true i n at (point.0 i n (omega arith) below));
  after = λ i n above at.
      not_less_of _ (here false i n at (point.1 i n above (slice_get_within names i n at)));
}
  where
    here : (b : Bool) (i : ℕ) (n : DottedName) → slice_get names i ≡ Some n
        → is_lt (slice_cmp nat_cmp (get_or names i n).bytes.items bound) ≡ b
        → is_lt (slice_cmp nat_cmp n.bytes.items bound) ≡ b
    here b i n at is =
        subst (λ (m : DottedName). is_lt (slice_cmp nat_cmp m.bytes.items bound) ≡ b)
        (get_or_from_slice_get names i n n at) is

-- ---- what stands between a text with a dot and one with a slash

-- a byte that is not below a dot, and is below a slash
dot_between : (b : ℕ) (r s tail : Ordering) → (tail ≡ Less → ⊥) → MatchOrdering r (b < 46) (b ≡ 46) (46 < b)
    → MatchOrdering s (b < 47) (b ≡ 47) (47 < b) → (ordering_then r tail ≡ Less → ⊥) → ordering_then s tail ≡ Less
    → b ≡ 46
dot_between b Less s tail up m k low high = absurd (low refl)
dot_between b Equal s tail up m k low high = m
dot_between b Greater Less tail up m k low high = omega (arith, m, k)
dot_between b Greater Equal tail up m k low high = absurd (up high)
dot_between b Greater Greater tail up m k low high = absurd cc

not_below_none : (bytes : List ℕ) → slice_cmp nat_cmp bytes [] ≡ Less → ⊥
not_below_none [] less = cc
not_below_none (b ∷ bs) less = cc

-- one byte more on either side
module _ (o b : ℕ) (os bs : List ℕ)
    (next : (Precedes bs (os ++ 46 ∷ []) → ⊥) → Precedes bs (os ++ 47 ∷ []) → Begins os bs)
    (low : Precedes (b ∷ bs) (o ∷ (os ++ 46 ∷ [])) → ⊥) (high : Precedes (b ∷ bs) (o ∷ (os ++ 47 ∷ []))) where
  between_more : (r : Ordering) → r ≡ nat_cmp b o → MatchOrdering r (b < o) (b ≡ o) (o < b) → Begins (o ∷ os) (b ∷ bs)
  between_more Less is m = absurd (low (ap (λ r. ordering_then r (slice_cmp nat_cmp bs (os ++ 46 ∷ []))) (sym is)))
  between_more Equal is m =
      let rest = next
      (λ less. low (ap (λ r. ordering_then r (slice_cmp nat_cmp bs (os ++ 46 ∷ []))) (sym is) ∙ less))
      (ap (λ r. ordering_then r (slice_cmp nat_cmp bs (os ++ 47 ∷ []))) is ∙ high) in
      (rest.0, ap (λ (x : ℕ). x ∷ bs) m ∙ ap (λ (l : List ℕ). o ∷ l) rest.1)
  between_more Greater is m =
      (let more : Greater ≡ Less =
      ap (λ r. ordering_then r (slice_cmp nat_cmp bs (os ++ 47 ∷ []))) is ∙ high in absurd cc)

between : (outer bytes : List ℕ) → (Precedes bytes (outer ++ 46 ∷ []) → ⊥) → Precedes bytes (outer ++ 47 ∷ [])
    → Begins outer bytes
between [] [] low high = absurd (low refl)
between [] (b ∷ bs) low high =
    let dot : b ≡ 46 = dot_between b _ _ (slice_cmp nat_cmp bs []) (not_below_none bs) (ranked b 46 _ refl)
    (ranked b 47 _ refl) low high in
    (bs, ap (λ (x : ℕ). x ∷ bs) dot)
between (o ∷ os) [] low high = absurd (low refl)
between (o ∷ os) (b ∷ bs) low high =
    between_more o b os bs (between os bs) low high (nat_cmp b o) refl (ranked b o _ refl)

-- bytes with one front compare as what follows
same_front : (front a b : List ℕ) → slice_cmp nat_cmp (front ++ a) (front ++ b) ≡ slice_cmp nat_cmp a b
same_front [] a b = refl
same_front (x ∷ xs) a b =
    ap (λ r. ordering_then r (slice_cmp nat_cmp (xs ++ a) (xs ++ b))) (tied_itself nat_cmp_total x)
    ∙ same_front xs a b

not_before : (outer rest : List ℕ) → Precedes (outer ++ 46 ∷ rest) (outer ++ 46 ∷ []) → ⊥
not_before outer rest less = not_below_none rest (sym (same_front outer (46 ∷ rest) (46 ∷ [])) ∙ less)

is_before : (outer rest : List ℕ) → Precedes (outer ++ 46 ∷ rest) (outer ++ 47 ∷ [])
is_before outer rest = same_front outer (46 ∷ rest) (47 ∷ [])

pub run_is : (names : List DottedName) (outer : List ℕ) (run : NameRange)
    → IsFirstFrom names (outer ++ 46 ∷ []) run.first → IsFirstFrom names (outer ++ 47 ∷ []) run.end
    → IsRunOf names outer run
run_is names outer run first end = record { within = end.within; places = λ i n at. (to i n at, from i n at) }
  where
    to : (i : ℕ) (n : DottedName) → slice_get names i ≡ Some n → (run.first ≤ i) × (i < run.end)
        → Begins outer n.bytes.items
    to i n at inside = between outer n.bytes.items (first.after i n inside.0 at) (end.before i n inside.1 at)

    from : (i : ℕ) (n : DottedName) → slice_get names i ≡ Some n → Begins outer n.bytes.items
        → (run.first ≤ i) × (i < run.end)
    from i n at (rest, is) = (low, high)
      where
        low : run.first ≤ i
        low = elim (cases_lt i run.first) [
          | inl below ↦
              absurd (not_before outer rest
              (subst (λ (bytes : List ℕ). Precedes bytes (outer ++ 46 ∷ [])) is (first.before i n below at)))
          | inr past ↦ past
        ]

        high : i < run.end
        high = elim (cases_lt i run.end) [
          | inl below ↦ below
          | inr past ↦
              absurd (end.after i n past at
              (subst (λ (bytes : List ℕ). Precedes bytes (outer ++ 47 ∷ [])) (sym is) (is_before outer rest)))
        ]

-- ---- a name begins so where the text is it, or begins it up to a dot

pub begins_in : (outer name : List ℕ) → IsIn outer name → Begins outer (name ++ 46 ∷ [])
begins_in outer name (whole e) = ([], ap (λ (l : List ℕ). l ++ 46 ∷ []) e)
begins_in outer name (within rest e) =
    (rest ++ 46 ∷ [], ap (λ (l : List ℕ). l ++ 46 ∷ []) e ∙ append_assoc outer (46 ∷ rest) (46 ∷ []))

pub in_begins : (outer name : List ℕ) → Begins outer (name ++ 46 ∷ []) → IsIn outer name
in_begins [] [] (rest, e) = whole refl
in_begins [] (b ∷ bs) (rest, e) = within bs (ap (λ (x : ℕ). x ∷ bs) (ap (λ (l : List ℕ). get_or l 0 0) e))
in_begins (o ∷ os) [] (rest, e) = absurd (no os (ap (drop 1) e))
  where
    no : (os : List ℕ) → [] ≡ os ++ 46 ∷ rest → ⊥
    no [] e = cc
    no (x ∷ xs) e = cc
in_begins (o ∷ os) (b ∷ bs) (rest, e) = by (in_begins os bs (rest, ap (drop 1) e))
  where
    same : b ≡ o
    same = ap (λ (l : List ℕ). get_or l 0 0) e

    by : IsIn os bs → IsIn (o ∷ os) (b ∷ bs)
    by (whole is) = whole (ap (λ (x : ℕ). x ∷ bs) same ∙ ap (λ (l : List ℕ). o ∷ l) is)
    by (within more is) = within more (ap (λ (x : ℕ). x ∷ bs) same ∙ ap (λ (l : List ℕ). o ∷ l) is)
