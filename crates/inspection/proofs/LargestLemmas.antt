-- The greatest of sizes, and the places of the greatest.
use Rattle.std.proofs.Common.{◌≡◌, ◌⊎◌, ◌∙◌, ℕ, zero, suc, ◌+◌, ◌-◌, ◌<◌, ◌≤◌, List, [], ◌∷◌, ◌++◌, length, set}
use Rattle.std.proofs.Common.{Option, Some, None, MatchOption, IfSome, append_assoc, inl, inr, refl, sym, ap, subst, arith}
use Rattle.std.specs.List.{All}
use Rattle.std.proofs.lemmas.Bool.{cases_lt}
use Rattle.std.proofs.lemmas.List.Elements.{All-cons, All-nil}
use Rattle.std.proofs.lemmas.List.{append-nil, get_or_past, length-set}
use Rattle.inspection.specs.Largest.{AreLargest, IsGreatest, size_at}
use Rattle.inspection.specs.declared.largest.Best.{Best}
use Rattle.inspection.specs.steps.Best.{IsBest, IsBestAt}
use Rattle.inspection.specs.steps.Completes.{Completes}

-- ---- the greatest

-- before the first size
pub best_of_none : (sizes : List ℕ) (best : Best) → best ≡ record { place = None; size = 0 } → IsBest sizes 0 best
best_of_none sizes best is = subst (IsBest sizes 0) (sym is) (record {
  below = λ d low. absurd (omega (arith, low));
  is = refl;
})

split_last : (P : ℕ → Type 0) (i : ℕ) → ((d : ℕ) → d < i → P d) → P i → (d : ℕ) → d < i + 1 → P d
split_last P i below here d low = elim (cases_lt d i) [
  | inl less ↦ below d less
  | inr more ↦ let same : i ≡ d = omega (arith, low, more) in subst P same here
]

-- the next size is greater
pub best_is_next : (sizes : List ℕ) (i size : ℕ) (best : Best) → size ≡ size_at sizes i → IsBest sizes i best
    → best.size < size → IsBest sizes (i + 1) (record { place = Some i; size = size })
best_is_next sizes i size best at is more = record {
  below = split_last (λ d. size_at sizes d ≤ size) i (λ d low. omega (arith, is.below d low, more)) (omega (arith, at));
  is = record {
    low = omega arith;
    is = sym at;
    some = omega (arith, more);
    before = λ d low. omega (arith, is.below d low, more);
  };
}

still_first : (sizes : List ℕ) (i most : ℕ) (place : Option ℕ) → IsBestAt sizes i most place
    → IsBestAt sizes (i + 1) most place
still_first sizes i most None is = is
still_first sizes i most (Some c) is = record {
  low = omega (arith, is.low);
  is = is.is;
  some = is.some;
  before = is.before;
}

-- and where it is not
pub best_stays : (sizes : List ℕ) (i size : ℕ) (best : Best) → size ≡ size_at sizes i → IsBest sizes i best
    → size ≤ best.size → IsBest sizes (i + 1) best
best_stays sizes i size best at is low = record {
  below = split_last (λ d. size_at sizes d ≤ best.size) i is.below (omega (arith, at, low));
  is = still_first sizes i best.size best.place is.is;
}

all_below : (sizes : List ℕ) (most : ℕ) → ((d : ℕ) → d < length sizes → size_at sizes d ≤ most)
    → (d : ℕ) → size_at sizes d ≤ most
all_below sizes most below d = elim (cases_lt d (length sizes)) [
  | inl low ↦ below d low
  | inr past ↦ let none : size_at sizes d ≡ 0 = get_or_past sizes d 0 past in omega (arith, none)
]

greatest_at : (sizes : List ℕ) (i most : ℕ) (place : Option ℕ) → ((d : ℕ) → size_at sizes d ≤ most)
    → IsBestAt sizes i most place → MatchOption place ((d : ℕ) → size_at sizes d ≡ 0) (IsGreatest sizes)
greatest_at sizes i most None low is = λ d. let none : most ≡ 0 = is in omega (arith, low d, none)
greatest_at sizes i most (Some c) low is =
    let at : size_at sizes c ≡ most = is.is in
    record {
      some = omega (arith, is.some, at);
      before = λ d less. omega (arith, is.before d less, at);
      all = λ d. omega (arith, low d, at);
    }

-- the best of all sizes is the greatest
pub greatest_is_best : (sizes : List ℕ) (i : ℕ) (best : Best) → length sizes ≤ i → IsBest sizes i best
    → MatchOption best.place ((d : ℕ) → size_at sizes d ≡ 0) (IsGreatest sizes)
greatest_is_best sizes i best past is =
    greatest_at sizes i best.size best.place
    (all_below sizes best.size (λ d low. is.below d (omega (arith, low, past)))) is.is

-- a size above 0 is one of the sizes
pub greatest_within : (sizes : List ℕ) (c : ℕ) → IsGreatest sizes c → c < length sizes
greatest_within sizes c is = elim (cases_lt c (length sizes)) [
  | inl low ↦ low
  | inr past ↦ let none : size_at sizes c ≡ 0 = get_or_past sizes c 0 past in absurd (omega (arith, none, is.some))
]

pub found_within : (sizes : List ℕ) (place : Option ℕ)
    → MatchOption place ((d : ℕ) → size_at sizes d ≡ 0) (IsGreatest sizes)
    → IfSome place (λ (c : ℕ). c < length sizes)
found_within sizes None is = tt
found_within sizes (Some c) is = greatest_within sizes c is

-- ---- the places of the greatest

-- where all sizes are 0 there is none
pub none_of_zeros : (most : ℕ) (sizes : List ℕ) → ((d : ℕ) → size_at sizes d ≡ 0) → AreLargest most sizes []
none_of_zeros zero sizes zeros = refl
none_of_zeros (suc most) sizes zeros = inl (zeros, refl)

-- the greatest, and then the others
largest_more : (count : ℕ) (left : List ℕ) (c : ℕ) (rest : List ℕ) → IsGreatest left c
    → AreLargest count (set left c 0) rest → AreLargest (suc count) left (c ∷ rest)
largest_more count left c rest is others = inr (c, rest, is, others, refl)

pub completes_more : (most : ℕ) (sizes : List ℕ) (count : ℕ) (left places after found : List ℕ) (c : ℕ)
    → count < most → IsGreatest left c → after ≡ set left c 0 → found ≡ places ++ c ∷ []
    → Completes most sizes count left places → Completes most sizes (count + 1) after found
completes_more most sizes count left places after found c low is without more so_far rest are =
    let one : most - count ≡ suc (most - (count + 1)) = omega (arith, low) in
    let others : AreLargest (most - (count + 1)) (set left c 0) rest =
    subst (λ (l : List ℕ). AreLargest (most - (count + 1)) l rest) without are in
    let all = largest_more (most - (count + 1)) left c rest is others in
    let whole = so_far (c ∷ rest) (subst (λ (n : ℕ). AreLargest n left (c ∷ rest)) (sym one) all) in
    subst (AreLargest most sizes)
    (sym (append_assoc places (c ∷ []) rest) ∙ ap (λ (l : List ℕ). l ++ rest) (sym more)) whole

-- where all that is left is 0
pub completes_early : (most : ℕ) (sizes : List ℕ) (count : ℕ) (left places : List ℕ)
    → ((d : ℕ) → size_at left d ≡ 0) → Completes most sizes count left places → AreLargest most sizes places
completes_early most sizes count left places zeros so_far =
    subst (AreLargest most sizes) (append-nil places) (so_far [] (none_of_zeros (most - count) left zeros))

-- where there are as many as are wanted
pub completes_last : (most : ℕ) (sizes : List ℕ) (count : ℕ) (left places : List ℕ) → most ≤ count
    → Completes most sizes count left places → AreLargest most sizes places
completes_last most sizes count left places all so_far =
    let none : 0 ≡ most - count = omega (arith, all) in
    let last : AreLargest 0 left [] = refl in
    subst (AreLargest most sizes) (append-nil places)
    (so_far [] (subst (λ (n : ℕ). AreLargest n left []) none last))

-- each is one of the sizes
pub largest_within : (most : ℕ) (sizes places : List ℕ) → AreLargest most sizes places
    → All (λ (c : ℕ). c < length sizes) places
largest_within zero sizes places are =
    subst (λ (l : List ℕ). All (λ (c : ℕ). c < length sizes) l) (sym are) (All-nil (λ (c : ℕ). c < length sizes))
largest_within (suc most) sizes places are = elim are [
  | inl none ↦
      subst (λ (l : List ℕ). All (λ (c : ℕ). c < length sizes) l) (sym none.1) (All-nil (λ (c : ℕ). c < length sizes))
  | inr some ↦
      let c = some.0 in
      let rest = some.1 in
      let others = largest_within most (set sizes c 0) rest some.3 in
      subst (λ (l : List ℕ). All (λ (c : ℕ). c < length sizes) l) (sym some.4)
      (All-cons (λ (d : ℕ). d < length sizes) c rest (greatest_within sizes c some.2)
      (subst (λ (n : ℕ). All (λ (d : ℕ). d < n) rest) (length-set sizes c 0) others))
]
