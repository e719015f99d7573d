-- Classes one after another in an order that is depth first.
use Rattle.std.proofs.Common.{◌≡◌, ℕ, zero, suc, ◌+◌, ◌<◌, ◌≤◌, List, [], ◌∷◌, ◌++◌, length, Option, Some, slice_get}
use Rattle.std.proofs.Common.{take, drop, get_or, sym, ap, ◌∙◌, subst, inl, inr, arith}
use Rattle.std.specs.List.{Contains}
use Rattle.std.proofs.lemmas.List.{take_more, length-take-le, drop_more}
use Rattle.std.proofs.lemmas.List.Elements.{Contains-append_left, Contains-append_right, Contains-push_cases}
use Rattle.loading.specs.Families.{Family, superclasses_in}
use Rattle.loading.proofs.PlaceLemmas.{contains_at, place_in, last_at}
use Rattle.hierarchy.specs.steps.DepthFirst.{IsAtOrAbove, same, up, MayFollow, root, below, IsDepthFirst, next}
use Rattle.hierarchy.specs.steps.DepthFirst.{StandOnce, ArePlaces}
use Rattle.hierarchy.specs.steps.Reaches.{IsLast, StandsBehind}
use Rattle.hierarchy.proofs.RowLemmas.{at_head}

-- with a class all above it is there
abbrev pub HasAllAbove : Family → List ℕ → Type 0
HasAllAbove family xs = (v d : ℕ) → Contains xs v → IsAtOrAbove family v d → Contains xs d

last_is_there : (xs : List ℕ) (b : ℕ) → IsLast xs (Some b) → Contains xs b
last_is_there xs b last = contains_at xs last.0 b last.2

superclass_is_there : (family : Family) (xs : List ℕ) (before : Option ℕ) (c e : ℕ) → HasAllAbove family xs
    → MayFollow family before c → IsLast xs before → superclasses_in family c ≡ e ∷ [] → Contains xs e
superclass_is_there family xs before c e all (root is) last has =
    let clash : [] ≡ e ∷ [] = sym is ∙ has in absurd cc
superclass_is_there family xs (Some b) c e all (below {d = d} is way) last has =
    let both : d ∷ [] ≡ e ∷ [] = sym is ∙ has in
    let equal : d ≡ e = cc in
    subst (Contains xs) equal (all b d (last_is_there xs b last) way)

pub all_above_next : (family : Family) (xs : List ℕ) (before : Option ℕ) (c : ℕ) → HasAllAbove family xs
    → MayFollow family before c → IsLast xs before → HasAllAbove family (xs ++ c ∷ [])
all_above_next family xs before c all may last v d there way = elim (Contains-push_cases xs c v there) [
  | inl old ↦ Contains-append_left xs (c ∷ []) d (all v d old way)
  | inr new ↦ from_here d (subst (λ x. IsAtOrAbove family x d) (sym new) way)
]
  where
    from_here : (d : ℕ) → IsAtOrAbove family c d → Contains (xs ++ c ∷ []) d
    from_here d same = Contains-append_right xs (c ∷ []) d (at_head d [])
    from_here d (up {d = e} has rest) =
        Contains-append_left xs (c ∷ []) d
        (all e d (superclass_is_there family xs before c e all may last has) rest)

-- a class that comes next stands behind its superclass
pub stands_behind : (family : Family) (order places : List ℕ) (p c : ℕ) (before : Option ℕ) → p ≤ length order
    → StandOnce order → ArePlaces order places → HasAllAbove family (take p order) → MayFollow family before c
    → IsLast (take p order) before → StandsBehind family places (take p order) c p
stands_behind family order places p c before small once places_are all may last = record {
  count = length-take-le p order small;
  above = λ d has.
      let there = place_in (take p order) d
      (superclass_is_there family (take p order) before c d all may last has) in
      let whole : slice_get order there.0 ≡ Some d = from_take order p there.0 d there.1 in
      let placed = places_are d (contains_at order there.0 d whole) in
      let equal : there.0 ≡ get_or places d 0 = once there.0 (get_or places d 0) d whole placed in
      ap (slice_get (take p order)) (sym equal) ∙ there.1;
}
  where
    from_take : (xs : List ℕ) (n i x : ℕ) → slice_get (take n xs) i ≡ Some x → slice_get xs i ≡ Some x
    from_take [] zero i x h = h
    from_take [] (suc n) i x h = h
    from_take (y ∷ ys) zero i x h = absurd cc
    from_take (y ∷ ys) (suc n) zero x h = h
    from_take (y ∷ ys) (suc n) (suc i) x h = from_take ys n i x h

pub last_next : (order : List ℕ) (p : ℕ) → p < length order → IsLast (take (p + 1) order) (Some (get_or order p 0))
last_next order p small =
    let is : take (p + 1) order ≡ take p order ++ get_or order p 0 ∷ [] = take_more order p 0 small in
    let count : length (take p order) ≡ p = length-take-le p order (omega (arith, small)) in (
      p,
      omega (arith, length-take-le (p + 1) order (omega (arith, small))),
      ap (λ l. slice_get l p) is
          ∙ ap (slice_get (take p order ++ get_or order p 0 ∷ [])) (sym count)
          ∙ last_at (take p order) (get_or order p 0),
    )

pub next_may : (family : Family) (before : Option ℕ) (order : List ℕ) (p : ℕ) → p < length order
    → IsDepthFirst family before (drop p order)
    → MayFollow family before (get_or order p 0) × IsDepthFirst family (Some (get_or order p 0)) (drop (p + 1) order)
next_may family before order p small ordered =
    split (subst (IsDepthFirst family before) (drop_more order p 0 small) ordered)
  where
    split : {c : ℕ} {cs : List ℕ} → IsDepthFirst family before (c ∷ cs)
        → MayFollow family before c × IsDepthFirst family (Some c) cs
    split (next may rest) = (may, rest)
