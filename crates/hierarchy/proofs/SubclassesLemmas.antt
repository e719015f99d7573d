-- What stands above a class is what the list of it has.
use Rattle.std.proofs.Common.{◌≡◌, ◌↔◌, ℕ, zero, suc, ◌≤◌, true, false, eqb, List, [], ◌∷◌, ◌++◌, length, get_or}
use Rattle.std.proofs.Common.{refl, sym, subst, inl, inr, arith}
use Rattle.std.specs.List.{Contains, IsDistinct, flat_map}
use Rattle.std.proofs.lemmas.Bool.{ne_eqb}
use Rattle.std.proofs.lemmas.List.Elements.{Contains-get_or, Contains-append_left, Contains-append_right}
use Rattle.std.proofs.lemmas.List.Elements.{Contains-append_cases, recursion_from_All}
use Rattle.std.proofs.lemmas.Map.Keys.{IsDistinct-cons}
use Rattle.std.proofs.lemmas.Map.Steps.{length-le_from_distinct_below}
use Rattle.loading.specs.Families.{Family, IsFamily, IsAncestor, parent, further, parents_in, AreParentsWithin}
use Rattle.hierarchy.specs.Subclasses.{above_within, all_above, is_above}
use Rattle.hierarchy.proofs.AboveLemmas.{ancestor_of_parent}
use Rattle.hierarchy.proofs.FirstsLemmas.{has_tells}
use Rattle.hierarchy.proofs.InitializationLemmas.{ancestor_within, listed}

-- ---- lists put together

pub first_of : {A : Type 0} (x : A) (xs : List A) → Contains (x ∷ xs) x
first_of x xs = (0, omega arith, refl)

pub later_of : {A : Type 0} (x : A) (xs : List A) (y : A) → Contains xs y → Contains (x ∷ xs) y
later_of x xs y (k, small, e) = (suc k, omega arith, e)

none_in : {A : Type 0} {y : A} → Contains [] y → ⊥
none_in (k, small, e) = omega arith

in_flat_map : (f : ℕ → List ℕ) (xs : List ℕ) (d y : ℕ) → Contains xs d → Contains (f d) y → Contains (flat_map f xs) y
in_flat_map f [] d y among has = absurd (none_in among)
in_flat_map f (x ∷ xs) d y (zero, small, e) has =
    Contains-append_left (f x) (flat_map f xs) y (subst (λ (z : ℕ). Contains (f z) y) (sym e) has)
in_flat_map f (x ∷ xs) d y (suc k, small, e) has =
    Contains-append_right (f x) (flat_map f xs) y (in_flat_map f xs d y (k, omega arith, e) has)

from_flat_map : (f : ℕ → List ℕ) (xs : List ℕ) (y : ℕ) → Contains (flat_map f xs) y
    → (d : ℕ) × Contains xs d × Contains (f d) y
from_flat_map f [] y has = absurd (none_in has)
from_flat_map f (x ∷ xs) y has = elim (Contains-append_cases (f x) (flat_map f xs) y has) [
  | inl front ↦ (x, first_of x xs, front)
  | inr back ↦ (let rest = from_flat_map f xs y back in (rest.0, later_of x xs rest.0 rest.1, rest.2))
]

-- ---- ways up

-- some classes, each a parent of the one before it, from a class up to another one
data Way (family : Family) : ℕ → List ℕ → ℕ → Type 0 where
  one : {c d : ℕ} → Contains (parents_in family c) d → Way family c (d ∷ []) d
  more : {c d e : ℕ} {ds : List ℕ} → Contains (parents_in family c) d → Way family d ds e → Way family c (d ∷ ds) e

module _ (family : Family) where
  way_on : {c d e : ℕ} {ds : List ℕ} → Way family c ds d → Contains (parents_in family d) e
      → Way family c (ds ++ e ∷ []) e
  way_on (one h) edge = more h (one edge)
  way_on (more h way) edge = more h (way_on way edge)

  way_to : {c e : ℕ} → IsAncestor family c e → (ds : List ℕ) × Way family c ds e
  way_to (parent {d = d} h) = (d ∷ [], one h)
  way_to (further {e = e} up h) = let way = way_to up in (way.0 ++ e ∷ [], way_on way.1 h)

  parent_at : (c d x : ℕ) → Contains (parents_in family c) d → d ≡ x → IsAncestor family c x
  parent_at c d x edge e = parent (subst (λ (z : ℕ). Contains (parents_in family c) z) e edge)

  way_above : {c e : ℕ} {ds : List ℕ} (x : ℕ) → Way family c ds e → Contains ds x → IsAncestor family c x
  way_above {c} x (one {d = d} edge) (zero, small, e) = parent_at c d x edge e
  way_above x (one edge) (suc k, small, e) = absurd (omega arith)
  way_above {c} x (more {d = d} edge way) (zero, small, e) = parent_at c d x edge e
  way_above x (more edge way) (suc k, small, e) = ancestor_of_parent edge (way_above x way (k, omega arith, e))

  module _ (fits : IsFamily family) where
    -- no class is above itself, so none stands twice on a way
    way_distinct : {c e : ℕ} {ds : List ℕ} → Way family c ds e → IsDistinct eqb ds
    unfolding IsDistinct
    way_distinct (one edge) = (tt, tt)
    way_distinct (more {d = d} {ds = ds} edge way) =
        IsDistinct-cons eqb d ds
        (recursion_from_All (λ y. eqb d y ≡ false) ds
        (λ k y small. ne_eqb d (get_or ds k y)
        (λ e. fits.acyclic d (subst (λ (z : ℕ). IsAncestor family d z) (sym e)
        (way_above (get_or ds k y) way (Contains-get_or ds k y small))))))
        (way_distinct way)

    way_short : AreParentsWithin family → {c e : ℕ} {ds : List ℕ} → Way family c ds e → length ds ≤ length family
    way_short within {ds = ds} way =
        length-le_from_distinct_below ds (length family) (way_distinct way)
        (λ q has. ancestor_within family within (way_above q way (listed family q ds has)))

  way_listed : (n : ℕ) {c e : ℕ} {ds : List ℕ} → Way family c ds e → length ds ≤ n
      → Contains (above_within n family c) e
  way_listed zero (one edge) short = absurd (omega arith)
  way_listed zero (more edge way) short = absurd (omega arith)
  way_listed (suc n) {c} (one {d = d} edge) short =
      in_flat_map (λ d. d ∷ above_within n family d) (parents_in family c) d d edge
      (first_of d (above_within n family d))
  way_listed (suc n) {c} (more {d = d} {e = e} edge way) short =
      in_flat_map (λ d. d ∷ above_within n family d) (parents_in family c) d e edge
      (later_of d (above_within n family d) e (way_listed n way (omega arith)))

  -- ---- what is listed is above

  listed_above : (n c y : ℕ) → Contains (above_within n family c) y → IsAncestor family c y
  listed_above zero c y has = absurd (none_in has)
  listed_above (suc n) c y has =
      let from = from_flat_map (λ d. d ∷ above_within n family d) (parents_in family c) y has in
      up from.0 from.1 from.2 (listed_above n from.0 y)
    where
      up : (d : ℕ) → Contains (parents_in family c) d → Contains (d ∷ above_within n family d) y
          → (Contains (above_within n family d) y → IsAncestor family d y) → IsAncestor family c y
      up d edge (zero, small, e) rest = parent_at c d y edge e
      up d edge (suc k, small, e) rest = ancestor_of_parent edge (rest (k, omega arith, e))

pub all_above_are : (family : Family) (c d : ℕ) → IsFamily family → AreParentsWithin family
    → Contains (all_above family c) d ↔ IsAncestor family c d
all_above_are family c d fits within = (
  listed_above family (length family) c d,
  λ up. (let way = way_to family up in
      way_listed family (length family) way.1 (way_short family fits within way.1)),
)

pub above_tells : (family : Family) (c d : ℕ) → IsFamily family → AreParentsWithin family
    → IsAncestor family c d ↔ (is_above family c d ≡ true)
above_tells family c d fits within =
    let has = has_tells d (all_above family c) in
    let all = all_above_are family c d fits within in
    (λ up. has.1 (all.1 up), λ is. all.0 (has.0 is))
