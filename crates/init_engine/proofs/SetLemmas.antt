-- Lists in which one item is set anew.
use Rattle.std.proofs.Common.{◌≡◌, ℕ, zero, suc, List, [], ◌∷◌, Some, slice_get, slice_set, refl, ap}

pub get_set : {X : Type 0} (xs : List X) (i : ℕ) (a b : X) → slice_get xs i ≡ Some a
    → slice_get (slice_set xs i b) i ≡ Some b
get_set [] i a b h = cc
get_set (x ∷ xs) zero a b h = refl
get_set (x ∷ xs) (suc i) a b h = get_set xs i a b h

pub set_same : {X : Type 0} (xs : List X) (i : ℕ) (a : X) → slice_get xs i ≡ Some a → xs ≡ slice_set xs i a
set_same [] i a h = cc
set_same (x ∷ xs) zero a h = let e : x ≡ a = cc in ap (λ y. y ∷ xs) e
set_same (x ∷ xs) (suc i) a h = ap (λ r. x ∷ r) (set_same xs i a h)
