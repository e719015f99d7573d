-- Lists whose items are equal.
use Rattle.std.proofs.Common.{◌≡◌, ℕ, zero, suc, ◌<◌, List, [], ◌∷◌, length, Some, slice_get, refl, arith}
use Rattle.std.specs.List.{AllZip}

pub same_list : {X : Type 0} (xs ys : List X) → length xs ≡ length ys
    → ((i : ℕ) (x y : X) → slice_get xs i ≡ Some x → slice_get ys i ≡ Some y → x ≡ y) → xs ≡ ys
same_list [] [] long each = refl
same_list [] (y ∷ ys) long each = absurd (omega arith)
same_list (x ∷ xs) [] long each = absurd (omega arith)
same_list (x ∷ xs) (y ∷ ys) long each =
    let head : x ≡ y = each 0 x y refl refl in
    let tail : xs ≡ ys = same_list xs ys (omega arith) (λ i a b. each (suc i) a b) in
    cc

-- the item of a place
pub item_within : {X : Type 0} (xs : List X) (i : ℕ) → i < length xs → (x : X) × (slice_get xs i ≡ Some x)
item_within [] i within = absurd (omega arith)
item_within (x ∷ xs) zero within = (x, refl)
item_within (x ∷ xs) (suc i) within = item_within xs i (omega arith)

-- a list has one partner, where each item has one
pub same_partners : {X Y : Type 0} (R : X → Y → Type 0) → ((x : X) (a b : Y) → R x a → R x b → a ≡ b)
    → (xs : List X) (ys zs : List Y) → AllZip R xs ys → AllZip R xs zs → ys ≡ zs
same_partners R one [] [] [] h g = refl
same_partners R one [] [] (z ∷ zs) h g = absurd g
same_partners R one [] (y ∷ ys) zs h g = absurd h
same_partners R one (x ∷ xs) [] zs h g = absurd h
same_partners R one (x ∷ xs) (y ∷ ys) [] h g = absurd g
same_partners R one (x ∷ xs) (y ∷ ys) (z ∷ zs) h g =
    let head : y ≡ z = one x y z h.0 g.0 in
    let tail : ys ≡ zs = same_partners R one xs ys zs h.1 g.1 in
    cc
