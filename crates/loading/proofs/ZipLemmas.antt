-- Two lists, item by item.
use Rattle.std.proofs.Common.{◌≡◌, ℕ, zero, suc, List, [], ◌∷◌, ◌++◌, length, Some, refl, arith}
use Rattle.std.specs.List.{AllZip, slice_get}
use Rattle.std.proofs.lemmas.Option.{same_Some}

pub pair_at : {A B : Type 0} (R : A → B → Type 0) (xs : List A) (ys : List B) (k : ℕ) (x : A) (y : B) → AllZip R xs ys
    → slice_get xs k ≡ Some x
    → slice_get ys k ≡ Some y → R x y
pair_at R [] ys k x y all at-x at-y = cc
pair_at R (a ∷ xs) [] k x y all at-x at-y = cc
pair_at R (a ∷ xs) (b ∷ ys) zero x y all at-x at-y =
    (let first : a ≡ x = same_Some a x at-x in let second : b ≡ y = same_Some b y at-y in rw (first, second) at all.0)
pair_at R (a ∷ xs) (b ∷ ys) (suc k) x y all at-x at-y = pair_at R xs ys k x y all.1 at-x at-y

pub pairs_push : {A B : Type 0} (R : A → B → Type 0) (xs : List A) (ys : List B) (x : A) (y : B) → AllZip R xs ys
    → R x y → AllZip R (xs ++ x ∷ []) (ys ++ y ∷ [])
pairs_push R [] [] x y all pair = (pair, tt)
pairs_push R [] (b ∷ ys) x y all pair = absurd all
pairs_push R (a ∷ xs) [] x y all pair = absurd all
pairs_push R (a ∷ xs) (b ∷ ys) x y all pair = (all.0, pairs_push R xs ys x y all.1 pair)

pub pairs_length : {A B : Type 0} (R : A → B → Type 0) (xs : List A) (ys : List B) → AllZip R xs ys
    → length ys ≡ length xs
pairs_length R [] [] all = refl
pairs_length R [] (b ∷ ys) all = absurd all
pairs_length R (a ∷ xs) [] all = absurd all
pairs_length R (a ∷ xs) (b ∷ ys) all = (let rest : length ys ≡ length xs = pairs_length R xs ys all.1 in omega arith)

-- the partner of an item
pub partner_of : {A B : Type 0} (R : A → B → Type 0) (xs : List A) (ys : List B) (k : ℕ) (x : A) → AllZip R xs ys
    → slice_get xs k ≡ Some x → (y : B) × R x y
partner_of R [] ys k x all at-x = cc
partner_of R (a ∷ xs) [] k x all at-x = absurd all
partner_of R (a ∷ xs) (b ∷ ys) zero x all at-x = (let first : a ≡ x = same_Some a x at-x in (b, rw first at all.0))
partner_of R (a ∷ xs) (b ∷ ys) (suc k) x all at-x = partner_of R xs ys k x all.1 at-x
