-- Lists that are related place by place, as a loop makes the second along the first.
use Rattle.std.proofs.Common.{◌≡◌, ℕ, zero, suc, ◌+◌, List, [], ◌∷◌, ◌++◌, take, ◌<◌, length, get_or, Some, slice_get}
use Rattle.std.proofs.Common.{ap, sym, subst, arith}
use Rattle.std.specs.List.{AllZip}

-- the item that a loop looks at
pub item_at : {A : Type 0} (xs : List A) (i : ℕ) (x : A) → i < length xs → x ≡ get_or xs i x → slice_get xs i ≡ Some x
item_at [] i x within is = absurd (omega (arith, within))
item_at (a ∷ xs) zero x within is = ap Some (sym is)
item_at (a ∷ xs) (suc i) x within is = item_at xs i x (omega (arith, within)) is

module _ {A B : Type 0} (R : A → B → Type 0) where
  longer : (xs : List A) (ys : List B) (i : ℕ) (x : A) (y : B) → slice_get xs i ≡ Some x → AllZip R (take i xs) ys
      → R x y →
      AllZip R (take (suc i) xs) (ys ++ y ∷ [])
  longer [] ys i x y at all r = cc
  longer (a ∷ xs) [] zero x y at all r = let same : a ≡ x = cc in (subst (λ b. R b y) (sym same) r, tt)
  longer (a ∷ xs) (b ∷ ys) zero x y at all r = absurd all
  longer (a ∷ xs) [] (suc i) x y at all r = absurd all
  longer (a ∷ xs) (b ∷ ys) (suc i) x y at all r = (all.0, longer xs ys i x y at all.1 r)

  pub one_more : (xs : List A) (ys zs : List B) (i : ℕ) (x : A) (y : B) → i < length xs → x ≡ get_or xs i x
      → AllZip R (take i xs) ys →
      R x y → zs ≡ ys ++ y ∷ [] → AllZip R (take (i + 1) xs) zs
  one_more xs ys zs i x y within is all r e =
      let next : suc i ≡ i + 1 = grind arith in
      subst (λ n. AllZip R (take n xs) zs) next
      (subst (AllZip R (take (suc i) xs)) (sym e) (longer xs ys i x y (item_at xs i x within is) all r))
