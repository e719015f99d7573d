-- Numbers that are equal or not, and lists seen as functions from places, with a value past the end.
use Rattle.std.proofs.Common.{◌≡◌, ◌≢◌, ℕ, zero, suc, ◌+◌, ◌<◌, ◌⊎◌, inl, inr, Bool, true, false, List, [], ◌∷◌}
use Rattle.std.proofs.Common.{◌++◌, drop, length, get_or, slice_set}
use Rattle.std.proofs.Common.{replicate, refl, sym, ◌∙◌, ◌==◌, eqb-true, eq-eqb, if◌then◌else◌, arith}
use Rattle.std.proofs.Common.{get_or-set_same, get_or-set_other}
use Rattle.std.proofs.lemmas.List.{get_or_past, get_or_default, get_or-replicate, get_or_append_left}
use Rattle.std.proofs.lemmas.List.{get_or-append_right}
use Rattle.std.proofs.lemmas.Grind.{common_steps}
use Rattle.std.proofs.Common.{Some, ap, slice_get, reverse, map, option_map}
use Rattle.std.proofs.lemmas.List.{reverse-reverse}
use Rattle.std.proofs.lemmas.Option.{slice_get-get_or, slice_get-map}

pub tested : (b : Bool) → (b ≡ true) ⊎ (b ≡ false)
tested true = inl refl
tested false = inr refl

pub unequal : (i j : ℕ) → (i == j) ≡ false → i ≢ j
unequal i j e q = let clash : false ≡ true = sym e ∙ eq-eqb i j q in cc

-- a place written
pub get_or-slice_set : {X : Type 0} (xs : List X) (i j : ℕ) (x d : X) → i < length xs
    → get_or (slice_set xs i x) j d ≡ (if j == i then x else get_or xs j d)
get_or-slice_set xs i j x d h = elim (tested (j == i)) [
  | inl e ↦ let same : j ≡ i = eqb-true j i e in rw (e, same) (get_or-set_same xs i x d h)
  | inr e ↦ rw e (get_or-set_other xs i j x d (unequal j i e))
]

-- what stands past the end was there before, so to say
pub get_or-filled : {X : Type 0} (xs : List X) (n j : ℕ) (d : X) → get_or (xs ++ replicate n d) j d ≡ get_or xs j d
get_or-filled xs n j d =
    grind (arith, common_steps, get_or_past, get_or_default, get_or-replicate, get_or_append_left, get_or-append_right)

-- what stands at a place of a list, with any value past the end
pub item_at : {X : Type 0} (xs : List X) (i : ℕ) (x : X) → i < length xs → x ≡ get_or xs i x → slice_get xs i ≡ Some x
item_at xs i x inside is = slice_get-get_or xs i x inside ∙ ap Some (sym is)

pub reverse_same : {X : Type 0} (xs ys : List X) → reverse xs ≡ reverse ys → xs ≡ ys
reverse_same xs ys h = sym (reverse-reverse xs) ∙ (ap reverse h ∙ reverse-reverse ys)

-- lists whose images are apart at a place are apart
pub apart_at : {X Y : Type 0} (f : X → Y) (xs ys : List X) (i : ℕ) (d e : X) → i < length xs → i < length ys
    → f (get_or xs i d) ≢ f (get_or ys i e) → map f xs ≢ map f ys
apart_at f xs ys i d e inside within apart same =
    let a : slice_get (map f xs) i ≡ Some (f (get_or xs i d)) =
    slice_get-map f xs i ∙ ap (option_map f) (slice_get-get_or xs i d inside) in
    let b : slice_get (map f ys) i ≡ Some (f (get_or ys i e)) =
    slice_get-map f ys i ∙ ap (option_map f) (slice_get-get_or ys i e within) in
    let h : Some (f (get_or xs i d)) ≡ Some (f (get_or ys i e)) = sym a ∙ (ap (λ zs. slice_get zs i) same ∙ b) in
    apart cc

-- what is left from a place on is the item there, and what is left from the next
pub drop_item : {X : Type 0} (xs : List X) (i : ℕ) (x : X) → slice_get xs i ≡ Some x → drop i xs ≡ x ∷ drop (i + 1) xs
drop_item [] i x at = cc
drop_item (y ∷ ys) zero x at =
    let same : y ≡ x = cc in
    let next : suc zero ≡ zero + 1 = omega arith in
    ap (λ z. z ∷ ys) same ∙ ap (λ k. x ∷ drop k (y ∷ ys)) next
drop_item (y ∷ ys) (suc i) x at =
    let next : suc (i + 1) ≡ suc i + 1 = omega arith in
    drop_item ys i x at ∙ ap (λ k. x ∷ drop k (y ∷ ys)) next
