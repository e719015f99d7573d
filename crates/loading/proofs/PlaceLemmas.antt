-- Elements and their places.
use Rattle.std.proofs.Common.{◌≡◌, ℕ, zero, suc, ◌⊎◌, List, [], ◌∷◌, ◌++◌, length, map, Some, slice_get, refl, ap, ◌∙◌}
use Rattle.std.proofs.Common.{inl, inr, cond, eqb}
use Rattle.std.proofs.Math.Dec.{eqb-zero-suc, eqb-suc-zero, eqb-suc-suc}
use Rattle.std.specs.List.{Contains}
use Rattle.std.proofs.lemmas.Option.{slice_get_within, slice_get-get_or, get_or_from_slice_get}

pub contains_at : {A : Type 0} (xs : List A) (i : ℕ) (x : A) → slice_get xs i ≡ Some x → Contains xs x
contains_at xs i x h = (i, slice_get_within xs i x h, get_or_from_slice_get xs i x x h)

pub place_in : {A : Type 0} (xs : List A) (x : A) → Contains xs x → (i : ℕ) × (slice_get xs i ≡ Some x)
place_in xs x h = (h.0, slice_get-get_or xs h.0 x h.1 ∙ ap Some h.2)

-- at a place of a mapped list stands what the element there is mapped to
pub mapped_at : {A B : Type 0} (f : A → B) (xs : List A) (i : ℕ) (x : A) → slice_get xs i ≡ Some x
    → slice_get (map f xs) i ≡ Some (f x)
mapped_at f [] i x h = absurd cc
mapped_at f (y ∷ ys) zero x h = let same : y ≡ x = cc in ap (λ z. Some (f z)) same
mapped_at f (y ∷ ys) (suc i) x h = mapped_at f ys i x h

-- and back
pub unmapped_at : {A B : Type 0} (f : A → B) (xs : List A) (i : ℕ) (y : B) → slice_get (map f xs) i ≡ Some y
    → (x : A) × (slice_get xs i ≡ Some x) × (f x ≡ y)
unmapped_at f [] i y h = absurd cc
unmapped_at f (x ∷ xs) zero y h = (x, refl, cc)
unmapped_at f (x ∷ xs) (suc i) y h = unmapped_at f xs i y h

-- a place of a longer list is one of the shorter list or the last
pub pushed_at : {A : Type 0} (xs : List A) (y x : A) (i : ℕ) → slice_get (xs ++ y ∷ []) i ≡ Some x
    → (slice_get xs i ≡ Some x) ⊎ ((i ≡ length xs) × (y ≡ x))
pushed_at [] y x zero h = inr (refl, cc)
pushed_at [] y x (suc i) h = absurd cc
pushed_at (z ∷ zs) y x zero h = inl h
pushed_at (z ∷ zs) y x (suc i) h =
    elim (pushed_at zs y x i h) [ inl there ↦ inl there | inr last ↦ inr (ap suc last.0, last.1) ]

pub kept_at : {A : Type 0} (xs : List A) (y x : A) (i : ℕ) → slice_get xs i ≡ Some x
    → slice_get (xs ++ y ∷ []) i ≡ Some x
kept_at [] y x i h = absurd cc
kept_at (z ∷ zs) y x zero h = h
kept_at (z ∷ zs) y x (suc i) h = kept_at zs y x i h

pub last_at : {A : Type 0} (xs : List A) (y : A) → slice_get (xs ++ y ∷ []) (length xs) ≡ Some y
last_at [] y = refl
last_at (x ∷ xs) y = last_at xs y

pub map_push : {A B : Type 0} (f : A → B) (xs : List A) (y : A) → map f (xs ++ y ∷ []) ≡ map f xs ++ f y ∷ []
map_push f [] y = refl
map_push f (x ∷ xs) y = ap (λ zs. f x ∷ zs) (map_push f xs y)

-- one more element at the end
pub slice_get_push : {A : Type 0} (xs : List A) (y : A) (i : ℕ)
    → slice_get (xs ++ y ∷ []) i ≡ cond (eqb (length xs) i) (Some y) (slice_get xs i)
slice_get_push [] y zero = refl
slice_get_push [] y (suc i) = rw eqb-zero-suc refl
slice_get_push (x ∷ xs) y zero = rw eqb-suc-zero refl
slice_get_push (x ∷ xs) y (suc i) = rw eqb-suc-suc (slice_get_push xs y i)
