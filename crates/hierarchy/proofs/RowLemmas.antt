-- Rows of classes, by the class that stands behind each.
use Rattle.std.proofs.Common.{◌≡◌, ℕ, zero, suc, ◌<◌, ◌≤◌, ◌⊎◌, Bool, true, false, List, [], ◌∷◌, length, Option, Some}
use Rattle.std.proofs.Common.{None, slice_get, slice_set, refl, sym, ap, ◌∙◌, subst, inl, inr, eqb, arith}
use Rattle.std.specs.List.{Contains}
use Rattle.std.proofs.lemmas.Bool.{eqb-true, eqb-false}
use Rattle.std.proofs.lemmas.List.{length-set}
use Rattle.std.proofs.lemmas.List.Elements.{Contains-append_right}
use Rattle.std.proofs.lemmas.Option.{slice_get_within}
use Rattle.loading.proofs.PlaceLemmas.{contains_at, place_in}
use Rattle.hierarchy.specs.steps.DepthFirst.{IsRow, put_behind}

-- ---- elements

pub at_head : {A : Type 0} (x : A) (xs : List A) → Contains (x ∷ xs) x
at_head x xs = contains_at (x ∷ xs) 0 x refl

pub in_tail : {A : Type 0} (x y : A) (xs : List A) → Contains xs y → Contains (x ∷ xs) y
in_tail x y xs h = Contains-append_right (x ∷ []) xs y h

pub head_or_tail : {A : Type 0} (x y : A) (xs : List A) → Contains (x ∷ xs) y → (x ≡ y) ⊎ Contains xs y
head_or_tail x y xs h = by (place_in (x ∷ xs) y h)
  where
    by : (i : ℕ) × (slice_get (x ∷ xs) i ≡ Some y) → (x ≡ y) ⊎ Contains xs y
    by (zero, e) = inl cc
    by (suc i, e) = inr (contains_at xs i y e)

pub set_here : {A : Type 0} (xs : List A) (i : ℕ) (b : A) → i < length xs → slice_get (slice_set xs i b) i ≡ Some b
set_here [] i b h = absurd (omega (arith, h))
set_here (x ∷ xs) zero b h = refl
set_here (x ∷ xs) (suc i) b h = set_here xs i b (omega (arith, h))

pub set_else : {A : Type 0} (xs : List A) (i j : ℕ) (b : A) → ¬ (i ≡ j)
    → slice_get (slice_set xs i b) j ≡ slice_get xs j
set_else [] i j b h = refl
set_else (x ∷ xs) zero zero b h = absurd (h refl)
set_else (x ∷ xs) zero (suc j) b h = refl
set_else (x ∷ xs) (suc i) zero b h = refl
set_else (x ∷ xs) (suc i) (suc j) b h = set_else xs i j b (λ e. h (ap suc e))

-- ---- a row

-- what is said of a class that is not in it changes nothing
pub set_aside : (behind : List (Option ℕ)) (first : Option ℕ) (cs : List ℕ) (c : ℕ) (v : Option ℕ)
    → IsRow behind first cs → ¬ Contains cs c → IsRow (slice_set behind c v) first cs
set_aside behind first [] c v row out = row
set_aside behind first (x ∷ xs) c v row out = (
  row.0,
  row.1,
  set_else behind c x v (λ e. out (subst (Contains (x ∷ xs)) (sym e) (at_head x xs))) ∙ row.2,
  set_aside behind row.1 xs c v row.3 (λ h. out (in_tail x c xs h)),
)

-- from a class on there is one row
pub one_row : (behind : List (Option ℕ)) (first : Option ℕ) (cs ds : List ℕ) → IsRow behind first cs
    → IsRow behind first ds → cs ≡ ds
one_row behind first [] [] row other = refl
one_row behind first [] (y ∷ ys) row other = let clash : None ≡ Some y = sym row ∙ other.0 in absurd cc
one_row behind first (x ∷ xs) [] row other = let clash : None ≡ Some x = sym other ∙ row.0 in absurd cc
one_row behind first (x ∷ xs) (y ∷ ys) row other =
    let heads : Some x ≡ Some y = sym row.0 ∙ other.0 in
    let head : x ≡ y = cc in
    let nexts : Some row.1 ≡ Some other.1 = sym row.2 ∙ ap (slice_get behind) head ∙ other.2 in
    let after : row.1 ≡ other.1 = cc in
    let tail : xs ≡ ys =
    one_row behind other.1 xs ys (subst (λ f. IsRow behind f xs) after row.3) other.3 in
    ap (λ z. z ∷ xs) head ∙ ap (λ zs. y ∷ zs) tail

-- the row from one of its classes on is no longer than itself
pub row_from : (behind : List (Option ℕ)) (first : Option ℕ) (cs : List ℕ) (c : ℕ) → IsRow behind first cs
    → Contains cs c → (ds : List ℕ) × IsRow behind (Some c) ds × (length ds ≤ length cs)
row_from behind first [] c row has = absurd (omega (arith, has.1))
row_from behind first (x ∷ xs) c row has =
    by (head_or_tail x c xs has) (λ h. row_from behind row.1 xs c row.3 h)
  where
    by : (x ≡ c) ⊎ Contains xs c
        → (Contains xs c → (ds : List ℕ) × IsRow behind (Some c) ds × (length ds ≤ length xs))
        → (ds : List ℕ) × IsRow behind (Some c) ds × (length ds ≤ length (x ∷ xs))
    by (inl e) later = (x ∷ xs, (ap Some (sym e), row.1, row.2, row.3), omega arith)
    by (inr h) later = let r = later h in (r.0, r.1, omega (arith, r.2))

pub row_within : (behind : List (Option ℕ)) (first : Option ℕ) (cs : List ℕ) (c : ℕ) → IsRow behind first cs
    → Contains cs c → c < length behind
row_within behind first [] c row has = absurd (omega (arith, has.1))
row_within behind first (x ∷ xs) c row has = elim (head_or_tail x c xs has) [
  | inl here ↦ subst (λ y. y < length behind) here (slice_get_within behind x row.1 row.2)
  | inr deep ↦ row_within behind row.1 xs c row.3 deep
]

-- so no class stands in it twice
pub once : (behind : List (Option ℕ)) (first : Option ℕ) (c : ℕ) (cs : List ℕ) → IsRow behind first (c ∷ cs)
    → ¬ Contains cs c
once behind first c cs row has =
    let again = row_from behind row.1 cs c row.3 has in
    let same : again.0 ≡ c ∷ cs = one_row behind (Some c) again.0 (c ∷ cs) again.1 (refl, row.1, row.2, row.3) in
    omega (arith, again.2, ap length same)

-- one more class behind another one
pub row_behind : (behind : List (Option ℕ)) (first : Option ℕ) (cs : List ℕ) (d c : ℕ) (after : Option ℕ)
    → d < length behind → c < length behind → slice_get behind d ≡ Some after
    → IsRow behind first cs → ¬ Contains cs c
    → IsRow (slice_set (slice_set behind c after) d (Some c)) first (put_behind d c cs)
row_behind behind first [] d c after within fits is row out = row
row_behind behind first (x ∷ xs) d c after within fits is row out =
    by (eqb x d) refl
    (row_behind behind row.1 xs d c after within fits is row.3 (λ h. out (in_tail x c xs h)))
  where
    apart : ¬ (c ≡ x)
    apart e = out (subst (Contains (x ∷ xs)) (sym e) (at_head x xs))

    by : (b : Bool) → eqb x d ≡ b
        → IsRow (slice_set (slice_set behind c after) d (Some c)) row.1 (put_behind d c xs)
        → IsRow (slice_set (slice_set behind c after) d (Some c)) first (put_behind d c (x ∷ xs))
    by false e later =
        let differ : ¬ (d ≡ x) = λ s. eqb-false x d e (sym s) in
        rw e (
          row.0,
          row.1,
          set_else (slice_set behind c after) d x (Some c) differ ∙ set_else behind c x after apart ∙ row.2,
          later,
        )
    by true e later =
        let same : x ≡ d = eqb-true x d e in
        let once_set = slice_set behind c after in
        let all_set = slice_set once_set d (Some c) in
        let both : Some row.1 ≡ Some after = sym row.2 ∙ ap (slice_get behind) same ∙ is in
        let next_is : row.1 ≡ after = cc in
        let alone : ¬ Contains xs x = once behind first x xs row in
        let not_d : ¬ (d ≡ c) = λ s. apart (sym s ∙ sym same) in
        let kept : IsRow once_set after xs =
        set_aside behind after xs c after (subst (λ f. IsRow behind f xs) next_is row.3)
        (λ h. out (in_tail x c xs h)) in
        let moved : IsRow all_set after xs =
        set_aside once_set after xs d (Some c) kept (λ h. alone (subst (Contains xs) (sym same) h)) in
        let longer : d < length once_set = omega (arith, within, length-set behind c after) in
        let top : slice_get all_set x ≡ Some (Some c) =
        ap (slice_get all_set) same ∙ set_here once_set d (Some c) longer in
        let new : slice_get all_set c ≡ Some after =
        set_else once_set d c (Some c) not_d ∙ set_here behind c after fits in
        rw e (row.0, Some c, top, (refl, after, new, moved))

pub stand_once : (behind : List (Option ℕ)) (first : Option ℕ) (cs : List ℕ) → IsRow behind first cs
    → (i j c : ℕ) → slice_get cs i ≡ Some c → slice_get cs j ≡ Some c → i ≡ j
stand_once behind first [] row i j c at also = absurd cc
stand_once behind first (x ∷ xs) row zero zero c at also = refl
stand_once behind first (x ∷ xs) row zero (suc j) c at also =
    let head : x ≡ c = cc in
    absurd (once behind first x xs row (subst (Contains xs) (sym head) (contains_at xs j c also)))
stand_once behind first (x ∷ xs) row (suc i) zero c at also =
    let head : x ≡ c = cc in
    absurd (once behind first x xs row (subst (Contains xs) (sym head) (contains_at xs i c at)))
stand_once behind first (x ∷ xs) row (suc i) (suc j) c at also =
    ap suc (stand_once behind row.1 xs row.3 i j c at also)
