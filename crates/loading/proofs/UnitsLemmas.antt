-- A text is the spelling of one list of units.
use Rattle.std.proofs.Common.{◌≡◌, ℕ, zero, suc, ◌+◌, ◌/◌, ◌%◌, ◌<◌, ◌≤◌, inl, inr, List, [], ◌∷◌, ◌++◌, refl, sym}
use Rattle.std.proofs.Common.{subst, arith}
use Rattle.std.proofs.lemmas.Bool.{cases_lt}
use Rattle.classfile.specs.Units.{unit_text, units_text}
use Rattle.classfile.proofs.UnitsLemmas.{one_text, two_text, three_text}

-- the spellings by their length
data Spelled (u : ℕ) : List ℕ → Type 0 where
  one : u < 128 → Spelled u (u ∷ [])
  two : u < 2048 → Spelled u ((192 + u / 64) ∷ (128 + u % 64) ∷ [])
  three : 2048 ≤ u → Spelled u ((224 + u / 4096) ∷ (128 + u / 64 % 64) ∷ (128 + u % 64) ∷ [])

unit_is_spelled : (u : ℕ) → Spelled u (unit_text u)
unit_is_spelled zero = two (omega arith)
unit_is_spelled (suc n) = elim (cases_lt (suc n) 128) [
  | inl small ↦ subst (Spelled (suc n)) (sym (one_text (suc n) (omega arith) small)) (one small)
  | inr wide ↦ elim (cases_lt (suc n) 2048) [
    | inl middle ↦ subst (Spelled (suc n)) (sym (two_text (suc n) wide middle)) (two middle)
    | inr large ↦ subst (Spelled (suc n)) (sym (three_text (suc n) large)) (three large)
  ]
]

-- equal texts have equal first units
first_same : (x y : ℕ) (p q s t : List ℕ) → Spelled x p → Spelled y q → p ++ s ≡ q ++ t → (x ≡ y) × (s ≡ t)
first_same x y p q s t (one a) (one b) e = (cc, cc)
first_same x y p q s t (one a) (two b) e = (let head : x ≡ 192 + y / 64 = cc in absurd (omega arith))
first_same x y p q s t (one a) (three b) e = (let head : x ≡ 224 + y / 4096 = cc in absurd (omega arith))
first_same x y p q s t (two a) (one b) e = (let head : 192 + x / 64 ≡ y = cc in absurd (omega arith))
first_same x y p q s t (two a) (two b) e =
    let head : 192 + x / 64 ≡ 192 + y / 64 = cc in
    let next : 128 + x % 64 ≡ 128 + y % 64 = cc in
    (omega arith, cc)
first_same x y p q s t (two a) (three b) e = (let head : 192 + x / 64 ≡ 224 + y / 4096 = cc in absurd (omega arith))
first_same x y p q s t (three a) (one b) e = (let head : 224 + x / 4096 ≡ y = cc in absurd (omega arith))
first_same x y p q s t (three a) (two b) e = (let head : 224 + x / 4096 ≡ 192 + y / 64 = cc in absurd (omega arith))
first_same x y p q s t (three a) (three b) e =
    let head : 224 + x / 4096 ≡ 224 + y / 4096 = cc in
    let next : 128 + x / 64 % 64 ≡ 128 + y / 64 % 64 = cc in
    let last : 128 + x % 64 ≡ 128 + y % 64 = cc in
    (omega arith, cc)

not_empty : (u : ℕ) (p s : List ℕ) → Spelled u p → p ++ s ≡ [] → ⊥
not_empty u p s (one a) e = cc
not_empty u p s (two a) e = cc
not_empty u p s (three a) e = cc

pub same_units : (xs ys : List ℕ) → units_text xs ≡ units_text ys → xs ≡ ys
same_units [] [] e = refl
same_units [] (y ∷ ys) e = absurd (not_empty y (unit_text y) (units_text ys) (unit_is_spelled y) (sym e))
same_units (x ∷ xs) [] e = absurd (not_empty x (unit_text x) (units_text xs) (unit_is_spelled x) e)
same_units (x ∷ xs) (y ∷ ys) e =
    let both = first_same x y (unit_text x) (unit_text y) (units_text xs) (units_text ys) (unit_is_spelled x)
    (unit_is_spelled y) e in
    let head : x ≡ y = both.0 in
    let tail : xs ≡ ys = same_units xs ys both.1 in
    cc
