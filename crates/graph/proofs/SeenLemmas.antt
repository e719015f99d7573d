-- At how many places of a list a number stands.
use Rattle.std.proofs.Common.{◌≡◌, ℕ, zero, suc, ◌+◌, ◌<◌, Bool, true, false, cond, eqb, List, [], ◌∷◌, ◌++◌, refl, ap}
use Rattle.std.proofs.Common.{◌≤◌, length, get_or, slice_index, arith}
use Rattle.std.specs.List.{Contains}
use Rattle.std.proofs.lemmas.Grind.{common_steps}
use Rattle.std.proofs.lemmas.Bool.{eqb-true, eq-eqb}
use Rattle.std.proofs.lemmas.List.Sums.{sum_by-cons, sum_by_push}
use Rattle.graph.specs.Seen.{count_of}

abbrev pub one_if : Bool → ℕ
one_if b = cond b 1 0

pub one_if_same : (b c : Bool) → b ≡ c → one_if b ≡ one_if c
one_if_same b c e = ap one_if e

-- one more place, where the number is the one that was pushed
pub count_of-push_same : (xs : List ℕ) (x : ℕ) → count_of (xs ++ x ∷ []) x ≡ count_of xs x + 1
count_of-push_same xs x =
    omega (arith, sum_by_push (λ (y : ℕ). one_if (eqb y x)) xs x, one_if_same (eqb x x) true (eq-eqb x x refl))

pub count_of-push_other : (xs : List ℕ) (y x : ℕ) → (y ≡ x → ⊥) → count_of (xs ++ y ∷ []) x ≡ count_of xs x
count_of-push_other xs y x other = by_test (eqb y x) refl
  where
    by_test : (b : Bool) → eqb y x ≡ b → count_of (xs ++ y ∷ []) x ≡ count_of xs x
    by_test true e = absurd (other (eqb-true y x e))
    by_test false e = omega (arith, sum_by_push (λ (y : ℕ). one_if (eqb y x)) xs y, one_if_same (eqb y x) false e)

count_of-cons : (y : ℕ) (ys : List ℕ) (x : ℕ) → count_of (y ∷ ys) x ≡ one_if (eqb y x) + count_of ys x
count_of-cons y ys x = sum_by-cons (λ (y : ℕ). one_if (eqb y x)) y ys

-- what is contained stands somewhere
pub count_of-contains : (xs : List ℕ) (x : ℕ) → Contains xs x → 0 < count_of xs x
count_of-contains [] x (k, small, e) = absurd (omega arith)
count_of-contains (y ∷ ys) x (zero, small, e) =
    omega (arith, count_of-cons y ys x, one_if_same (eqb y x) true (eq-eqb y x e))
count_of-contains (y ∷ ys) x (suc k, small, e) =
    omega (arith, count_of-cons y ys x, count_of-contains ys x (k, omega arith, e))

pub Contains-counted : (xs : List ℕ) (x : ℕ) → 0 < count_of xs x → Contains xs x
Contains-counted [] x h = absurd (omega arith)
Contains-counted (y ∷ ys) x h = by_test (eqb y x) refl (Contains-counted ys x)
  where
    by_test : (b : Bool) → eqb y x ≡ b → (0 < count_of ys x → Contains ys x) → Contains (y ∷ ys) x
    by_test true e inner = (0, omega arith, eqb-true y x e)
    by_test false e inner =
        (let rest = inner (omega (arith, count_of-cons y ys x, one_if_same (eqb y x) false e)) in
        (suc rest.0, omega (arith, rest.1), rest.2))

pub count_of-absent : (xs : List ℕ) (x : ℕ) → (Contains xs x → ⊥) → count_of xs x ≡ 0
count_of-absent xs x absent = by_size (count_of xs x) refl
  where
    by_size : (n : ℕ) → count_of xs x ≡ n → n ≡ 0
    by_size zero e = refl
    by_size (suc n) e = absurd (absent (Contains-counted xs x (omega arith)))

-- a number at two places is counted twice
pub places_counted : (xs : List ℕ) (i j x : ℕ) → i < j → j < length xs → slice_index xs i ≡ x → slice_index xs j ≡ x
    → 2 ≤ count_of xs x
places_counted [] i j x less small p q = absurd (omega arith)
places_counted (y ∷ ys) i zero x less small p q = absurd (omega arith)
places_counted (y ∷ ys) zero (suc j) x less small p q =
    omega (
      arith,
      count_of-cons y ys x,
      one_if_same (eqb y x) true (eq-eqb y x p),
      count_of-contains ys x (j, omega arith, at ys j (omega arith) q),
    )
  where
    at : (ys : List ℕ) (j : ℕ) → j < length ys → slice_index ys j ≡ x → get_or ys j x ≡ x
    at ys j small q = grind (arith, common_steps)
places_counted (y ∷ ys) (suc i) (suc j) x less small p q =
    omega (arith, count_of-cons y ys x, places_counted ys i j x (omega arith) (omega arith) p q)
