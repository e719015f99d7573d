-- Values in a row.
use Rattle.std.proofs.Common.{◌≡◌, ◌<◌, ◌∷◌, [], ℕ, zero, suc, map, replicate, List, refl, ap, arith}
use Rattle.std.specs.List.{All}
use Rattle.vm_state.specs.Values.{IsNumber}
use Rattle.vm_state.specs.declared.value.Value.{Value}

pub map-replicate : {X : Type 0} (f : X → Value) (n : ℕ) (x : X) → map f (replicate n x) ≡ replicate n (f x)
map-replicate f zero x = refl
map-replicate f (suc n) x = ap (λ (vs : List Value). f x ∷ vs) (map-replicate f n x)

none : (k : ℕ) → k < 0 → ⊥
none k h = omega arith

pub are_numbers : {X : Type 0} (f : X → Value) → ((x : X) → IsNumber (f x)) → (xs : List X) → All IsNumber (map f xs)
are_numbers f is [] k d h = absurd (none k h)
are_numbers f is (x ∷ xs) zero d h = is x
are_numbers f is (x ∷ xs) (suc k) d h = are_numbers f is xs k d (omega arith)
