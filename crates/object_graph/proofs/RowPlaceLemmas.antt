-- What stands at a place of a row, as `Pool::at` says it.
use Rattle.std.proofs.Common.{◌≡◌, ◌<◌, ℕ, zero, suc, List, [], ◌∷◌, Option, Some, None, length, slice_get, option_map}
use Rattle.std.proofs.Common.{refl, sym, ap, arith}
use Rattle.vm_state.specs.declared.object.Object.{Object}
use Rattle.vm_state.specs.declared.kept.Kept.{Kept}
use Rattle.vm_state.specs.Objects.{kept_of, numbered_kept}

-- the object that stands at a place, of this number
pub record IsAt (os : List (ℕ × Object)) (place n : ℕ) (k : Kept) : Type 0 where
  pub held : ℕ × Object
  pub at : slice_get os place ≡ Some held
  pub number : n ≡ held.0
  pub kept : kept_of held.1 ≡ k

pub is_at : (os : List (ℕ × Object)) (place n : ℕ) (k : Kept)
    → Some (n, k) ≡ option_map numbered_kept (slice_get os place) → IsAt os place n k
is_at [] place n k is = cc
is_at (o ∷ os) zero n k is =
    let same : (n, k) ≡ numbered_kept o = cc in
    record {
      held = o;
      at = refl;
      number = ap (λ (z : ℕ × Kept). z.0) same;
      kept = sym (ap (λ (z : ℕ × Kept). z.1) same);
    }
is_at (o ∷ os) (suc place) n k is =
    let later = is_at os place n k is in
    record { held = later.held; at = later.at; number = later.number; kept = later.kept }

-- where nothing stands the list has ended
pub past_all : (os : List (ℕ × Object)) (place : ℕ) → None ≡ option_map numbered_kept (slice_get os place)
    → place < length os → ⊥
past_all [] place none low = omega (arith, low)
past_all (o ∷ os) zero none low = cc
past_all (o ∷ os) (suc place) none low = past_all os place none (omega (arith, low))

-- so where `Pool::at` finds none
pub none_held : {R : Type 0} (os : List (ℕ × Object)) (place : ℕ) (r : Option R) (read : R → ℕ × Kept)
    → option_map read r ≡ option_map numbered_kept (slice_get os place) → ((x : R) → r ≡ Some x → ⊥)
    → place < length os → ⊥
none_held os place None read is none low = past_all os place is low
none_held os place (Some x) read is none low = none x refl
