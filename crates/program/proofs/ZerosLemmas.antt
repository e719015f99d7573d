-- What new objects of the classes hold, class by class.
use Rattle.std.proofs.Common.{◌≡◌, ℕ, zero, suc, List, [], ◌∷◌, ◌++◌, length, map, Option, None, Some, sym, ap}
use Rattle.std.proofs.Common.{◌∙◌, slice_get, IfSome}
use Rattle.vm_state.specs.declared.value.Value.{Value}
use Rattle.loading.specs.Families.{Family}
use Rattle.program.specs.InstanceFields.{slots_of}
use Rattle.program.specs.Programs.{zero_of}
use Rattle.program.specs.steps.Slots.{AreZeros}

pushed : {A : Type 0} (f : ℕ → A) (xs : List (Option A)) (x : Option A)
    → ((k : ℕ) (y : A) → slice_get xs k ≡ Some (Some y) → y ≡ f k) → ((y : A) → x ≡ Some y → y ≡ f (length xs))
    → (k : ℕ) (y : A) → slice_get (xs ++ x ∷ []) k ≡ Some (Some y) → y ≡ f k
pushed f [] x are is zero y there = let same : x ≡ Some y = cc in is y same
pushed f [] x are is (suc k) y there = cc
pushed f (z ∷ zs) x are is zero y there = are zero y there
pushed f (z ∷ zs) x are is (suc k) y there = pushed (λ n. f (suc n)) zs x (λ n w h. are (suc n) w h) is k y there

pub no_zeros : (family : Family) → AreZeros family []
no_zeros family k slots there = cc

-- those of one more class
pub zeros_next : (family : Family) (zeros : List (Option (List Value))) (c : ℕ) (kept : Option (List Value))
    → length zeros ≡ c → IfSome kept (λ slots. slots ≡ map zero_of (slots_of family c))
    → AreZeros family zeros → AreZeros family (zeros ++ kept ∷ [])
zeros_next family zeros c None count is are =
    pushed (λ k. map zero_of (slots_of family k)) zeros None are (λ slots there. cc)
zeros_next family zeros c (Some held) count is are =
    pushed (λ k. map zero_of (slots_of family k)) zeros (Some held) are
    (λ slots there. let same : held ≡ slots = cc in
    sym same ∙ is ∙ ap (λ (k : ℕ). map zero_of (slots_of family k)) (sym count))
