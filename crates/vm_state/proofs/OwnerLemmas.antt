-- The monitors that are owned, as a map finds them.
use Rattle.std.proofs.Common.{◌≡◌, ℕ, Bool, true, false, List, [], ◌∷◌, Option, Some, cond, if◌then◌else◌}
use Rattle.std.proofs.Common.{refl, sym, ap, ◌∙◌, ◌==◌, unwrap_or, arith, nat_cmp, is_eq}
use Rattle.std.proofs.lemmas.Bool.Decides.{nat_tests}
use Rattle.std.specs.BTreeMap.{BTreeMap, get, is_at}
use Rattle.std.specs.Map.{lookup}
use Rattle.vm_state.specs.declared.object.Monitor.{Monitor}
use Rattle.vm_state.specs.declared.object.Monitor.TheVariants.{Free}
use Rattle.vm_state.specs.steps.Owners.{monitor_in, IsMonitorSet}

same_number : (n k : ℕ) → is_eq (nat_cmp n k) ≡ (n == k)
same_number n k = grind (arith, nat_tests)

-- the monitor of one of two answers
either : (b : Bool) (m n : Option Monitor) →
    unwrap_or (cond b m n) Free ≡ (if b then unwrap_or m Free else unwrap_or n Free)
either true m n = refl
either false m n = refl

pub found_in : (os : List (ℕ × Monitor)) (k : ℕ) →
    unwrap_or (lookup (is_at (nat_cmp k)) os) Free ≡ monitor_in os k
found_in [] k = refl
found_in (o ∷ os) k =
    either (is_eq (nat_cmp k o.0)) (Some o.1) (lookup (is_at (nat_cmp k)) os)
    ∙ ap (λ (m : Monitor). if is_eq (nat_cmp k o.0) then o.1 else m) (found_in os k)
    ∙ ap (λ (b : Bool). if b then o.1 else monitor_in os k) (same_number k o.0)

-- a map that has one monitor set
pub set_in : (old new : BTreeMap ℕ Monitor) (n : ℕ) (m : Option Monitor) →
    ((k : ℕ) → get nat_cmp new k ≡ cond (is_at (nat_cmp n) k) m (get nat_cmp old k)) →
    IsMonitorSet old.entries new.entries n (unwrap_or m Free)
set_in old new n m updates k =
    sym (found_in new.entries k)
    ∙ ap (λ (x : Option Monitor). unwrap_or x Free) (updates k)
    ∙ either (is_eq (nat_cmp n k)) m (get nat_cmp old k)
    ∙ ap (λ (b : Bool). if b then unwrap_or m Free else unwrap_or (get nat_cmp old k) Free) (grind (arith, nat_tests))
    ∙ ap (λ (x : Monitor). if k == n then unwrap_or m Free else x) (found_in old.entries k)
