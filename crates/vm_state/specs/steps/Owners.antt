-- The monitors that are owned, by the numbers of their objects.
use Rattle.std.specs.Prelude.{◌≡◌, ℕ, List, [], ◌∷◌, ◌==◌, if◌then◌else◌}
use Rattle.vm_state.specs.declared.object.Monitor.{Monitor}
use Rattle.vm_state.specs.declared.object.Monitor.TheVariants.{Free}

abbrev pub monitor_in : List (ℕ × Monitor) → ℕ → Monitor
monitor_in [] k = Free
monitor_in (o ∷ os) k = if k == o.0 then o.1 else monitor_in os k

-- the monitor of a number is this one now, the others are as they were
abbrev pub IsMonitorSet : List (ℕ × Monitor) → List (ℕ × Monitor) → ℕ → Monitor → Type 0
IsMonitorSet old new n m = (k : ℕ) → monitor_in new k ≡ (if k == n then m else monitor_in old k)
