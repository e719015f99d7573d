-- Costs of the classes below a number.
use Rattle.std.specs.Prelude.{◌≡◌, ℕ, ◌<◌, List, Option, Some, None, slice_get, slice_index_or}
use Rattle.initializer_analysis.specs.declared.verdict.Verdict.{Verdict}
use Rattle.object_graph.specs.Images.{ImageTables}
use Rattle.explain.specs.Costs.{IsCostOf}
use Rattle.explain.specs.declared.costs.Cost.{Cost}

abbrev pub AreFirstCosts : ImageTables → List Verdict → ℕ → ℕ → List (Option Cost) → Type 0
AreFirstCosts I verdicts greatest n costs = (c : ℕ) → c < n → (verdict : Verdict) → slice_get verdicts c ≡ Some verdict
    → IsCostOf I greatest c verdict (slice_index_or costs c None)
