-- What is told of all classes, as text.
use Rattle.std.specs.Prelude.{◌≡◌, ℕ, Bool, List, ◌++◌, length}
use Rattle.initializer_analysis.specs.declared.verdict.Verdict.{Verdict}
use Rattle.object_graph.specs.Images.{ImageTables}
use Rattle.explain.specs.Costs.{IsCostsText}
use Rattle.explain.specs.Texts.{AreAtMost, AreEachBelow, IsBlamedLine, IsTextAmongAll}

-- Of each class, in the order of their numbers, all that stands against it; then at most ten lines on others; and then
-- what each accepted class costs, the dearest first.
pub record IsAllText (I : ImageTables) (verdicts : List Verdict) (at_run_time : List Bool) (budget : ℕ)
    (text : List ℕ) : Type 0 where
  pub each : List ℕ
  pub has_each : AreEachBelow (IsTextAmongAll I verdicts at_run_time) (length I.program.classes) each
  pub blamed : List ℕ
  pub has_blamed : AreAtMost 10 (IsBlamedLine I.program.family) blamed
  pub costs : List ℕ
  pub has_costs : IsCostsText I verdicts budget costs
  pub is : text ≡ each ++ (blamed ++ costs)
