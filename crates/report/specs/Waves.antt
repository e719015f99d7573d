-- Verdicts that an image was made by.
use Rattle.std.specs.Prelude.{◌≡◌, ◌↔◌, ℕ, List, length, IsSome}
use Rattle.initializer_analysis.specs.declared.verdict.Verdict.{Verdict}
use Rattle.initializer_analysis.specs.Verdicts.{IsAccepted}
use Rattle.region_shape.specs.Regions.{environment_of}
use Rattle.object_graph.specs.Images.{ImageTables}

-- There is a verdict on each class, and those that have a wave are those that have a region.
pub record GiveWaves (I : ImageTables) (verdicts : List Verdict) : Type 0 where
  pub count : length verdicts ≡ length I.program.classes
  pub each : (c : ℕ) → IsAccepted verdicts c ↔ IsSome (environment_of I.regions c)
