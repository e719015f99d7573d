use Rattle.std.proofs.Common.{string_bytes}
use Rattle.explain.specs.Texts.{AreEachBelow, IsTextAmongAll}
use Rattle.explain.specs.steps.Known.{IsOverview}
use Rattle.explain.proofs.lines.each_text.Given as goal

abbrev pub invariant-loop-class : goal.invariant-loop-class
invariant-loop-class l = record {
  known : IsOverview l.image.program l.verdicts l.overview;
  each : AreEachBelow (IsTextAmongAll l.image l.verdicts l.forced) l.class (string_bytes l.text);
}
