use Rattle.std.proofs.Common.{◌≡◌, ◌-◌, length}
use Rattle.hierarchy.specs.steps.Answers.{AreAnswers}
use Rattle.hierarchy.proofs.hierarchy.Hierarchy.look_at_all.Given as goal

abbrev pub invariant-loop-start : goal.invariant-loop-start
invariant-loop-start l = record {
  own : length l.own ≡ length l.self.family;
  rows : length l.rows ≡ length l.self.family;
  count : length l.answers ≡ length l.initial.answers;
  answers : AreAnswers l.self l.wanted l.declared l.start l.answers;
}

abbrev pub decreases-loop-start : goal.decreases-loop-start
decreases-loop-start l = length l.declared - l.start
