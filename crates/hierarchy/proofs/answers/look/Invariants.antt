use Rattle.std.proofs.Common.{◌≡◌, ◌<◌, ◌≤◌, ◌+◌, ℕ, length, get_or}
use Rattle.hierarchy.specs.steps.Answers.{IsAnswer}
use Rattle.hierarchy.specs.steps.DeclarationBits.{IsMask}
use Rattle.hierarchy.specs.declared.answers.Answer.{Answer}
use Rattle.hierarchy.proofs.answers.look.Given as goal

abbrev pub invariant-loop-index : goal.invariant-loop-index
invariant-loop-index l = record {
  len : length l.answers ≡ length l.initial.answers;
  mask : IsMask l.declared l.start l.mask;
  done : (i : ℕ) (d : Answer) → i < l.index
      → IsAnswer l.hierarchy l.wanted l.declared (l.start + 64) (get_or l.answers i d);
  rest : (i : ℕ) (d : Answer) → l.index ≤ i → i < length l.answers
      → IsAnswer l.hierarchy l.wanted l.declared l.start (get_or l.answers i d);
}
