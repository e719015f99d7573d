use Rattle.std.proofs.Common.{◌≡◌, ℕ, ◌<◌, ◌≤◌, length, get_or}
use Rattle.program.specs.declared.class.Class.{Class}
use Rattle.program.specs.steps.Frames.{IsTried}
use Rattle.program.proofs.implementing.implement.Given as goal

abbrev pub invariant-loop-number : goal.invariant-loop-number
invariant-loop-number l = record {
  many : length l.classes.items ≡ length l.initial.classes.items;
  later : (j : ℕ) (d : Class) → l.number ≤ j → get_or l.classes.items j d ≡ get_or l.initial.classes.items j d;
  tried : (j : ℕ) (d : Class) → j < l.number
      → IsTried l.family j (get_or l.initial.classes.items j d) (get_or l.classes.items j d);
}
