use Rattle.std.proofs.Common.{refl, sym, ◌∙◌}
use Rattle.machine.specs.Effects.{going}
use Rattle.thread_runner.proofs.LocalLemmas.{not_local}
use Rattle.thread_runner.proofs.stretch.step_local.Goals as goal

pub returns-then-not-is_local_next-clause-no : goal.returns-then-not-is_local_next-clause-no
returns-then-not-is_local_next-clause-no g c = λ _. (
  not_local c.args.program.now c.args.done.now (going c.args.frames.now)
      (sym c.is_local_next.ensures ∙ c.if-not-is_local_next.true),
  refl,
)
