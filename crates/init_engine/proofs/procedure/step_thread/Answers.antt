use Rattle.std.proofs.lemmas.Result.{IfOk-weaker}
use Rattle.init_engine.proofs.procedure.step_thread.Goals as goal

pub returns-then-is_some-2-clause-printed : goal.returns-then-is_some-2-clause-printed
returns-then-is_some-2-clause-printed c =
    IfOk-weaker c.step_initialization.result _ _ (λ r silent. silent _ _) c.step_initialization.ensures.silent
