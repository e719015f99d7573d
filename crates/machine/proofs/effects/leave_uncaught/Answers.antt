use Rattle.std.proofs.Common.{rules}
use Rattle.machine.proofs.effects.leave_uncaught.Goals as goal

pub returns-then-is_none-clause-step : goal.returns-then-is_none-clause-step
returns-then-is_none-clause-step c = λ P fs f before after alone. rw (c.halt.ensures.effect, alone) (search rules)

pub returns-clause-step : goal.returns-clause-step
returns-clause-step c = λ P fs f before after alone. rw alone (search rules)
