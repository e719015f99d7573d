use Rattle.std.proofs.Common.{refl, rules}
use Rattle.semantics.specs.Rows.{Returns}
use Rattle.machine.proofs.moving.leave.Goals as goal

pub returns-in_default : goal.returns-in_default
returns-in_default c = λ f same kept. ((Returns c.args.value, refl, search rules), search rules)

pub returns-in-Ok : goal.returns-in-Ok
returns-in-Ok c = λ f same kept. (Returns c.args.value, refl, search rules)

pub returns-in-Err : goal.returns-in-Err
returns-in-Err c = λ f same kept. ((Returns c.args.value, refl, search rules), search rules)
