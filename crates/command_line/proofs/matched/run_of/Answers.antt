use Rattle.command_line.proofs.matched.run_of.Goals as goal

pub returns-in_default : goal.returns-in_default
returns-in_default c = λ asked holds. c.in_default.ensures asked.limit holds.limit
