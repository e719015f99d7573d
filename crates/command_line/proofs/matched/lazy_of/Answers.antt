use Rattle.command_line.proofs.matched.lazy_of.Goals as goal

pub returns-in_default-number_of : goal.returns-in_default-number_of
returns-in_default-number_of c = λ asked holds. c.in_default-number_of.ensures asked.limit holds.limit
