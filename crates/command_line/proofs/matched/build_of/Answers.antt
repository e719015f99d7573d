use Rattle.command_line.proofs.matched.build_of.Goals as goal

pub returns-in_default-count_of : goal.returns-in_default-count_of
returns-in_default-count_of c = λ asked holds. c.in_default-count_of.ensures asked.workers holds.workers
