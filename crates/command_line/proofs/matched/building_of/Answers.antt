use Rattle.command_line.proofs.matched.building_of.Goals as goal

pub returns-in-None : goal.returns-in-None
returns-in-None c = λ asked holds. c.in-None.ensures asked.budget holds.budget
