use Rattle.init_engine.specs.Turns.{world_of}
use Rattle.product_cases.proofs.threads.commits.answer.Given as goal

abbrev pub ghosts-answers_in : goal.ghosts-answers_in
ghosts-answers_in a = record { program = a.program.now; start = world_of a.world }
