use Rattle.init_engine.specs.Turns.{world_of}
use Rattle.product_cases.proofs.threads.commits.done_over.Given as goal

abbrev pub ghosts-done_in : goal.ghosts-done_in
ghosts-done_in a = record { program = a.program.now; start = world_of a.world }
