use Rattle.init_engine.specs.Turns.{world_of}
use Rattle.product_cases.proofs.memory.books.commit_work.Given as goal

abbrev pub ghosts-commit_in : goal.ghosts-commit_in
ghosts-commit_in a = λ b. record { program = b.program.now; start = world_of b.world }
