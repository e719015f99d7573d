-- Parts of a commit.
use Rattle.std.specs.Prelude.{ℕ, zero, suc, ◌+◌}
use Rattle.init_engine.specs.declared.world.Turn.{Turn}
use Rattle.init_engine.specs.declared.world.Turn.TheVariants as turns
use Rattle.thread_runner.specs.declared.advance.Commit.{Commit}
use Rattle.thread_runner.specs.declared.advance.Commit.TheVariants.{Moved, Waiting, Ended}

-- how many steps there were, with so many of a stretch before a turn
abbrev pub counted : Turn → ℕ → ℕ
counted turns.Moved n = n + 1
counted turns.Waiting n = n
counted turns.Ended n = n

-- what is answered then
abbrev pub answered : Turn → ℕ → Commit
answered turns.Moved n = Moved
answered turns.Waiting zero = Waiting
answered turns.Waiting (suc n) = Moved
answered turns.Ended zero = Ended
answered turns.Ended (suc n) = Moved
