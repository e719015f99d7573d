-- Threads that are made one by one.
use Rattle.std.specs.Prelude.{◌≡◌, ℕ, List, length, map, take}
use Rattle.semantics.specs.Worlds.{threads_from}
use Rattle.program.specs.Tables.{Tables}
use Rattle.machine.specs.Linked.{program_of}
use Rattle.init_engine.specs.declared.world.Thread.{Thread}
use Rattle.init_engine.specs.Numbering.{AreNumbered}
use Rattle.init_engine.specs.Threads.{thread_of}

-- a thread for each of the first classes, about to need it
pub record AreStarting (classes : List ℕ) (n : ℕ) (threads : List Thread) : Type 0 where
  pub starting : (P : Tables) → map thread_of threads ≡ threads_from (program_of P) 0 (take n classes)
  pub numbered : AreNumbered threads
  pub counted : length threads ≡ n
