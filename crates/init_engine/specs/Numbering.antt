-- Threads in the order of their numbers.
use Rattle.std.specs.Prelude.{◌≡◌, ℕ, List, Some, slice_get}
use Rattle.init_engine.specs.declared.world.Thread.{Thread}
use Rattle.init_engine.specs.Threads.{HasNumber}

abbrev pub AreNumbered : List Thread → Type 0
AreNumbered threads = (t : ℕ) (thread : Thread) → slice_get threads t ≡ Some thread → HasNumber thread t
