-- What a book keeps.
use Rattle.std.specs.Prelude.{◌≡◌, ℕ, ◌+◌, ◌<◌, ◌≤◌, ◌^◌, ◌++◌, List, length}
use Rattle.vm_state.specs.Output.{Print, text_of}
use Rattle.semantics.specs.Worlds.{World, Run}
use Rattle.program.specs.Tables.{Tables}
use Rattle.machine.specs.Linked.{program_of}
use Rattle.init_engine.specs.Schedules.{schedule_of, AreRuns}
use Rattle.init_engine.specs.Standing.{Standing}
use Rattle.init_engine.specs.Turns.{world_of}
use Rattle.thread_runner.specs.Sendings.{IsPlace}

-- ---- the history of all threads

-- a history as contracts see it: the world, the journal by its runs, and the limit of its steps
pub record Past : Type 0 where
  pub world : Standing
  pub journal : List (ℕ × ℕ)
  pub limit : ℕ

-- how many steps the journal has
abbrev pub steps_of : Past → ℕ
steps_of h = length (schedule_of h.journal)

-- the journal's run leads from the start to the world
pub record IsKept (P : Tables) (start : World) (h : Past) : Type 0 where
  pub runs : Run (program_of P) start (schedule_of h.journal) (world_of h.world)
  pub apart : AreRuns h.journal
  pub room : steps_of h < h.limit + 1024
  pub limit : h.limit ≤ 2 ^ 62

-- ---- a book

-- its history is kept, and so many of its prints and bytes behind them have gone out
pub record IsBook (P : Tables) (start : World) (steps : ℕ) (h : Past) (prints bytes : ℕ) : Type 0 where
  pub counted : steps ≡ steps_of h
  pub kept : IsKept P start h
  pub place : IsPlace h.world.printed prints bytes

-- what was printed, and more
abbrev pub Grows : List Print → List Print → Type 0
Grows old new = (prints : List Print) × (new ≡ old ++ prints)

-- a book as contracts see it: its history, how many bytes of what was printed have gone out, and how many of these are
-- behind the prints that have gone out whole
pub record Pages : Type 0 where
  pub past : Past
  pub sent : ℕ
  pub part : ℕ

-- what was printed in the world of a book
abbrev pub printed_text : Pages → List ℕ
printed_text b = text_of b.past.world.printed
