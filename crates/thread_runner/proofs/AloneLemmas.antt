-- A thread goes on alone in the world of a book.
use Rattle.std.proofs.Common.{◌≡◌, ℕ, ◌+◌, ◌<◌, ◌++◌, List, refl, arith, length, replicate}
use Rattle.semantics.specs.Worlds.{World}
use Rattle.program.specs.Tables.{Tables}
use Rattle.machine.specs.Linked.{program_of}
use Rattle.init_engine.specs.Schedules.{schedule_of, AreRuns}
use Rattle.init_engine.specs.Standing.{Standing}
use Rattle.init_engine.specs.Turnings.{RunsAhead}
use Rattle.thread_runner.specs.Kept.{IsBook, Past, steps_of}
use Rattle.thread_runner.specs.steps.Alone.{RunsOn}
use Rattle.thread_runner.proofs.BookLemmas.{books_more, past_of}

-- what a book keeps, after steps of a thread that ran ahead in its world
pub kept_on : (P : Tables) (start : World) (h : Past) (v : Standing) (j : List (ℕ × ℕ))
    (before t most bytes made i k : ℕ) → IsBook P start before h i k
    → RunsAhead (program_of P) t most bytes made h.world v
    → schedule_of j ≡ schedule_of h.journal ++ replicate made t → AreRuns j → steps_of h + most < h.limit + 1024
    → IsBook P start (before + made) (past_of v j h.limit) i k
kept_on P start h v j before t most bytes made i k book ahead is apart room =
    books_more P start before (before + made) h v j made t i k book refl ahead.run is apart
    (omega (arith, ahead.few, room)) (ahead.printed, ahead.lines)

pub runs_on : (P : Tables) (h : Past) (v : Standing) (j : List (ℕ × ℕ)) (t most bytes made : ℕ)
    → RunsAhead (program_of P) t most bytes made h.world v
    → schedule_of j ≡ schedule_of h.journal ++ replicate made t → length v.threads ≡ length h.world.threads
    → RunsOn t h (past_of v j h.limit) made
runs_on P h v j t most bytes made ahead is threads = record {
  journal = is;
  grows = (ahead.printed, ahead.lines);
  threads = threads;
  limit = refl;
}
