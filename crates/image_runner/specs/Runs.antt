-- What a run of an image by threads answers.
use Rattle.std.specs.Prelude.{◌≡◌, ◌≢◌, ◌⊎◌, ℕ, List, Option, Result, Ok, Err}
use Rattle.semantics.specs.Worlds.{World}
use Rattle.machine.specs.Linked.{program_of}
use Rattle.object_graph.specs.Images.{ImageTables}
use Rattle.init_engine.specs.Rests.{AllEnded, IsStuck}
use Rattle.init_engine.specs.Starts.{EntriesFail}
use Rattle.image_reader.specs.Starts.{IsImageStart}
use Rattle.thread_runner.specs.Answers.{HasEnded, HavePrintsGoneOut, IsAtLimit, IsBeginning}
use Rattle.thread_runner.specs.declared.answer.Ended.{Ended}
use Rattle.image_runner.specs.declared.fault.RunFault.{RunFault}
use Rattle.image_runner.specs.declared.fault.RunFault.TheVariants.{Memory, Entry, Spawn, Device, Limit, Stuck}

-- This holds of the start of an image from these entries.
pub record IsFromStart (I : ImageTables) (names : List (List ℕ)) (holds : World → Type 0) : Type 0 where
  pub first : World
  pub start : IsImageStart I names first
  pub has : holds first

-- Memory may be refused before there is a start, or for it: then nothing has gone out, as where the entries are
-- refused.
abbrev pub IsFault : ImageTables → List (List ℕ) → ℕ → RunFault → Option (List ℕ) → Option (List ℕ) → ℕ → ℕ
    → Type 0
IsFault I names limit Memory before after failed failures =
    (after ≡ before) ⊎ IsFromStart I names (λ first. HavePrintsGoneOut I.program first before after)
IsFault I names limit (Entry fault) before after failed failures =
    EntriesFail I.program names fault × (after ≡ before) × (failures ≡ failed)
IsFault I names limit Spawn before after failed failures =
    IsFromStart I names (λ first. HavePrintsGoneOut I.program first before after)
IsFault I names limit (Device sent) before after failed failures =
    IsFromStart I names (λ first. IsBeginning I.program first sent before after) × (failures ≢ failed)
IsFault I names limit (Limit ended) before after failed failures =
    IsFromStart I names (λ first. HasEnded I.program first ended (IsAtLimit I.program limit ended) before after)
IsFault I names limit (Stuck ended) before after failed failures =
    IsFromStart I names (λ first. HasEnded I.program first ended (IsStuck (program_of I.program)) before after)

-- The journal of an end runs from the image's start to a world in which what it holds is seen, and all that was printed
-- has gone out. Ok: all threads have ended. Limit: the journal has as many steps as it may, and a thread has a step.
-- Stuck: no thread has a step, and one has not ended. Device: the first bytes of what some run prints have gone out.
-- Memory and Spawn: its first prints.
abbrev pub IsAnswer : ImageTables → List (List ℕ) → ℕ → Result Ended RunFault → Option (List ℕ) → Option (List ℕ) → ℕ
    → ℕ → Type 0
IsAnswer I names limit (Ok ended) before after failed failures =
    IsFromStart I names (λ first. HasEnded I.program first ended AllEnded before after)
IsAnswer I names limit (Err fault) before after failed failures =
    IsFault I names limit fault before after failed failures
