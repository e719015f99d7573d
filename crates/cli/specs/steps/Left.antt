-- What parts of a command leave of files where they are refused, or fail.
use Rattle.std.specs.Prelude.{◌≡◌, ◌≢◌, ◌⊎◌, ℕ, List, Option, Result, Ok, Err, IfSome, Some, None, ⊤}
use Rattle.std.specs.Borrow.{Bor}
use Rattle.semantics.specs.Worlds.{World}
use Rattle.program.specs.Tables.{Tables}
use Rattle.command_line.specs.declared.request.Run.{Run}
use Rattle.cli.specs.Done.{IsWritten}
use Rattle.cli.specs.Files.{AreBytesOf, Contents, OthersStay}
use Rattle.cli.specs.Left.{HasJournal, IsToldAlone, OnlyOutputsChange, OthersStayIf}
use Rattle.cli.specs.Pages.{IsPagePut}
use Rattle.cli.specs.declared.build_texts.BuildTexts.{BuildTexts}
use Rattle.command_line.specs.declared.request.Build.{Build}
use Rattle.command_line.specs.declared.request.Request.TheVariants as requests
use Rattle.cli.specs.CommandFault.{refusal_status}
use Rattle.cli.specs.declared.fault.CommandFault.{CommandFault}
use Rattle.cli.specs.declared.status.Status.{Status}
use Rattle.cli.specs.declared.status.Status.TheVariants.{Done, Refused, Words, Failed}

-- how a command ends that has nothing to tell but why it was refused
abbrev pub status_of_done : {T : Type 0} → Result T CommandFault → Status
status_of_done (Ok _) = Done
status_of_done (Err refusal) = refusal_status refusal

-- a file that was to be written is as it was, where memory was refused; where it failed, the others are
abbrev pub LeavesFile : Contents → Contents → List ℕ → Status → Type 0
LeavesFile old new name Refused = new ≡ old
LeavesFile old new name Failed = OthersStay old new name
LeavesFile old new name _ = ⊥

-- the same where there may be no such file
abbrev pub LeavesIf : Contents → Contents → Option (Bor (List ℕ)) → Status → Type 0
LeavesIf old new None status = ⊥
LeavesIf old new (Some name) status = LeavesFile old new name.now status

-- the same of the files for an image and, where there is one, for a report of this text, which is written first
abbrev pub LeavesTexts : Contents → Contents → List ℕ → Option (Bor (List ℕ)) → List ℕ → Status → Type 0
LeavesTexts old new image report text Refused = (new ≡ old) ⊎ IsToldAlone old new report text
LeavesTexts old new image report text Failed =
    (other : List ℕ) → other ≢ image → IfSome report (λ name. other ≢ name.now) → new other ≡ old other
LeavesTexts old new image report text _ = ⊥

-- the same after a page is written of this text, where there is a file for one, which comes first
abbrev pub LeavesAll : Contents → Contents → Build → BuildTexts → Status → Type 0
LeavesAll old new words made Refused =
    (new ≡ old) ⊎ ((between : Contents) × IsPagePut old between words.page made.page.items
    × LeavesTexts between new words.image.now words.report made.report.items Refused)
LeavesAll old new words made Failed = OnlyOutputsChange old new (requests.Build words)
LeavesAll old new words made _ = ⊥

-- what becomes of the file for the journal of a run, if there is one, where its command ends so
abbrev pub LeavesJournal : Contents → Contents → Option (Bor (List ℕ)) → List ℕ → Status → Type 0
LeavesJournal old new journal schedule Refused = (new ≡ old) ⊎ IsWritten old new journal schedule
LeavesJournal old new journal schedule Words = ⊥
LeavesJournal old new journal schedule Failed = OthersStayIf old new journal
LeavesJournal old new journal schedule _ = IsWritten old new journal schedule

-- what a run from a world leaves of files where its command is refused, or fails
abbrev pub LeavesRun : Contents → Contents → Run → Tables → World → Status → Type 0
LeavesRun old new words P first Refused = (new ≡ old) ⊎ HasJournal old new words P first
LeavesRun old new words P first Failed = OthersStayIf old new words.journal
LeavesRun old new words P first _ = ⊤
