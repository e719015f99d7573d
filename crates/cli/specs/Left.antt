-- What a command leaves of files that is refused, or that fails.
use Rattle.std.specs.Prelude.{◌≡◌, ◌≢◌, ◌⊎◌, ℕ, List, Option, Some, None, IfSome, ⊤}
use Rattle.std.specs.Borrow.{Bor}
use Rattle.semantics.specs.Worlds.{World, Run as Reaches}
use Rattle.program.specs.Tables.{Tables}
use Rattle.machine.specs.Linked.{program_of}
use Rattle.object_graph.specs.Images.{ImageTables}
use Rattle.init_engine.specs.Rests.{IsRest}
use Rattle.init_engine.specs.declared.stuck.Rest.{Rest}
use Rattle.building.specs.declared.build.Built.{Built}
use Rattle.report.specs.Texts.{report_text}
use Rattle.command_line.specs.declared.request.Build.{Build}
use Rattle.command_line.specs.declared.request.Request.{Request}
use Rattle.command_line.specs.declared.request.Request.TheVariants as requests
use Rattle.command_line.specs.declared.request.Run.{Run}
use Rattle.cli.specs.Begins.{IsBegunFromImage}
use Rattle.cli.specs.Done.{AskFor, HasPage, IsWritten}
use Rattle.cli.specs.Files.{AreBytesOf, Contents, OthersStay}
use Rattle.cli.specs.Journaled.{KeepsLimit}
use Rattle.cli.specs.Requested.{IsAskedBuild}
use Rattle.cli.specs.declared.status.Status.{Status}
use Rattle.cli.specs.declared.status.Status.TheVariants.{Refused, Failed}

-- every file but that of this name, if there is one, holds what it held
abbrev pub OthersStayIf : Contents → Contents → Option (Bor (List ℕ)) → Type 0
OthersStayIf old new None = new ≡ old
OthersStayIf old new (Some name) = OthersStay old new name.now

-- every file but those that a request has written holds what it held
abbrev pub OnlyOutputsChange : Contents → Contents → Request → Type 0
OnlyOutputsChange old new (requests.Build words) =
    (other : List ℕ) → other ≢ words.image.now → IfSome words.report (λ name. other ≢ name.now)
    → IfSome words.page (λ name. other ≢ name.now) → new other ≡ old other
OnlyOutputsChange old new (requests.Report words) = OthersStayIf old new words.page
OnlyOutputsChange old new (requests.Renew words) = OthersStay old new words.new.now
OnlyOutputsChange old new (requests.Run words) = OthersStayIf old new words.journal
OnlyOutputsChange old new _ = new ≡ old

-- The report's file has this text, where there is one, and no other file was changed.
pub record IsToldAlone (old new : Contents) (report : Option (Bor (List ℕ))) (text : List ℕ) : Type 0 where
  pub name : Bor (List ℕ)
  pub named : report ≡ Some name
  pub written : AreBytesOf (new name.now) text
  pub others : OthersStay old new name.now

-- The page of a build of the class files is written, where the words name a file for it, or its page and its report,
-- and memory was refused for what comes after: no other file was changed.
pub record IsPartOfBuild (old new : Contents) (words : Build) : Type 0 where
  pub answer : Built
  pub asked : IsAskedBuild old words.building answer
  pub between : Contents
  pub page : HasPage old between words.page answer words.building
  pub report : (new ≡ between)
      ⊎ IsToldAlone between new words.report (report_text answer.image answer.verdicts)

-- The journal of a run from a world is written, up to its end or its limit, and no other file was changed.
pub record HasJournal (old new : Contents) (words : Run) (P : Tables) (first : World) : Type 0 where
  pub schedule : List ℕ
  pub last : World
  pub run : Reaches (program_of P) first schedule last
  pub rest : Rest
  pub stands : IsRest (program_of P) last rest
  pub keeps : KeepsLimit words.turns words.limit P first schedule last rest
  pub written : IsWritten old new words.journal schedule

-- The same of a run of the image. Memory was refused for what is told of it.
pub record IsJournalAlone (old new : Contents) (words : Run) : Type 0 where
  pub image : ImageTables
  pub first : World
  pub begun : IsBegunFromImage old words.image.now words.entries.now image first
  pub journal : HasJournal old new words image.program first

-- An output that a request asks for was written before memory was refused.
abbrev pub HasWrittenSome : Contents → Contents → Request → Type 0
HasWrittenSome old new (requests.Build words) = IsPartOfBuild old new words
HasWrittenSome old new (requests.Run words) = IsJournalAlone old new words
HasWrittenSome old new _ = ⊥

-- What a request leaves of files where its command is refused, or fails.
abbrev pub HasLeft : Contents → Contents → Request → Status → Type 0
HasLeft old new request Refused = (new ≡ old) ⊎ HasWrittenSome old new request
HasLeft old new request Failed = OnlyOutputsChange old new request
HasLeft old new request _ = ⊤

-- What words leave of files so: all as they were, or it is what the request leaves that they are.
abbrev pub WordsHaveLeft : List (List ℕ) → Contents → Contents → Status → Type 0
WordsHaveLeft words old new status =
    (new ≡ old) ⊎ AskFor words old (λ request. HasLeft old new request status)
