-- What a command has done that was not refused, by what its words ask for: what its files held and hold, and what
-- standard output got.
use Rattle.std.specs.Prelude.{◌≡◌, ◌≢◌, ◌⊎◌, ℕ, List, Option, Some, None, length, ⊤}
use Rattle.std.specs.Borrow.{Bor}
use Rattle.std.specs.Global.{Vec}
use Rattle.std.specs.Io.KnownBytes.{Appends}
use Rattle.vm_state.specs.Output.{text_of as printed_text}
use Rattle.semantics.specs.Worlds.{World, Run as Reaches, seen}
use Rattle.program.specs.Tables.{Tables}
use Rattle.machine.specs.Linked.{program_of}
use Rattle.object_graph.specs.Images.{ImageTables}
use Rattle.init_engine.specs.Rests.{IsRest}
use Rattle.init_engine.specs.Rounds.{Turns}
use Rattle.init_engine.specs.Schedules.{AreRuns, schedule_of}
use Rattle.init_engine.specs.declared.stuck.Rest.{Rest}
use Rattle.journal.specs.Journals.{lines_of}
use Rattle.building.specs.Builds.{text_of}
use Rattle.building.specs.declared.build.Built.{Built}
use Rattle.report.specs.Texts.{report_text}
use Rattle.command_line.specs.CommandLine.{AsksHelp}
use Rattle.command_line.specs.Files.{files_of, with_files}
use Rattle.command_line.specs.Requests.{AskNothing, IsLine, texts}
use Rattle.command_line.specs.declared.request.Build.{Build}
use Rattle.command_line.specs.declared.request.Building.{Building}
use Rattle.command_line.specs.declared.request.Lazy.{Lazy}
use Rattle.command_line.specs.declared.request.Renew.{Renew}
use Rattle.command_line.specs.declared.request.Replay.{Replay}
use Rattle.command_line.specs.declared.request.Report.{Report}
use Rattle.command_line.specs.declared.request.Request.{Request}
use Rattle.command_line.specs.declared.request.Request.TheVariants as requests
use Rattle.command_line.specs.declared.request.Run.{Run}
use Rattle.cli.specs.Audits.{HasAudited}
use Rattle.cli.specs.Begins.{IsBegun, IsBegunFromImage}
use Rattle.cli.specs.Explanations.{HasExplained}
use Rattle.cli.specs.Files.{AreBytesOf, Contents, OthersStay}
use Rattle.cli.specs.FirstSteps.{Spells}
use Rattle.cli.specs.ImageBuilds.{IsBuiltText}
use Rattle.cli.specs.ImageRuns.{IsTextOf}
use Rattle.cli.specs.Inspections.{HasInspected}
use Rattle.cli.specs.Journaled.{KeepsLimit}
use Rattle.cli.specs.Lists.{NamesGiven}
use Rattle.cli.specs.Outputs.{AreListsApart, IsApart}
use Rattle.cli.specs.Pages.{IsPageBy}
use Rattle.cli.specs.Renewals.{IsRenewed}
use Rattle.cli.specs.Requested.{IsAskedBuild}
use Rattle.cli.specs.Status.{replay_status, run_status}
use Rattle.cli.specs.declared.status.Status.{Status}
use Rattle.cli.specs.declared.status.Status.TheVariants.{Done, Refused, Words}

-- ---- runs

-- A schedule led from a world to this one, the text of which has gone out whole. The status is that of its threads.
pub record HasEnded (P : Tables) (first : World) (schedule : List ℕ) (last : World) (before after : Option (List ℕ))
    (status : Status) : Type 0 where
  pub run : Reaches (program_of P) first schedule last
  pub rest : Rest
  pub stands : IsRest (program_of P) last rest
  pub status_is : status ≡ run_status (seen last).threads rest
  pub sent : Appends before after (printed_text last.shared.printed)

-- The turns of the threads of a world, of at most so many steps, have ended so.
pub record HasEndedByTurns (P : Tables) (first : World) (limit : ℕ) (before after : Option (List ℕ)) (status : Status)
    : Type 0 where
  pub schedule : List ℕ
  pub last : World
  pub turns : Turns (program_of P) (length first.threads) limit first schedule last
  pub ended : HasEnded P first schedule last before after status

-- The class files ran by turns, from the entries and up to the limit of the words.
pub record HasRunLazily (holds : Contents) (words : Lazy) (before after : Option (List ℕ)) (status : Status)
    : Type 0 where
  pub program : Tables
  pub first : World
  pub begun : IsBegun holds words program first
  pub ended : HasEndedByTurns program first words.limit before after status

-- The file of this name holds the journal of a schedule, and no other file was changed.
pub record IsWrittenTo (old new : Contents) (name schedule : List ℕ) : Type 0 where
  pub runs : List (ℕ × ℕ)
  pub are : AreRuns runs
  pub schedule_is : schedule ≡ schedule_of runs
  pub written : AreBytesOf (new name) (lines_of runs)
  pub others : OthersStay old new name

-- the same of the file for the journal, where the words name one; and else no file was changed
abbrev pub IsWritten : Contents → Contents → Option (Bor (List ℕ)) → List ℕ → Type 0
IsWritten old new None schedule = new ≡ old
IsWritten old new (Some name) schedule = IsWrittenTo old new name.now schedule

-- A run from a world has ended so, by turns or by threads as the words say, at its limit if not before. Its journal is
-- written.
pub record HasEndedWithJournal (old new : Contents) (words : Run) (P : Tables) (first : World)
    (before after : Option (List ℕ)) (status : Status) : Type 0 where
  pub schedule : List ℕ
  pub last : World
  pub ended : HasEnded P first schedule last before after status
  pub keeps : KeepsLimit words.turns words.limit P first schedule last ended.rest
  pub written : IsWritten old new words.journal schedule

-- The image ran from the entries of the words, and its journal was written.
pub record HasRunImage (old new : Contents) (words : Run) (before after : Option (List ℕ)) (status : Status)
    : Type 0 where
  pub image : ImageTables
  pub first : World
  pub begun : IsBegunFromImage old words.image.now words.entries.now image first
  pub ended : HasEndedWithJournal old new words image.program first before after status

-- The image ran from the entries of the words by the journal that the file holds, or by its first steps, as many as the
-- words say.
pub record HasReplayed (holds : Contents) (words : Replay) (before after : Option (List ℕ)) (status : Status)
    : Type 0 where
  pub image : ImageTables
  pub first : World
  pub begun : IsBegunFromImage holds words.image.now words.entries.now image first
  pub bytes : List ℕ
  pub held : AreBytesOf (holds words.journal.now) bytes
  pub runs : List (ℕ × ℕ)
  pub journal : Spells words.at bytes runs
  pub last : World
  pub run : Reaches (program_of image.program) first (schedule_of runs) last
  pub status_is : status ≡ replay_status (seen last).threads
  pub sent : Appends before after (printed_text last.shared.printed)

-- ---- builds

-- The files of the image and of the report hold these texts, and no other file was changed.
pub record AreBothWritten (old new : Contents) (image report bytes text : List ℕ) : Type 0 where
  pub written : AreBytesOf (new image) bytes
  pub told : AreBytesOf (new report) text
  pub others : (other : List ℕ) → other ≢ image → other ≢ report → new other ≡ old other

-- the same where the words name a file for the report, and else of the image alone
abbrev pub AreWritten : Contents → Contents → List ℕ → Option (Bor (List ℕ)) → List ℕ → List ℕ → Type 0
AreWritten old new image None bytes text = AreBytesOf (new image) bytes × OthersStay old new image
AreWritten old new image (Some report) bytes text = AreBothWritten old new image report.now bytes text

-- The file of this name holds the page of a build, as the words say, and no other file was changed.
pub record IsPageIn (old new : Contents) (name : List ℕ) (answer : Built) (words : Building) : Type 0 where
  pub page : List ℕ
  pub is : IsPageBy answer (text_of words.run_time) words.budget page
  pub written : AreBytesOf (new name) page
  pub others : OthersStay old new name

-- the same where the words name a file for the page, and else no file was changed
abbrev pub HasPage : Contents → Contents → Option (Bor (List ℕ)) → Built → Building → Type 0
HasPage old new None answer words = new ≡ old
HasPage old new (Some name) answer words = IsPageIn old new name.now answer words

-- The file of the image holds the text of one that is built of the class files, as the words say, and that of the
-- report, where the words name one, the report on the same build. Where they name one for a page, it was written before
-- these, and has a name of its own (`IsPageApart`).
pub record HasBuilt (old new : Contents) (words : Build) : Type 0 where
  pub answer : Built
  pub asked : IsAskedBuild old words.building answer
  pub bytes : List ℕ
  pub built : IsBuiltText asked.files (text_of words.building.run_time) (text_of words.building.build_time)
      words.building.budget bytes
  pub text : IsTextOf bytes answer.image
  pub between : Contents
  pub page : HasPage old between words.page answer words.building
  pub written : AreWritten between new words.image.now words.report bytes (report_text answer.image answer.verdicts)

-- This is the report on a build of the class files, as the words say, and the file of the page, where they name one,
-- holds the page of the same build.
pub record HasReport (old new : Contents) (words : Report) (report : List ℕ) : Type 0 where
  pub answer : Built
  pub asked : IsAskedBuild old words.building answer
  pub page : HasPage old new words.page answer words.building
  pub is : report ≡ report_text answer.image answer.verdicts

-- The report on a build of the class files went out.
pub record HasReported (old new : Contents) (words : Report) (before after : Option (List ℕ)) : Type 0 where
  pub report : List ℕ
  pub is : HasReport old new words report
  pub sent : Appends before after report

-- The new file holds the image that the file of the words holds, in the version that is written.
pub record HasRenewed (old new : Contents) (words : Renew) : Type 0 where
  pub bytes : List ℕ
  pub held : AreBytesOf (old words.image.now) bytes
  pub renewed : List ℕ
  pub is : IsRenewed bytes renewed
  pub written : AreBytesOf (new words.new.now) renewed
  pub others : OthersStay old new words.new.now

-- ---- commands

-- What was done that a request asks for, where the command ends with this status.
abbrev pub IsDone : Contents → Contents → Option (List ℕ) → Option (List ℕ) → Request → Status → Type 0
IsDone old new before after (requests.Audit words) status =
    (new ≡ old) × HasAudited old words before after status
IsDone old new before after (requests.Build words) status =
    (status ≡ Done) × (after ≡ before) × HasBuilt old new words
IsDone old new before after (requests.Explain words) status =
    (status ≡ Done) × (new ≡ old) × HasExplained old words before after
IsDone old new before after (requests.Inspect words) status =
    (status ≡ Done) × (new ≡ old) × HasInspected old words before after
IsDone old new before after (requests.Lazy words) status =
    (new ≡ old) × HasRunLazily old words before after status
IsDone old new before after (requests.Renew words) status =
    (status ≡ Done) × (after ≡ before) × HasRenewed old new words
IsDone old new before after (requests.Replay words) status =
    (new ≡ old) × HasReplayed old words before after status
IsDone old new before after (requests.Report words) status =
    (status ≡ Done) × HasReported old new words before after
IsDone old new before after (requests.Run words) status = HasRunImage old new words before after status

-- This holds of what a request asks for, with the names of lists in the place of the words that name these.
pub record HoldsWithLists (holds : Contents) (asked : Request) (P : Request → Type 0) : Type 0 where
  pub names : Vec (Bor (List ℕ))
  pub given : NamesGiven holds (texts (files_of asked)) (texts names.items)
  pub has : P (with_files asked names)

-- Words were read as a request, and this holds of it, with the names of lists in their place. No list is an output.
pub record AskFor (words : List (List ℕ)) (holds : Contents) (P : Request → Type 0) : Type 0 where
  pub asked : Request
  pub read : IsLine words asked
  pub lists : AreListsApart asked
  pub has : HoldsWithLists holds asked P

-- What words ask for in place of a request, by the status that their command then ends with: nothing, or help. An
-- allocation may fail before that is known.
abbrev pub IsNoRequest : List (List ℕ) → Status → Type 0
IsNoRequest words Refused = ⊤
IsNoRequest words Words = AskNothing words
IsNoRequest words _ = AsksHelp words

-- Words ask for some request, or for none.
abbrev pub IsAsked : List (List ℕ) → Status → Type 0
IsAsked words status = ((request : Request) × IsLine words request) ⊎ IsNoRequest words status

-- Some text went out, as help.
pub record HasHelped (before after : Option (List ℕ)) (status : Status) : Type 0 where
  pub text : List ℕ
  pub sent : Appends before after text
  pub done : status ≡ Done

-- What was done that the words ask for.
abbrev pub DidWords : List (List ℕ) → Contents → Contents → Option (List ℕ) → Option (List ℕ) → Status → Type 0
DidWords words old new before after status =
    ((new ≡ old) × AsksHelp words × HasHelped before after status)
    ⊎ AskFor words old (λ request. IsApart request × IsDone old new before after request status)
