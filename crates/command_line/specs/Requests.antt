-- What command-line arguments request, by what was found of those of their command, and what else they give.
use Rattle.std.specs.Prelude.{◌≡◌, ◌≢◌, ℕ, Bool, true, false, List, [], Option, Some, None, Ok, map, option_map}
use Rattle.std.specs.Prelude.{MatchOption, codes, unwrap_or}
use Rattle.std.specs.Borrow.{Bor}
use Rattle.std.specs.Str.Parse.{ParsesUnsigned}
use Rattle.std.specs.declared.num.ParseIntError.{ParseIntError}
use Rattle.clap.specs.Simple.{subcommand_of}
use Rattle.clap.specs.Walk.{Row, Text, all_of, first_of, one_of}
use Rattle.command_line.specs.CommandLine.{AsksHelp, BreaksRule, faults_in, preinit}
use Rattle.command_line.specs.declared.fault.WordsFault.{WordsFault}
use Rattle.command_line.specs.declared.fault.WordsFault.TheVariants as faults
use Rattle.command_line.specs.declared.request.Audit.{Audit}
use Rattle.command_line.specs.declared.request.Build.{Build}
use Rattle.command_line.specs.declared.request.Building.{Building}
use Rattle.command_line.specs.declared.request.Explain.{Explain}
use Rattle.command_line.specs.declared.request.Inspect.{Inspect}
use Rattle.command_line.specs.declared.request.Lazy.{Lazy}
use Rattle.command_line.specs.declared.request.Renew.{Renew}
use Rattle.command_line.specs.declared.request.Replay.{Replay}
use Rattle.command_line.specs.declared.request.Report.{Report}
use Rattle.command_line.specs.declared.request.Request.{Request}
use Rattle.command_line.specs.declared.request.Request.TheVariants as requests
use Rattle.command_line.specs.declared.request.Run.{Run}

-- the texts that some references point to
abbrev pub texts : List (Bor (List ℕ)) → List (List ℕ)
texts words = map (λ (word : Bor (List ℕ)). word.now) words

-- the text that a reference points to, if there is one
abbrev pub text_in : Option (Bor (List ℕ)) → Option (List ℕ)
text_in = option_map (λ (s : Bor (List ℕ)). s.now)

-- all values of an argument, and none where it was not used
abbrev pub values_of : List Row → Text → List Text
values_of found id = unwrap_or (all_of id found) []

-- the value of an argument is a number of so many bits, in decimal digits
abbrev pub HoldsBits : ℕ → List Row → Text → ℕ → Type 0
HoldsBits bits found id n =
    (text : Text) × (one_of id found ≡ Some text) × ParsesUnsigned {E = ParseIntError} bits 10 text (Ok n)

-- the value of an argument is a number of 64 bits
abbrev pub HoldsNumber : List Row → Text → ℕ → Type 0
HoldsNumber found id n = HoldsBits 64 found id n

-- the value of an argument is this number of 64 bits, where it has one
abbrev pub HoldsMaybe : List Row → Text → Option ℕ → Type 0
HoldsMaybe found id number =
    MatchOption number ((n : ℕ) → HoldsNumber found id n → ⊥) (λ n. HoldsNumber found id n)

-- whether a flag was used
pub record HoldsFlag (found : List Row) (id : Text) (used : Bool) : Type 0 where
  pub none : one_of id found ≡ None → used ≡ false
  pub yes : one_of id found ≡ Some (codes "true") → used ≡ true
  pub no : one_of id found ≡ Some (codes "false") → used ≡ false

-- what is requested of a build
pub record HoldsBuilding (found : List Row) (building : Building) : Type 0 where
  pub run_time : text_in building.run_time ≡ first_of (codes "run_time") found
  pub build_time : text_in building.build_time ≡ first_of (codes "build_time") found
  pub budget : HoldsNumber found (codes "budget") building.budget
  pub files : texts building.files.items ≡ values_of found (codes "file")
  pub verbose : HoldsFlag found (codes "verbose") building.verbose

pub record HoldsBuild (found : List Row) (build : Build) : Type 0 where
  pub image : first_of (codes "out") found ≡ Some build.image.now
  pub report : text_in build.report ≡ first_of (codes "report") found
  pub page : text_in build.page ≡ first_of (codes "page") found
  pub building : HoldsBuilding found build.building
  pub workers : HoldsBits 32 found (codes "workers") build.workers

pub record HoldsReport (found : List Row) (report : Report) : Type 0 where
  pub page : text_in report.page ≡ first_of (codes "page") found
  pub building : HoldsBuilding found report.building

-- what is requested of the classes of a build, or of one of them
pub record HoldsExplain (found : List Row) (explain : Explain) : Type 0 where
  pub class : first_of (codes "class") found ≡ Some explain.class.now
  pub building : HoldsBuilding found explain.building

-- what is requested before a run
pub record HoldsAudit (found : List Row) (audit : Audit) : Type 0 where
  pub entries : first_of (codes "entries") found ≡ Some audit.entries.now
  pub files : texts audit.files.items ≡ values_of found (codes "file")
  pub verbose : HoldsFlag found (codes "verbose") audit.verbose

-- what is requested of a run
pub record HoldsLazy (found : List Row) (lazy : Lazy) : Type 0 where
  pub entries : first_of (codes "entries") found ≡ Some lazy.entries.now
  pub limit : HoldsNumber found (codes "limit") lazy.limit
  pub stacks : HoldsFlag found (codes "stacks") lazy.stacks
  pub files : texts lazy.files.items ≡ values_of found (codes "file")
  pub verbose : HoldsFlag found (codes "verbose") lazy.verbose

pub record HoldsRun (found : List Row) (run : Run) : Type 0 where
  pub entries : first_of (codes "entries") found ≡ Some run.entries.now
  pub limit : HoldsNumber found (codes "limit") run.limit
  pub turns : HoldsFlag found (codes "turns") run.turns
  pub stacks : HoldsFlag found (codes "stacks") run.stacks
  pub journal : text_in run.journal ≡ first_of (codes "journal") found
  pub image : first_of (codes "image") found ≡ Some run.image.now
  pub verbose : HoldsFlag found (codes "verbose") run.verbose

-- what is requested of an image to be written again
pub record HoldsRenew (found : List Row) (renew : Renew) : Type 0 where
  pub new : first_of (codes "out") found ≡ Some renew.new.now
  pub image : first_of (codes "image") found ≡ Some renew.image.now
  pub verbose : HoldsFlag found (codes "verbose") renew.verbose

-- what the words ask for, of an image to be looked at
pub record HoldsInspect (found : List Row) (inspect : Inspect) : Type 0 where
  pub image : first_of (codes "image") found ≡ Some inspect.image.now
  pub verbose : HoldsFlag found (codes "verbose") inspect.verbose

pub record HoldsReplay (found : List Row) (replay : Replay) : Type 0 where
  pub entries : first_of (codes "entries") found ≡ Some replay.entries.now
  pub stacks : HoldsFlag found (codes "stacks") replay.stacks
  pub at : HoldsMaybe found (codes "at") replay.at
  pub journal : first_of (codes "journal") found ≡ Some replay.journal.now
  pub image : first_of (codes "image") found ≡ Some replay.image.now
  pub verbose : HoldsFlag found (codes "verbose") replay.verbose

-- The command of this name requests this, by what was found of its arguments.
abbrev pub Holds : Text → List Row → Request → Type 0
Holds name found (requests.Audit audit) = (name ≡ codes "audit") × HoldsAudit found audit
Holds name found (requests.Build build) = (name ≡ codes "build") × HoldsBuild found build
Holds name found (requests.Explain explain) = (name ≡ codes "explain") × HoldsExplain found explain
Holds name found (requests.Inspect inspect) = (name ≡ codes "inspect") × HoldsInspect found inspect
Holds name found (requests.Lazy lazy) = (name ≡ codes "lazy") × HoldsLazy found lazy
Holds name found (requests.Renew renew) = (name ≡ codes "renew") × HoldsRenew found renew
Holds name found (requests.Replay replay) = (name ≡ codes "replay") × HoldsReplay found replay
Holds name found (requests.Report report) = (name ≡ codes "report") × HoldsReport found report
Holds name found (requests.Run run) = (name ≡ codes "run") × HoldsRun found run

-- The arguments name a command of the program, break no rule, and this is what they request: the command, with the
-- values that were found.
pub record IsLine (words : List Text) (request : Request) : Type 0 where
  pub right : faults_in words ≡ []
  pub name : Text
  pub found : List Row
  pub met : subcommand_of preinit words ≡ Some (name, found)
  pub holds : Holds name found request

-- The arguments request nothing: a rule of the command line is broken, or else a value that a command needs is missing.
pub record AskNothing (words : List Text) : Type 0 where
  pub rule : faults_in words ≢ [] → BreaksRule words
  pub no_line : (request : Request) → IsLine words request → ⊥

-- what the arguments are, where they give this in place of a request
abbrev pub IsFaultOf : List Text → WordsFault → Type 0
IsFaultOf words faults.Memory = Unit {0}
IsFaultOf words (faults.Help text) = AsksHelp words
IsFaultOf words (faults.Wrong text) = AskNothing words
