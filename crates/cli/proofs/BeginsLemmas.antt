-- What a run begins with.
use Rattle.std.proofs.Common.{◌≡◌, ℕ, List, Option, Result, Ok, Err, IfOk, sym, subst}
use Rattle.semantics.specs.Worlds.{World}
use Rattle.program.specs.Tables.{Tables}
use Rattle.object_graph.specs.Images.{ImageTables}
use Rattle.init_engine.specs.Starts.{IsStart}
use Rattle.command_line.specs.Requests.{texts}
use Rattle.command_line.specs.declared.request.Lazy.{Lazy}
use Rattle.command_line.specs.declared.request.Request.TheVariants as requests
use Rattle.command_line.specs.declared.request.Run.{Run}
use Rattle.cli.specs.declared.running.CutShort.TheVariants.{Memory}
use Rattle.cli.specs.declared.status.Status.{Status}
use Rattle.cli.specs.Begins.{IsBegun, IsBegunFromFile}
use Rattle.cli.specs.Done.{HasEndedByTurns, HasEndedWithJournal, HasRunImage, HasRunLazily}
use Rattle.cli.specs.Entries.{entry_names}
use Rattle.cli.specs.Files.{AreBytesOf, AreTextsOf, Contents}
use Rattle.cli.specs.ImageBuilds.{IsReadAsBuilt}
use Rattle.cli.specs.ImageRuns.{IsSomeTextOf}
use Rattle.cli.specs.Running.{IsCutShort, IsOfRun}
use Rattle.cli.specs.Runs.{IsProgramOf}
use Rattle.cli.specs.steps.Starts.{IsBegunFrom, IsBegunFromBytes}

-- what holds a program holds one of the same texts
pub program_kept : {S E : Type 0} (program : S → Tables) (texts : List (List ℕ)) (P : Tables) (r : Result S E)
    → IsProgramOf texts P → IfOk r (λ s. program s ≡ P) → IfOk r (λ s. IsProgramOf texts (program s))
program_kept program texts P (Ok s) is same = subst (IsProgramOf texts) (sym same) is
program_kept program texts P (Err e) is same = tt

module _ {S E : Type 0} (world : S → World) (holds : Contents) where
  pub begun : (words : Lazy) (program : S → Tables) (files : List (List ℕ)) (r : Result S E)
      → AreTextsOf holds (texts words.files.items) files → IfOk r (λ s. IsProgramOf files (program s))
      → IfOk r (λ s. IsStart (program s) (entry_names words.entries.now) (world s))
      → IfOk r (λ s. IsBegun holds words (program s) (world s))
  begun words program files (Ok s) held is start =
      record { files = files; held = held; program = is; start = start }
  begun words program files (Err e) held is start = tt

-- ---- starts from images

pub begun_from_file : (holds : Contents) (name list bytes : List ℕ) (P : Tables) (w : World)
    → AreBytesOf (holds name) bytes → IsBegunFromBytes bytes list P w → IsBegunFromFile holds name list P w
begun_from_file holds name list bytes P w held is = record {
  image = is.image;
  program = is.begun.program;
  begun = record {
    bytes = bytes;
    held = held;
    text = is.text;
    built = is.built;
    program = is.begun.linked;
    start = is.begun.start;
  };
}

module _ {S E : Type 0} (program : S → Tables) (world : S → World) where
  pub start_from_file : (holds : Contents) (name list bytes : List ℕ) (r : Result S E)
      → AreBytesOf (holds name) bytes → IfOk r (λ s. IsBegunFromBytes bytes list (program s) (world s))
      → IfOk r (λ s. IsBegunFromFile holds name list (program s) (world s))
  start_from_file holds name list bytes (Ok s) held is =
      begun_from_file holds name list bytes (program s) (world s) held is
  start_from_file holds name list bytes (Err e) held is = tt

  pub start_from_bytes : (bytes list : List ℕ) (I : ImageTables) (names : List (List ℕ)) (r : Result S E)
      → names ≡ entry_names list → IsSomeTextOf bytes I → IsReadAsBuilt bytes I
      → IfOk r (λ s. IsBegunFrom I names (program s) (world s))
      → IfOk r (λ s. IsBegunFromBytes bytes list (program s) (world s))
  start_from_bytes bytes list I names (Ok s) are text built is = record {
    image = I;
    text = text;
    built = built;
    begun = subst (λ (ns : List (List ℕ)). IsBegunFrom I ns (program s) (world s)) are is;
  }
  start_from_bytes bytes list I names (Err e) are text built is = tt

-- ---- runs from there

module _ (holds : Contents) (first : World) (before after : Option (List ℕ)) where
  pub of_lazy_run : (words : Lazy) (P : Tables) → IsBegun holds words P first
      → IsCutShort P first before after Memory → IsOfRun holds (requests.Lazy words) before after
  of_lazy_run words P begun cut = record { program = P; first = first; begun = begun; cut = cut }

  pub has_run_lazily : (words : Lazy) (P : Tables) (status : Status) → IsBegun holds words P first
      → HasEndedByTurns P first words.limit before after status → HasRunLazily holds words before after status
  has_run_lazily words P status begun ended = record { program = P; first = first; begun = begun; ended = ended }

  pub of_image_run : (words : Run) (P : Tables) → IsBegunFromFile holds words.image.now words.entries.now P first
      → IsCutShort P first before after Memory → IsOfRun holds (requests.Run words) before after
  of_image_run words P begun cut = record { program = P; first = first; begun = begun; cut = cut }

  pub has_run_image : (new : Contents) (words : Run) (P : Tables) (status : Status)
      → IsBegunFromFile holds words.image.now words.entries.now P first
      → HasEndedWithJournal holds new words P first before after status
      → HasRunImage holds new words before after status
  has_run_image new words P status begun ended = record {
    image = begun.image;
    first = first;
    begun = begun.begun;
    ended = subst (λ (Q : Tables). HasEndedWithJournal holds new words Q first before after status)
        (sym begun.program) ended;
  }
