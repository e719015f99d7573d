-- The program's own command line: its commands, and the arguments that each has, in the order of its help.
use Rattle.std.specs.Prelude.{◌≢◌, ◌^◌, ◌-◌, ◌⊎◌, Bool, true, false, List, [], ◌∷◌, Some, codes}
use Rattle.clap.specs.Faults.{fault_of}
use Rattle.clap.specs.Kinds.{IsAmong, Kinds}
use Rattle.clap.specs.Lexer.{usize_max}
use Rattle.clap.specs.Simple.{App, Shape, new_rule, new_shape}
use Rattle.clap.specs.Walk.{Rule, Text}
use Rattle.clap.specs.declared.builder.action.ArgAction.TheVariants.{SetTrue}
use Rattle.clap.specs.declared.builder.value_parser.ValueParser.{ValueParser}
use Rattle.clap.specs.declared.builder.value_parser.ValueParser.TheVariants as vp
use Rattle.clap.specs.declared.error.kind.ErrorKind.{ErrorKind}
use Rattle.clap.specs.declared.error.kind.ErrorKind.TheVariants.{DisplayHelp, DisplayVersion}

-- ---- the kinds of arguments

-- `--NAME`, used or not
abbrev pub flag : Text → Rule
flag name = record (new_rule name) { long = Some name; action = Some SetTrue }

-- `--NAME VALUE`, a text, and whether it is required
abbrev pub text : Text → Text → Bool → Rule
text id name is_required = record (new_rule id) { long = Some name; value_names = 1; required = is_required }

-- `--NAME N`, a number, with its default
abbrev pub number : Text → Text → ValueParser → Rule
number name default numbers =
    record (new_rule name) { long = Some name; value_names = 1; defaults = default ∷ []; parser = Some numbers }

-- `--NAME N`, a number, which has no default
abbrev pub maybe : Text → ValueParser → Rule
maybe name numbers = record (new_rule name) { long = Some name; value_names = 1; parser = Some numbers }

-- a text that is required, in a place of its own
abbrev pub word : Text → Rule
word id = record (new_rule id) { value_names = 1; required = true }

-- all further texts
abbrev pub files : Rule
files = record (new_rule (codes "file")) {
  value_names = 1;
  range = Some (record { start_inclusive = 0; end_inclusive = usize_max });
}

-- ---- the arguments

-- those of a build
abbrev pub of_a_build : List Rule
of_a_build = text (codes "build_time") (codes "initialize-at-build-time") false
    ∷ text (codes "run_time") (codes "initialize-at-run-time") false
    ∷ number (codes "budget") (codes "1000000") (vp.Unsigned 0 (2 ^ 64 - 1)) ∷ files ∷ []

abbrev pub entries : Rule
entries = text (codes "entries") (codes "entries") true

abbrev pub limit : Rule
limit = number (codes "limit") (codes "100000000") (vp.Unsigned 1 (10 ^ 15))

abbrev pub page : Rule
page = text (codes "page") (codes "page") false

abbrev pub workers : Rule
workers = number (codes "workers") (codes "1") (vp.Unsigned 0 (2 ^ 32 - 1))

-- ---- the commands

-- a command, where each takes `--verbose`
abbrev pub command : Text → List Rule → Shape
command name rules = record (new_shape name) { rules = flag (codes "verbose") ∷ rules }

abbrev pub commands : List Shape
commands =
    command (codes "build")
    (text (codes "out") (codes "out") true ∷ text (codes "report") (codes "report") false ∷ page ∷ workers ∷ of_a_build)
    ∷ command (codes "report") (page ∷ of_a_build)
    ∷ command (codes "explain") (word (codes "class") ∷ of_a_build)
    ∷ command (codes "renew") (text (codes "out") (codes "out") true ∷ word (codes "image") ∷ [])
    ∷ command (codes "inspect") (word (codes "image") ∷ [])
    ∷ command (codes "audit") (entries ∷ files ∷ [])
    ∷ command (codes "lazy") (entries ∷ limit ∷ flag (codes "stacks") ∷ files ∷ [])
    ∷ command (codes "run")
    (entries ∷ limit ∷ flag (codes "turns") ∷ flag (codes "stacks")
    ∷ text (codes "journal") (codes "journal") false ∷ word (codes "image") ∷ [])
    ∷ command (codes "replay")
    (entries ∷ flag (codes "stacks") ∷ maybe (codes "at") (vp.Unsigned 0 (10 ^ 15))
    ∷ text (codes "journal") (codes "journal") true ∷ word (codes "image") ∷ [])
    ∷ []

-- The program: one of the commands is required, and without any argument its help is shown.
abbrev pub preinit : App
preinit = record {
  top = record (new_shape (codes "preinit")) {
    is_leaf = false;
    no_binary_name = true;
    has_version = true;
    arg_required_else_help = true;
    subcommand_required = true;
  };
  subs = commands;
}

-- ---- what is wrong with command-line arguments

-- the kinds of error that a parse of the arguments may end with, and none where it ends with no error
abbrev pub faults_in : List Text → Kinds
faults_in words = fault_of preinit words

-- help or the version is requested, and nothing else
abbrev pub AsksHelp : List Text → Type 0
AsksHelp words = IsAmong DisplayHelp (faults_in words) ⊎ IsAmong DisplayVersion (faults_in words)

-- the arguments break a rule of the command line
abbrev pub BreaksRule : List Text → Type 0
BreaksRule words = (kind : ErrorKind) × IsAmong kind (faults_in words) × (kind ≢ DisplayHelp) × (kind ≢ DisplayVersion)
