-- From what `clap` promises of a parse to what the arguments request.
use Rattle.std.proofs.Common.{◌≡◌, ◌∙◌, true, List, []}
use Rattle.std.proofs.Common.{inl, inr, refl, sym, ap, subst}
use Rattle.clap.specs.Faults.{fault_of, is_simple_and_free}
use Rattle.clap.specs.Kinds.{HasKind, IsAmong}
use Rattle.clap.specs.Simple.{App, HasMatchesOf, is_simple, subcommand_of}
use Rattle.clap.specs.Values.{kind_of}
use Rattle.clap.specs.Walk.{Text}
use Rattle.clap.specs.declared.error.Error.{Error}
use Rattle.clap.specs.declared.error.kind.ErrorKind.{ErrorKind}
use Rattle.clap.specs.declared.error.kind.ErrorKind.TheVariants.{DisplayHelp, DisplayVersion, MissingSubcommand, OutOfMemory}
use Rattle.clap.specs.declared.parser.matches.ArgMatches.{ArgMatches}
use Rattle.command_line.specs.CommandLine.{faults_in, preinit}
use Rattle.command_line.specs.Requests.{IsFaultOf, IsLine}
use Rattle.command_line.specs.declared.fault.WordsFault.{WordsFault}
use Rattle.command_line.specs.declared.fault.WordsFault.TheVariants as faults
use Rattle.command_line.specs.declared.request.Request.{Request}
use Rattle.command_line.specs.steps.Faults.{AskedByMatches, SaysKind}

-- the program is one of which `clap` says all matches and all faults
pub is_told : is_simple_and_free preinit ≡ true
is_told = refl

pub is_simple_program : is_simple preinit ≡ true
is_simple_program = refl

-- the arguments of matches that request something are a line
pub line_of : (app : App) (words : List Text) (matches : ArgMatches) (request : Request) → app ≡ preinit
    → HasMatchesOf app words matches → (is_simple_and_free app ≡ true → fault_of app words ≡ [])
    → AskedByMatches matches request → IsLine words request
line_of app words matches request is has free asks = record {
  right = subst (λ (a : App). fault_of a words ≡ []) is (free (ap is_simple_and_free is ∙ is_told));
  name = asks.0;
  found = asks.1;
  met = ap (λ (a : App). subcommand_of a words) (sym is) ∙ sym (has (ap is_simple is ∙ is_simple_program)).1 ∙ asks.2;
  holds = asks.3;
}

-- and matches ask for what a line asks for
pub asks_of : (app : App) (words : List Text) (matches : ArgMatches) (request : Request) → app ≡ preinit
    → HasMatchesOf app words matches → IsLine words request → AskedByMatches matches request
asks_of app words matches request is has line = (
  line.name,
  line.found,
  (has (ap is_simple is ∙ is_simple_program)).1 ∙ ap (λ (a : App). subcommand_of a words) is ∙ line.met,
  line.holds,
)

-- matches that ask for nothing
pub nothing_of : (app : App) (words : List Text) (matches : ArgMatches) (fault : WordsFault) → app ≡ preinit
    → HasMatchesOf app words matches → (is_simple_and_free app ≡ true → fault_of app words ≡ [])
    → ((request : Request) → AskedByMatches matches request → ⊥)
    → SaysKind MissingSubcommand fault → IsFaultOf words fault
nothing_of app words matches faults.Memory is has free none says = tt
nothing_of app words matches (faults.Help text) is has free none says = elim says [
  | inl help ↦ absurd (let clash : MissingSubcommand ≡ DisplayHelp = help in cc)
  | inr version ↦ absurd (let clash : MissingSubcommand ≡ DisplayVersion = version in cc)
]
nothing_of app words matches (faults.Wrong text) is has free none says = record {
  rule = λ some. absurd (some (subst (λ (a : App). fault_of a words ≡ []) is (free (ap is_simple_and_free is ∙ is_told))));
  no_line = λ request line. none request (asks_of app words matches request is has line);
}

among_none : (kind : ErrorKind) (words : List Text) → IsAmong kind (faults_in words) → faults_in words ≡ [] → ⊥
among_none kind words among none = subst (λ (kinds : List ErrorKind). IsAmong kind kinds) none among

told : (words : List Text) (kind : ErrorKind) (fault : WordsFault) → IsAmong kind (faults_in words) → SaysKind kind fault
    → IsFaultOf words fault
told words kind faults.Memory among says = tt
told words kind (faults.Help text) among says = elim says [
  | inl help ↦ inl (subst (λ (k : ErrorKind). IsAmong k (faults_in words)) help among)
  | inr version ↦ inr (subst (λ (k : ErrorKind). IsAmong k (faults_in words)) version among)
]
told words kind (faults.Wrong text) among says = record {
  rule = λ some. (kind, among, says.0, says.1);
  no_line = λ request line. among_none kind words among line.right;
}

-- a fault of `clap` is one of the arguments
pub fault_told : (app : App) (words : List Text) (error : Error) (fault : WordsFault) → app ≡ preinit
    → (is_simple_and_free app ≡ true → HasKind (fault_of app words) error)
    → (kind_of error ≡ OutOfMemory → fault ≡ faults.Memory) → SaysKind (kind_of error) fault → IsFaultOf words fault
fault_told app words error fault is has memory says = elim (has (ap is_simple_and_free is ∙ is_told)) [
  | inl out ↦ subst (λ (f : WordsFault). IsFaultOf words f) (sym (memory out)) tt
  | inr among ↦ told words (kind_of error) fault
      (subst (λ (a : App). IsAmong (kind_of error) (fault_of a words)) is among) says
]
