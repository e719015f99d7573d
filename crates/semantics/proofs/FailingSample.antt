-- Two classes: the initializer of class 0 fails with a NullPointerException. The main of class 1 catches the
-- ExceptionInInitializerError that this becomes, prints 5 and throws it again; the main of class 2, on a second thread,
-- gets a NoClassDefFoundError.
use Rattle.std.proofs.Common.{◌≡◌, ℕ, zero, suc, pos, false, List, [], ◌∷◌, ◌++◌, replicate, Option, Some, None, refl}
use Rattle.std.proofs.Common.{arith}
use Rattle.std.specs.Fmt.{digits}
use Rattle.vm_state.specs.declared.value.Value.TheVariants.{Null}
use Rattle.built_in.specs.declared.class_id.ClassId.{ClassId}
use Rattle.built_in.specs.declared.class_id.ClassId.TheVariants.{BuiltIn}
use Rattle.built_in.specs.declared.class_id.BuiltIn.TheVariants.{ExceptionInInitializerError, NoClassDefFoundError}
use Rattle.vm_state.specs.declared.classes.StaticField.{StaticField}
use Rattle.vm_state.specs.declared.ends.Ending.TheVariants.{Uncaught}
use Rattle.vm_state.specs.Operands.{pushed, top, rest}
use Rattle.semantics.specs.Programs.{Program}
use Rattle.semantics.specs.Quiet.{Environment, Raised}
use Rattle.semantics.specs.Settling.{At, Inside}
use Rattle.semantics.specs.helpers.Settling.{RefusedBy}
use Rattle.semantics.specs.Steps.{step_thread}
use Rattle.semantics.specs.Worlds.{Observation, Shows, lazy_start}
use Rattle.semantics.specs.Lawful.{IsLawful}
use Rattle.semantics.proofs.ToyMachine.{Instruction, PushInt, GetStatic, GetField, Throw, PrintInt, Return, Code, toy}
use Rattle.semantics.proofs.ToyLaws.{IsSound, toy_is_lawful}
use Rattle.semantics.proofs.SchedulesLemmas.{shows_after}

-- ---- the program

-- method 0 is the initializer of class 0, and methods 1 and 2 are the mains of classes 1 and 2
abbrev body : ℕ → List Instruction
body zero = GetStatic 0 0 ∷ GetField 0 ∷ Return ∷ []
body (suc zero) = GetStatic 0 0 ∷ Return ∷ PushInt (pos 5) ∷ PrintInt ∷ Throw ∷ []
body (suc (suc m)) = GetStatic 0 0 ∷ Return ∷ []

-- place 0 of method 1 has a handler
abbrev handler : (method place : ℕ) → ClassId → Option ℕ
handler (suc zero) zero class = Some 2
handler (suc zero) (suc place) class = None
handler zero place class = None
handler (suc (suc m)) place class = None

abbrev statics : ℕ → List StaticField
statics c = record { is_final = false; zero = Null; constant = None } ∷ []

-- a class's method, and a method's class
abbrev initializer : ℕ → Option ℕ
initializer zero = Some 0
initializer (suc n) = None

abbrev code : Code
code = record {
  count = 3;
  body = body;
  room = λ m. 2;
  handler = handler;
  selected = λ class m. None;
  slots = λ c. [];
  statics = statics;
  parents = λ c. [];
  main = λ c. Some c;
  initializer = initializer;
  initialized = initializer;
  is_error = λ class. false;
}

abbrev pub program : Program
program = toy code

own_initializer : (c d m : ℕ) → initializer c ≡ Some m → initializer m ≡ Some d → d ≡ c
own_initializer zero d zero e h = cc
own_initializer zero d (suc m) e h = cc
own_initializer (suc c) d m e h = cc

code_is_sound : IsSound code
code_is_sound = record { slots = λ c. tt; statics = λ c. ((refl, λ v e. cc), tt); initializers = own_initializer }

pub program_is_lawful : IsLawful program
program_is_lawful = toy_is_lawful code code_is_sound

-- ---- class 0 is refused

abbrev alone : Environment
alone d = None

pub refused : RefusedBy program alone 0 2 Raised
unfolding pushed top rest
refused = Inside refl refl (omega arith) (At refl)

-- ---- what is seen

abbrev pub observation : Observation
observation = record {
  printed = record { thread = 0; text = 53 ∷ 10 ∷ [] } ∷ [];
  threads = Uncaught (BuiltIn ExceptionInInitializerError) ∷ Uncaught (BuiltIn NoClassDefFoundError) ∷ [];
}

pub lazy_shows : Shows program (lazy_start program (1 ∷ 2 ∷ [])) observation
unfolding step_thread pushed top rest digits
lazy_shows = shows_after program (replicate 11 0 ++ replicate 4 1) (lazy_start program (1 ∷ 2 ∷ [])) observation refl
