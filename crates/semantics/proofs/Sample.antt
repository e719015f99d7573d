-- Two classes: the initializer of class 0 sets its static final to 6, and the main of class 1 prints it. Class 0 is
-- accepted.
use Rattle.std.proofs.Common.{◌≡◌, ◌↔◌, ℕ, zero, suc, pos, ◌==◌, true, false, List, [], ◌∷◌, replicate, Option, Some}
use Rattle.std.proofs.Common.{None}
use Rattle.std.proofs.Common.{refl, sym, subst, eqb-true, arith}
use Rattle.std.specs.Fmt.{digits}
use Rattle.std.specs.List.{AllByRecursion, Contains}
use Rattle.vm_state.specs.declared.value.Value.TheVariants.{Int}
use Rattle.vm_state.specs.declared.classes.StaticField.{StaticField}
use Rattle.vm_state.specs.declared.ends.Ending.TheVariants.{Returned}
use Rattle.vm_state.specs.SharedState.{Region, with_field}
use Rattle.vm_state.specs.Operands.{pushed, top, rest}
use Rattle.semantics.specs.Programs.{Program}
use Rattle.semantics.specs.Quiet.{Environment}
use Rattle.semantics.specs.Settling.{constant_region, Settles, ByReturn, ByStep}
use Rattle.semantics.specs.Steps.{step_thread}
use Rattle.semantics.specs.Worlds.{Observation, Shows, lazy_start}
use Rattle.semantics.specs.Acceptance.{Analysis, Accepted, Accepts}
use Rattle.semantics.specs.Images.{Image, image_start, IsExact, UsesParents}
use Rattle.semantics.specs.Lawful.{HoldsNoName, IsLawful}
use Rattle.semantics.proofs.ToyMachine.{Instruction, PushInt, GetStatic, PutStatic, PrintInt, Return, Code, toy}
use Rattle.semantics.proofs.ToyLaws.{IsSound, toy_is_lawful}
use Rattle.semantics.proofs.SchedulesLemmas.{shows_after}
use Rattle.semantics.proofs.ExactImagesLemmas.{lazy_to_image_lem, image_to_lazy_lem}

-- ---- the program

-- method 0 is the initializer of class 0, and method 1 is the main of class 1
abbrev body : ℕ → List Instruction
body zero = PushInt (pos 6) ∷ PutStatic 0 0 ∷ Return ∷ []
body (suc m) = GetStatic 0 0 ∷ PrintInt ∷ Return ∷ []

abbrev statics : ℕ → List StaticField
statics zero = record { is_final = true; zero = Int (pos 0); constant = None } ∷ []
statics (suc c) = []

-- a class's method, and a method's class
abbrev initializer : ℕ → Option ℕ
initializer zero = Some 0
initializer (suc n) = None

abbrev code : Code
code = record {
  count = 2;
  body = body;
  room = λ m. 1;
  handler = λ m place class. None;
  selected = λ class m. None;
  slots = λ c. [];
  statics = statics;
  parents = λ c. [];
  main = λ c. Some 1;
  initializer = initializer;
  initialized = initializer;
  is_error = λ class. false;
}

abbrev pub program : Program
program = toy code

-- ---- the program is lawful

sound_statics : (c : ℕ) → AllByRecursion HoldsNoName (statics c)
sound_statics zero = ((refl, λ v e. cc), tt)
sound_statics (suc c) = tt

own_initializer : (c d m : ℕ) → initializer c ≡ Some m → initializer m ≡ Some d → d ≡ c
own_initializer zero d zero e h = cc
own_initializer zero d (suc m) e h = cc
own_initializer (suc c) d m e h = cc

code_is_sound : IsSound code
code_is_sound = record { slots = λ c. tt; statics = sound_statics; initializers = own_initializer }

pub program_is_lawful : IsLawful program
program_is_lawful = toy_is_lawful code code_is_sound

-- ---- the image is exact

abbrev pub analysis : Analysis
analysis = record { uses = λ c. []; allowed = λ c. c == 0; budget = 3 }

pub uses_parents : UsesParents program analysis
uses_parents c p low u = u

-- class 0 with its final set
abbrev region : Region
region = with_field (constant_region program 0) 0 (Int (pos 6))

abbrev pub image : Image
image = record { holds = λ c. c == 0; region = λ c. region }

abbrev alone : Environment
alone d = None

pub region_settles : Settles program alone 0 3 region
unfolding pushed top rest
region_settles = (None, ByStep refl refl (ByStep refl refl (ByReturn refl refl)))

no_uses : (c : ℕ) → Contains [] c → ⊥
no_uses c u = omega (arith, u.1)

accepted : Accepted program analysis 0 region
accepted = Accepts 0 region alone 3 (omega arith) refl (λ d u. absurd (no_uses d u)) (λ d r e. cc)
    (λ d r e. cc) region_settles (omega arith)

allowed : {c : ℕ} {r : Region} → Accepted program analysis c r → (c == 0) ≡ true
allowed (Accepts c r env n one may near lower all settled cheap) = may

pub image_is_exact : IsExact program analysis image
image_is_exact = record {
  sound =
      λ c h. (let same : c ≡ 0 = eqb-true c 0 h in subst (λ (d : ℕ). Accepted program analysis d region)
      (sym same) accepted);
  complete = λ c r a. allowed a;
}

-- ---- what is seen

-- thread 0 printed 6, and returned
abbrev pub observation : Observation
observation = record { printed = record { thread = 0; text = 54 ∷ 10 ∷ [] } ∷ []; threads = Returned ∷ [] }

-- Class 1 begins and is done, main is called, class 0 begins, its initializer begins and runs by 3 instructions, class
-- 0 is done, and main runs by 3 instructions.
pub lazy_shows : Shows program (lazy_start program (1 ∷ [])) observation
unfolding step_thread pushed top rest digits
lazy_shows = shows_after program (replicate 12 0) (lazy_start program (1 ∷ [])) observation refl

-- Class 1 begins and is done, main is called, and runs by 3 instructions.
pub image_shows : Shows program (image_start program image (1 ∷ [])) observation
unfolding step_thread pushed top rest digits
image_shows = shows_after program (replicate 6 0) (image_start program image (1 ∷ [])) observation refl

-- the two claims, of this program
pub sample_shows : (s : Observation) → Shows program (image_start program image (1 ∷ [])) s
    ↔ Shows program (lazy_start program (1 ∷ [])) s
sample_shows s = (
  image_to_lazy_lem program analysis image (1 ∷ []) program_is_lawful uses_parents image_is_exact s,
  lazy_to_image_lem program analysis image (1 ∷ []) program_is_lawful uses_parents image_is_exact s,
)
