-- Three classes: the initializer of class 0 sets its static final to 6; that of class 1, after its parent's, calls a
-- method that makes an array of so many elements and changes one of them; the main of class 2 locks an object, and
-- prints that element. Classes 0 and 1 are accepted.
use Rattle.std.proofs.Common.{◌≡◌, ◌↔◌, ◌∙◌, ℕ, zero, suc, pos, Bool, true, false, List, [], ◌∷◌, replicate, Option}
use Rattle.std.proofs.Common.{Some, None}
use Rattle.std.proofs.Common.{refl, subst, arith}
use Rattle.std.specs.Fmt.{digits}
use Rattle.std.specs.List.{AllByRecursion, Contains}
use Rattle.std.specs.Option.{IsSome}
use Rattle.vm_state.specs.declared.value.Value.TheVariants.{Int, Null, OfClass}
use Rattle.vm_state.specs.declared.classes.StaticField.{StaticField}
use Rattle.vm_state.specs.declared.ends.Ending.TheVariants.{Returned}
use Rattle.vm_state.specs.SharedState.{Region, with_field, with_new, with_slot}
use Rattle.vm_state.specs.Operands.{pushed, top, rest}
use Rattle.semantics.specs.Programs.{Program}
use Rattle.semantics.specs.Quiet.{Environment}
use Rattle.semantics.specs.Settling.{constant_region, Settles, ByReturn, ByStep, ByCall}
use Rattle.semantics.specs.Steps.{step_thread}
use Rattle.semantics.specs.Worlds.{Observation, Shows, lazy_start}
use Rattle.semantics.specs.Acceptance.{Analysis, IsWave, Over, IsLower, Accepted, Accepts}
use Rattle.semantics.specs.Images.{Image, image_start, IsExact, UsesParents}
use Rattle.semantics.specs.Lawful.{HoldsNoName, IsLawful}
use Rattle.semantics.proofs.ToyMachine.{Instruction, PushInt, Load, GetStatic, PutStatic, New, NewArray, GetField}
use Rattle.semantics.proofs.ToyMachine.{PutField}
use Rattle.semantics.proofs.ToyMachine.{InvokeStatic, InvokeVirtual, MonitorEnter, MonitorExit, PrintInt, Return}
use Rattle.semantics.proofs.ToyMachine.{ReturnTop}
use Rattle.semantics.proofs.ToyMachine.{Code, int_array, toy}
use Rattle.semantics.proofs.ToyLaws.{IsSound, toy_is_lawful}
use Rattle.semantics.proofs.SchedulesLemmas.{shows_after}
use Rattle.semantics.proofs.ExactImagesLemmas.{lazy_to_image_lem, image_to_lazy_lem}

-- ---- the program

-- Methods 0 and 1 are the initializers of classes 0 and 1; method 1 calls method 2. Method 3 is the main of class 2,
-- and calls method 4, which enters and leaves the monitor of its receiver.
abbrev body : ℕ → List Instruction
body zero = PushInt (pos 6) ∷ PutStatic 0 0 ∷ Return ∷ []
body (suc zero) = InvokeStatic 1 2 ∷ PutStatic 1 0 ∷ Return ∷ []
body (suc (suc zero)) = GetStatic 0 0 ∷ NewArray ∷ PutStatic 1 0 ∷ GetStatic 1 0 ∷ PushInt (pos 7) ∷ PutField 5
    ∷ GetStatic 1 0 ∷ ReturnTop ∷ []
body (suc (suc (suc zero))) = New 2 ∷ InvokeVirtual 4 ∷ GetStatic 1 0 ∷ GetField 5 ∷ PrintInt ∷ Return ∷ []
body (suc (suc (suc (suc m)))) = Load 0 ∷ MonitorEnter ∷ Load 0 ∷ MonitorExit ∷ Return ∷ []

abbrev statics : ℕ → List StaticField
statics zero = record { is_final = true; zero = Int (pos 0); constant = None } ∷ []
statics (suc zero) = record { is_final = false; zero = Null; constant = None } ∷ []
statics (suc (suc c)) = []

abbrev parents : ℕ → List ℕ
parents zero = []
parents (suc zero) = 0 ∷ []
parents (suc (suc c)) = []

-- a class's method, and a method's class
abbrev initializer : ℕ → Option ℕ
initializer zero = Some 0
initializer (suc zero) = Some 1
initializer (suc (suc n)) = None

abbrev pub code : Code
code = record {
  count = 3;
  body = body;
  room = λ m. 2;
  handler = λ m place class. None;
  selected = λ class m. Some m;
  slots = λ c. [];
  statics = statics;
  parents = parents;
  main = λ c. Some 3;
  initializer = initializer;
  initialized = initializer;
  is_error = λ class. false;
}

abbrev pub program : Program
program = toy code

-- ---- the program is lawful

sound_statics : (c : ℕ) → AllByRecursion HoldsNoName (statics c)
sound_statics zero = ((refl, λ v e. cc), tt)
sound_statics (suc zero) = ((refl, λ v e. cc), tt)
sound_statics (suc (suc c)) = tt

same_number : (n m : ℕ) → initializer n ≡ Some m → m ≡ n
same_number zero m e = cc
same_number (suc zero) m e = cc
same_number (suc (suc n)) m e = cc

code_is_sound : IsSound code
code_is_sound =
    record {
      slots = λ c. tt;
      statics = sound_statics;
      initializers = λ c d m e h. same_number m d h
          ∙ same_number c m e;
    }

pub program_is_lawful : IsLawful program
program_is_lawful = toy_is_lawful code code_is_sound

-- ---- the regions

abbrev is_built : ℕ → Bool
is_built zero = true
is_built (suc zero) = true
is_built (suc (suc c)) = false

abbrev pub analysis : Analysis
analysis = record { uses = parents; allowed = is_built; budget = 17 }

pub uses_parents : UsesParents program analysis
uses_parents c p low u = u

-- class 0 with its final set
abbrev pub first_region : Region
first_region = with_field (constant_region program 0) 0 (Int (pos 6))

-- class 1 with its array, first as it was made, and then changed, returned and stored again
abbrev made_region : Region
made_region =
    let blank : Region = constant_region program 1 in
    with_field (record blank { pool = with_new blank.pool int_array (replicate 6 (Int (pos 0))) }) 0 (OfClass 1 0)

abbrev second_region : Region
second_region = with_field (record made_region { pool = with_slot made_region.pool 0 5 (Int (pos 7)) }) 0 (OfClass 1 0)

abbrev regions : ℕ → Region
regions zero = first_region
regions (suc c) = second_region

abbrev pub image : Image
image = record { holds = is_built; region = regions }

abbrev alone : Environment
alone d = None

abbrev pub with_first : Environment
with_first zero = Some first_region
with_first (suc d) = None

pub first_settles : Settles program alone 0 3 first_region
unfolding pushed top rest
first_settles = (None, ByStep refl refl (ByStep refl refl (ByReturn refl refl)))

-- 3 instructions of its own, 8 of the method that it calls, and 6 elements
pub second_settles : Settles program with_first 1 17 second_region
unfolding pushed top rest
second_settles = (
  None,
  ByCall refl refl
      (ByStep refl refl
      (ByStep refl refl (ByStep refl refl (ByStep refl refl (ByStep refl refl (ByStep refl refl (ByStep refl refl
      (ByReturn refl refl))))))))
      refl
      (ByStep refl refl (ByReturn refl refl)),
)

-- ---- the image is exact

no_uses : (c : ℕ) → Contains [] c → ⊥
no_uses c u = omega (arith, u.1)

pub only_use : (c : ℕ) → Contains (0 ∷ []) c → c ≡ 0
only_use c (zero, h, e) = cc
only_use c (suc k, h, e) = omega arith

first_wave : IsWave parents 0 0
first_wave = Over 0 (λ d. 0) (λ d u. absurd (no_uses d u))

second_wave : IsWave parents 1 1
second_wave = Over 1 (λ d. 0) (λ d u. rw (only_use d u) first_wave)

first_accepted : Accepted program analysis 0 first_region
first_accepted = Accepts 0 first_region alone 3 (omega arith) refl (λ d u. absurd (no_uses d u)) (λ d r e. cc)
    (λ d r e. cc) first_settles (omega arith)

has_uses : (d : ℕ) → Contains (0 ∷ []) d → IsSome (with_first d)
has_uses d u = rw (only_use d u) refl

lower : (d : ℕ) (r : Region) → with_first d ≡ Some r → IsLower parents d 1
lower zero r e = (0, 1, first_wave, second_wave, omega arith)
lower (suc d) r e = cc

members_accepted : (d : ℕ) (r : Region) → with_first d ≡ Some r → Accepted program analysis d r
members_accepted zero r e = let same : first_region ≡ r = cc in
    subst (λ (s : Region). Accepted program analysis 0 s) same first_accepted
members_accepted (suc d) r e = cc

second_accepted : Accepted program analysis 1 second_region
second_accepted = Accepts 1 second_region with_first 17 (omega arith) refl has_uses lower members_accepted
    second_settles (omega arith)

all_accepted : (c : ℕ) → is_built c ≡ true → Accepted program analysis c (regions c)
all_accepted zero h = first_accepted
all_accepted (suc zero) h = second_accepted
all_accepted (suc (suc c)) h = cc

allowed : {c : ℕ} {r : Region} → Accepted program analysis c r → is_built c ≡ true
allowed (Accepts c r env n one may near lower all settled cheap) = may

pub image_is_exact : IsExact program analysis image
image_is_exact = record { sound = all_accepted; complete = λ c r a. allowed a }

-- ---- what is seen

-- thread 0 printed 7, and returned
abbrev pub observation : Observation
observation = record { printed = record { thread = 0; text = 55 ∷ 10 ∷ [] } ∷ []; threads = Returned ∷ [] }

pub lazy_shows : Shows program (lazy_start program (2 ∷ [])) observation
unfolding step_thread pushed top rest digits
lazy_shows = shows_after program (replicate 35 0) (lazy_start program (2 ∷ [])) observation refl

pub image_shows : Shows program (image_start program image (2 ∷ [])) observation
unfolding step_thread pushed top rest digits
image_shows = shows_after program (replicate 14 0) (image_start program image (2 ∷ [])) observation refl

-- the two claims, of this program
pub sample_shows : (s : Observation) → Shows program (image_start program image (2 ∷ [])) s
    ↔ Shows program (lazy_start program (2 ∷ [])) s
sample_shows s = (
  image_to_lazy_lem program analysis image (2 ∷ []) program_is_lawful uses_parents image_is_exact s,
  lazy_to_image_lem program analysis image (2 ∷ []) program_is_lawful uses_parents image_is_exact s,
)
