-- What holds of settled classes: they are the accepted ones, with their regions, and there is one answer.
use Rattle.std.specs.Prelude.{◌≡◌, ◌↔◌, ℕ, ◌<◌, ◌≤◌, Bool, true, List, length, Some, IsSome, is_some}
use Rattle.std.specs.List.{Contains}
use Rattle.vm_state.specs.SharedState.{Region}
use Rattle.semantics.specs.Quiet.{Environment, Refusal, Stop}
use Rattle.semantics.specs.Quiet as quiet
use Rattle.semantics.specs.Settling.{Settles, StoppedBy}
use Rattle.semantics.specs.Acceptance.{Analysis}
use Rattle.semantics.specs.Images.{Image, IsExact, UsesParents, image_start}
use Rattle.semantics.specs.Worlds.{Observation, Shows, lazy_start}
use Rattle.loading.specs.Families.{IsFamily, AreParentsWithin}
use Rattle.program.specs.Programs.{IsProgram}
use Rattle.program.specs.Tables.{Tables}
use Rattle.machine.specs.Linked.{program_of}
use Rattle.use_graph.specs.Uses.{IsUse, HasMark}
use Rattle.use_graph.specs.declared.mark.Mark.{Mark}
use Rattle.initializer_analysis.specs.Forced.{has_class}
use Rattle.wave_scheduler.specs.Settled.{Settled, HasWave, region_in, below, LeavesRegion, AreSettled}

-- ---- one answer

-- The program, the options and the budget determine what becomes of all classes.
abbrev pub OneSettled : Type 0
OneSettled =
    (P : Tables) (forced : List Bool) (budget : ℕ) (first second : Settled) → AreSettled P forced budget first
    → AreSettled P forced budget second → first ≡ second

-- There is an answer, of each linked program, whichever classes are forced, and within each budget.
abbrev pub HasSettled : Type 0
HasSettled =
    (P : Tables) (forced : List Bool) (budget : ℕ) → IsProgram P → IsFamily P.family → AreParentsWithin P.family
    → (S : Settled) × AreSettled P forced budget S

-- ---- exact images

-- a class is neither forced nor marked for its code
abbrev pub IsAllowed : Tables → List Bool → ℕ → Type 0
IsAllowed P forced c = (¬ (has_class forced c ≡ true)) × ((mark : Mark) → ¬ HasMark P c mark)

-- This is what is known of the classes before any initializer runs.
pub record IsAnalysis (P : Tables) (forced : List Bool) (budget : ℕ) (A : Analysis) : Type 0 where
  pub uses : (c d : ℕ) → c < length P.classes → Contains (A.uses c) d ↔ IsUse P c d
  pub allowed : (c : ℕ) → c < length P.classes → (A.allowed c ≡ true) ↔ IsAllowed P forced c
  pub bound : A.budget ≡ budget

-- an image of exactly these regions
pub record HasRegions (S : Settled) (I : Image) : Type 0 where
  pub holds : (c : ℕ) → I.holds c ≡ is_some (region_in S c)
  pub region : (c : ℕ) (r : Region) → region_in S c ≡ Some r → I.region c ≡ r

-- The image of the settled regions holds exactly the accepted classes, each with its region.
abbrev pub SettledAreExact : Type 0
SettledAreExact =
    (P : Tables) (forced : List Bool) (budget : ℕ) (S : Settled) (A : Analysis) (I : Image)
    → AreSettled P forced budget S → IsAnalysis P forced budget A → HasRegions S I → IsExact (program_of P) A I

-- ---- what shows

-- Each linked program has such an analysis, in which what is initialized before one of its classes is among the uses of
-- that class.
abbrev pub HasAnalysis : Type 0
HasAnalysis =
    (P : Tables) (forced : List Bool) (budget : ℕ) → IsProgram P → IsFamily P.family → AreParentsWithin P.family
    → (A : Analysis) × IsAnalysis P forced budget A × UsesParents (program_of P) A

-- A run from the image of the settled regions and the lazy procedure show the same.
abbrev pub SettledShowTheSame : Type 0
SettledShowTheSame =
    (P : Tables) (forced : List Bool) (budget : ℕ) (S : Settled) (I : Image) (entries : List ℕ) → IsProgram P
    → IsFamily P.family → AreParentsWithin P.family → AreSettled P forced budget S → HasRegions S I
    → (s : Observation)
    → Shows (program_of P) (lazy_start (program_of P) entries) s
    ↔ Shows (program_of P) (image_start (program_of P) I entries) s

-- ---- what the evaluator and the scheduler ask for

-- The regions of the waves below this one are those that the initializers leave.
abbrev pub AreSettledBelow : Tables → ℕ → Settled → ℕ → Type 0
AreSettledBelow P budget S n =
    (c m : ℕ) (region : Region) → m < n → HasWave S c m → region_in S c ≡ Some region
    → LeavesRegion P budget S c m region

-- The initializer of a class whose code bears no mark, with all its uses at hand, settles or is refused for one of the
-- evaluator's reasons: it is never barred.
abbrev pub NeverBarred : Type 0
NeverBarred =
    (P : Tables) (budget : ℕ) (S : Settled) (n : ℕ) → IsProgram P → IsFamily P.family → AreParentsWithin P.family
    → AreSettledBelow P budget S n → (c : ℕ) → c < length P.classes → ((mark : Mark) → ¬ HasMark P c mark)
    → ((e : ℕ) → IsUse P c e → IsSome (below S n e)) → (stop : Stop)
    → StoppedBy (program_of P) (below S n) c budget stop → (why : Refusal) × (stop ≡ quiet.Refused why)

-- With more regions at hand than those of lower waves such a class does as it does in its wave: it leaves the same
-- region, or is refused for the same reason, and it is never barred.
abbrev pub MoreAtHand : Type 0
MoreAtHand =
    (P : Tables) (budget : ℕ) (S : Settled) (n : ℕ) → IsProgram P → IsFamily P.family → AreParentsWithin P.family
    → AreSettledBelow P budget S n → (c : ℕ) → c < length P.classes → ((mark : Mark) → ¬ HasMark P c mark)
    → ((e : ℕ) → IsUse P c e → IsSome (below S n e)) → (env : Environment)
    → ((d : ℕ) (region : Region) → below S n d ≡ Some region → env d ≡ Some region)
    → ((cost : ℕ) (region : Region) → Settles (program_of P) env c cost region → cost ≤ budget
    → LeavesRegion P budget S c n region)
    × ((stop : Stop) → StoppedBy (program_of P) env c budget stop
    → (why : Refusal) × (stop ≡ quiet.Refused why)
    × StoppedBy (program_of P) (below S n) c budget (quiet.Refused why))
