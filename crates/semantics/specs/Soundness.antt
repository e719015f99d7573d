-- What an analysis says of the initialization of a class holds of whatever runs for it: in each world that a run leads
-- to, and at build time.
use Rattle.std.specs.Prelude.{◌≡◌, ◌≢◌, ◌⊎◌, ◌↔◌, ℕ, ◌<◌, Bool, true, false, ◌||◌, ◌==◌, List, ◌∷◌, Some, IsSome}
use Rattle.std.specs.Prelude.{slice_get}
use Rattle.std.specs.List.{Contains}
use Rattle.std.specs.Option.{is_some}
use Rattle.vm_state.specs.declared.frame.Frame.{Frame}
use Rattle.vm_state.specs.declared.initialization.Level.{Level}
use Rattle.vm_state.specs.declared.value.Maker.{Maker}
use Rattle.vm_state.specs.declared.value.Maker.TheVariants.{Class, Thread}
use Rattle.vm_state.specs.SharedState.{Region}
use Rattle.semantics.specs.Rows.{Named, Needs, run_row}
use Rattle.semantics.specs.Programs.{Program}
use Rattle.semantics.specs.Steps.{Going}
use Rattle.semantics.specs.Worlds.{World, Run, lazy_start}
use Rattle.semantics.specs.Quiet.{Environment, is_final, fixed_at, Refusal, Stop, Refused}
use Rattle.semantics.specs.Settling.{StoppedBy}
use Rattle.semantics.specs.Lawful.{Names, Knows, KnowsSlots, IsLawful}
use Rattle.semantics.specs.Acceptance.{Analysis, IsLower, Accepted}
use Rattle.semantics.specs.Images.{Image, image_start, UsesParents}
use Rattle.semantics.specs.Bounds.{Bounds, IsBounded, MayRun, IsUse, IsClean}

-- ---- in the worlds of a run

-- A frame stands on the initialization of a class: no other initialization is between them on the thread's stack.
pub data StandsOn (c : ℕ) (f : Frame) : List Frame → List Level → Type 0 where
  Highest : {fs : List Frame} {l : Level} {ls : List Level} → Contains fs f → l.initialization.class ≡ c
      → StandsOn c f fs (l ∷ ls)
  Under : {fs : List Frame} {l : Level} {ls : List Level} → StandsOn c f l.under ls → StandsOn c f fs (l ∷ ls)

-- The initialization of class d was begun by that of class c: it is the next one above on the thread's stack.
pub data IsBegunBy (c d : ℕ) : List Level → Type 0 where
  Highest : {l m : Level} {ls : List Level} → l.initialization.class ≡ d → m.initialization.class ≡ c
      → IsBegunBy c d (l ∷ m ∷ ls)
  Under : {l : Level} {ls : List Level} → IsBegunBy c d ls → IsBegunBy c d (l ∷ ls)

-- What the initialization of each class really runs and begins in a world is what it may run and use.
pub record StaysWithin (P : Program) (B : Bounds) (w : World) : Type 0 where
  pub frames : (t : ℕ) (fs : List Frame) (ls : List Level) → slice_get w.threads t ≡ Some (Going fs ls)
      → (c : ℕ) (f : Frame) → StandsOn c f fs ls → MayRun P B c f.activity
  pub begins : (t : ℕ) (fs : List Frame) (ls : List Level) → slice_get w.threads t ≡ Some (Going fs ls)
      → (c d : ℕ) → IsBegunBy c d ls → IsUse P B c d
  -- also where the class is only now needed
  pub needs : (t : ℕ) (f : Frame) (fs : List Frame) (l : Level) (ls : List Level)
      → slice_get w.threads t ≡ Some (Going (f ∷ fs) (l ∷ ls)) → (d : ℕ)
      → run_row t (Class l.initialization.class) w.shared (P.row f) ≡ Needs d → IsUse P B l.initialization.class d

-- one of the two starts: the lazy one, or that from an image
abbrev pub IsStart : Program → World → Type 0
IsStart P w =
    (entries : List ℕ) × ((w ≡ lazy_start P entries) ⊎ ((I : Image) × (w ≡ image_start P I entries)))

abbrev pub RunsWithin : Type 0
RunsWithin =
    (P : Program) (B : Bounds) → IsBounded P B → (first last : World) (schedule : List ℕ) → IsStart P first →
    Run P first schedule last → StaysWithin P B last

-- ---- at build time

-- made by a class that is at hand, or by the one that is initialized
abbrev pub is_made_at_hand : Environment → ℕ → Maker → Bool
is_made_at_hand env c (Class d) = d == c || is_some (env d)
is_made_at_hand env c (Thread t) = false

abbrev pub names_at_hand : Environment → ℕ → Names
names_at_hand env c x = is_made_at_hand env c x.maker

-- What may be read of other classes refers to objects of classes at hand alone: the finals of these classes, where they
-- are at hand, and the names of Enum objects of all that are at hand, since any object can be such a name.
pub record IsClosed (P : Program) (these : ℕ → Type 0) (env : Environment) (c : ℕ) : Type 0 where
  pub finals : (d f : ℕ) (r : Region) → these d → env d ≡ Some r → is_final P d f ≡ true →
      Knows (names_at_hand env c) (r.fields f)
  pub named : (d n : ℕ) (r : Region) → env d ≡ Some r →
      KnowsSlots (names_at_hand env c) (fixed_at P Named r.pool n)

abbrev pub EachClass : ℕ → Type 0
EachClass d = Unit {0}

abbrev pub HasUses : Program → Bounds → Environment → ℕ → Type 0
HasUses P B env c = (d : ℕ) → IsUse P B c d → IsSome (env d)

-- A class whose code bars nothing, with all its uses at hand, and with nothing to be read that refers elsewhere, is not
-- barred when its initializer runs: where it is stopped it is refused, for one of the four reasons.
abbrev pub StopsWithin : Type 0
StopsWithin =
    (P : Program) (B : Bounds) → IsLawful P → IsBounded P B → (env : Environment) (c : ℕ) → IsClean P B c →
    HasUses P B env c → IsClosed P (IsUse P B c) env c → (budget : ℕ) (stop : Stop) → StoppedBy P env c budget stop →
    (why : Refusal) × (stop ≡ Refused why)

-- the regions of all accepted classes of lower waves, and no others
abbrev pub HasLower : Program → Analysis → Environment → ℕ → Type 0
HasLower P A env c =
    (d : ℕ) (r : Region) → (env d ≡ Some r) ↔ (Accepted P A d r × IsLower A.uses d c)

-- With these at hand all that may be read refers to objects of classes at hand.
abbrev pub LowerIsClosed : Type 0
LowerIsClosed =
    (P : Program) (A : Analysis) → IsLawful P → (env : Environment) (c : ℕ) → HasLower P A env c →
    IsClosed P EachClass env c

-- ---- what an analysis uses

-- the uses of each class of the program are those that are found by these bounds
abbrev pub FindsUses : Program → Bounds → Analysis → Type 0
FindsUses P B A = (c d : ℕ) → c < P.count → Contains (A.uses c) d ↔ IsUse P B c d

-- The parents of a class of the program are among its uses, where no class is its own parent.
abbrev pub ParentsAreUsed : Type 0
ParentsAreUsed =
    (P : Program) (B : Bounds) (A : Analysis) → FindsUses P B A →
    ((c p : ℕ) → c < P.count → Contains (P.parents c) p → p ≢ c) → UsesParents P A
