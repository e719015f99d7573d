-- The start of a run from an image, in which the accepted classes are initialized.
use Rattle.std.specs.Prelude.{◌≡◌, ℕ, ◌<◌, Bool, true, if◌then◌else◌, List}
use Rattle.std.specs.List.{Contains}
use Rattle.vm_state.specs.declared.classes.ClassState.TheVariants.{Initialized}
use Rattle.vm_state.specs.SharedState.{Region, SharedState}
use Rattle.semantics.specs.Programs.{Program}
use Rattle.semantics.specs.Worlds.{World, lazy_start}
use Rattle.semantics.specs.Acceptance.{Analysis, Accepted}

-- Some classes with their regions.
pub record Image : Type 0 where
  pub holds : ℕ → Bool
  pub region : ℕ → Region

-- with the image's classes initialized, each with its region in place
abbrev pub with_image : Image → SharedState → SharedState
with_image I sh = record sh {
  states = λ c. if I.holds c then Initialized else sh.states c;
  regions = λ c. if I.holds c then I.region c else sh.regions c;
}

-- the lazy start with the image's classes
abbrev pub image_start : Program → Image → List ℕ → World
image_start P I entries = record (lazy_start P entries) { shared = with_image I (lazy_start P entries).shared }

-- What the build owes: the image holds exactly the accepted classes' regions.
pub record IsExact (P : Program) (A : Analysis) (I : Image) : Type 0 where
  -- each class in it is accepted, with its region (wave_scheduler)
  pub sound : (c : ℕ) → I.holds c ≡ true → Accepted P A c (I.region c)
  -- each accepted class is in it (wave_scheduler)
  pub complete : (c : ℕ) (r : Region) → Accepted P A c r → I.holds c ≡ true

-- What the analysis owes (use_graph): what is initialized before a class of the program, JVMS 5.5 step 7, is among its
-- uses.
abbrev pub UsesParents : Program → Analysis → Type 0
UsesParents P A = (c p : ℕ) → c < P.count → Contains (P.parents c) p → Contains (A.uses c) p
