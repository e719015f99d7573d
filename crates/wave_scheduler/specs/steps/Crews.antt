-- What the workers of a wave are lent, and what they may run.
use Rattle.std.specs.Prelude.{◌≡◌, ℕ, ◌<◌, List, [], length, Option, slice_index}
use Rattle.semantics.specs.Programs.{Program}
use Rattle.semantics.specs.Quiet.{Environment}
use Rattle.program.specs.Tables.{Tables}
use Rattle.machine.specs.Linked.{program_of}
use Rattle.region_shape.specs.declared.regions.Region.{Region}
use Rattle.evaluator.specs.Outcomes.{IsUnbarred}
use Rattle.region_shape.specs.Regions.{environment_of}
use Rattle.wave_scheduler.specs.declared.tainted.Tainted.{Tainted}
use Rattle.wave_scheduler.specs.declared.wave.Wave.{Wave}
use Rattle.wave_scheduler.specs.steps.Tainting.{vertex_in, IsSeen, IsSearched}

-- a program without classes, where no wave has picked one
abbrev pub no_classes : Tables
no_classes = record { family = []; orders = []; classes = []; strings = [] }

-- nothing that the code alone bars stops a class of a members that depends on no class that is not accepted
abbrev pub AreReady : Program → Environment → ℕ → Tainted → List ℕ → Type 0
AreReady P env budget t members =
    (i : ℕ) → i < length members → (¬ IsSeen t (vertex_in t (slice_index members i)))
    → IsUnbarred P env (slice_index members i) budget

-- a wave may be run with its program, these regions and its budget, and they are those that it picked
pub record CanRunWave (lent : Tables) (held : List (Option Region)) (most : ℕ) (wave : Wave)
    (here : List (Option Region)) (t : Tainted) : Type 0 where
  pub program : wave.terms.program.now ≡ lent
  pub regions : here ≡ held
  pub budget : wave.terms.budget ≡ most
  pub searched : IsSearched t
  pub ready : AreReady (program_of wave.terms.program.now) (environment_of here) wave.terms.budget t wave.classes.now
