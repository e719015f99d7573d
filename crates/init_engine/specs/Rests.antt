-- Whether a world goes on.
use Rattle.std.specs.Prelude.{◌≡◌, ℕ, None, IsSome, slice_get}
use Rattle.semantics.specs.Programs.{Program}
use Rattle.semantics.specs.Worlds.{World, step}
use Rattle.init_engine.specs.Turns.{Goes}
use Rattle.init_engine.specs.declared.stuck.Rest.{Rest}
use Rattle.init_engine.specs.declared.stuck.Rest.TheVariants.{Ended, Stuck, Going}

-- no thread goes on
abbrev pub AllEnded : World → Type 0
AllEnded w = (t : ℕ) → Goes (slice_get w.threads t) → ⊥

-- some thread has not ended, and no thread has a step
pub record IsStuck (P : Program) (w : World) : Type 0 where
  pub thread : ℕ
  pub goes : Goes (slice_get w.threads thread)
  pub stands : (t : ℕ) → step P w t ≡ None

-- some thread has a step
pub record HasStep (P : Program) (w : World) : Type 0 where
  pub thread : ℕ
  pub steps : IsSome (step P w thread)

-- how a world goes on
abbrev pub IsRest : Program → World → Rest → Type 0
IsRest P w Ended = AllEnded w
IsRest P w Stuck = IsStuck P w
IsRest P w Going = HasStep P w
