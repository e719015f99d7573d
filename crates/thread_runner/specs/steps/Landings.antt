-- Where a thread stands before the last step of a commit.
use Rattle.std.specs.Prelude.{◌≡◌, ℕ, ◌<◌, Some, slice_get}
use Rattle.vm_state.specs.declared.frame.Frame.{Frame}
use Rattle.vm_state.specs.Segments.{frames_of}
use Rattle.semantics.specs.Worlds.{World}
use Rattle.init_engine.specs.Stacks.{front_of}
use Rattle.init_engine.specs.Turns.{Goes}
use Rattle.thread_runner.specs.Commits.{there}
use Rattle.thread_runner.specs.Fronts.{with_top}
use Rattle.thread_runner.specs.declared.landing.Landing.{Landing}
use Rattle.thread_runner.specs.declared.landing.Landing.TheVariants.{Whole, Top}

-- the world where thread t landed so, after n steps
abbrev pub landed : World → ℕ → Landing → ℕ → World
landed w t (Whole to) n = there w t to n
landed w t (Top top) n = with_top w t (frames_of top)

-- thread t may land so after n steps
abbrev pub MayLand : World → ℕ → Landing → ℕ → Type 0
MayLand w t (Whole to) n = (to.thread ≡ t) × (0 < n → Goes (slice_get w.threads t))
MayLand w t (Top top) n = (0 < n) × ((f : Frame) × (front_of w t ≡ Some f))
