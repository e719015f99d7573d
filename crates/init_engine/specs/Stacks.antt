-- The stack of one thread of a world.
use Rattle.std.specs.Prelude.{◌≡◌, ℕ, [], Option, Some, None, slice_get, slice_set}
use Rattle.vm_state.specs.declared.frame.Frame.{Frame}
use Rattle.vm_state.specs.declared.initialization.Frames.{Frames}
use Rattle.vm_state.specs.Segments.{first_frame}
use Rattle.semantics.specs.Steps.{Thread, Going, Ended}
use Rattle.semantics.specs.Worlds.{World}
use Rattle.machine.specs.Effects.{going}

-- the frames of a thread: none where it has ended
abbrev pub IsStackOf : Option Thread → Frames → Type 0
IsStackOf None s = ⊥
IsStackOf (Some (Going fs ls)) s = going s ≡ Going fs ls
IsStackOf (Some (Ended end)) s = going s ≡ Going [] []

-- these are the frames of thread t
abbrev pub AreFrames : World → ℕ → Frames → Type 0
AreFrames w t s = (s.thread ≡ t) × IsStackOf (slice_get w.threads t) s

-- the world with another stack of a thread
abbrev pub with_thread : World → ℕ → Thread → World
with_thread w t thread = record { shared = w.shared; threads = slice_set w.threads t thread }

-- the innermost of a thread's frames above its highest initialization, if there is one
abbrev pub innermost_of : Option Thread → Option Frame
innermost_of None = None
innermost_of (Some (Going fs ls)) = first_frame fs
innermost_of (Some (Ended end)) = None

-- that of thread t
abbrev pub front_of : World → ℕ → Option Frame
front_of w t = innermost_of (slice_get w.threads t)
