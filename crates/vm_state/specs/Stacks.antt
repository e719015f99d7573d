-- A thread's stack: the frames above the highest initialization, and below them the initializations with the frames
-- under each.
use Rattle.std.specs.Prelude.{◌≡◌, ℕ, true, List, [], ◌∷◌, Option, Some, None}
use Rattle.vm_state.specs.declared.frame.Frame.{Frame}
use Rattle.vm_state.specs.declared.value.Name.{Name}
use Rattle.vm_state.specs.declared.initialization.Level.{Level}
use Rattle.vm_state.specs.declared.initialization.Levels.{Levels}
use Rattle.vm_state.specs.declared.initialization.Frames.{Frames}
use Rattle.vm_state.specs.Segments.{frames_in}

-- the frames above the highest initialization, the innermost first
abbrev pub segment_of : Frames → List Frame
segment_of s = frames_in s.segment

abbrev pub levels_in : Option Levels → List Level
levels_in None = []
levels_in (Some s) = s.highest ∷ s.outer

-- the initializations with the frames under each, the innermost first
abbrev pub levels_of : Frames → List Level
levels_of s = levels_in s.levels

-- after the first of these initializations is taken away
abbrev pub IsLeft : List Level → Frames → Type 0
IsLeft [] s = levels_of s ≡ []
IsLeft (l ∷ ls) s = (segment_of s ≡ l.under) × (levels_of s ≡ ls)

-- ---- lists of parents

abbrev pub first_of : List ℕ → Option ℕ
first_of [] = None
first_of (c ∷ cs) = Some c

abbrev pub others_of : List ℕ → List ℕ
others_of [] = []
others_of (c ∷ cs) = cs

-- the initializations with the highest one's next parent taken off
abbrev pub parent_taken : List Level → List Level
parent_taken [] = []
parent_taken (l ∷ ls) = record l { initialization = record l.initialization { left = others_of l.initialization.left } }
    ∷ ls

-- the initializations, of which the highest one's class initialization method has begun
abbrev pub initializer_begun : List Level → List Level
initializer_begun [] = []
initializer_begun (l ∷ ls) = record l { initialization = record l.initialization { begun = true } } ∷ ls

-- the initializations, at the highest one of which an exception is pending
abbrev pub exception_pending : Name → List Level → List Level
exception_pending x [] = []
exception_pending x (l ∷ ls) = record l { initialization = record l.initialization { pending = Some x } } ∷ ls

abbrev pub first_level : List Level → Option Level
first_level [] = None
first_level (l ∷ ls) = Some l
