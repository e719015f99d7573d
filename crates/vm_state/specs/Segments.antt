-- The frames above the highest initialization.
use Rattle.std.specs.Prelude.{List, [], ◌∷◌, Option, Some, None}
use Rattle.vm_state.specs.declared.frame.Frame.{Frame}
use Rattle.vm_state.specs.declared.frame.Segment.{Segment}

-- all of them, the innermost first
abbrev pub frames_of : Segment → List Frame
frames_of s = s.innermost ∷ s.callers

abbrev pub frames_in : Option Segment → List Frame
frames_in None = []
frames_in (Some s) = frames_of s

abbrev pub first_frame : List Frame → Option Frame
first_frame [] = None
first_frame (f ∷ fs) = Some f

abbrev pub callers_of : List Frame → List Frame
callers_of [] = []
callers_of (f ∷ fs) = fs
