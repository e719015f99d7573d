-- The step of a thread on top of whose stack a frame stands is the instruction of its row, or the begin that it needs.
use Rattle.std.proofs.Common.{◌≡◌, ℕ, Some, None, IsSome, Option, refl, ap, ◌∙◌}
use Rattle.vm_state.specs.declared.frame.Segment.{Segment}
use Rattle.vm_state.specs.declared.initialization.Frames.{Frames}
use Rattle.vm_state.specs.SharedState.{SharedState}
use Rattle.vm_state.specs.Segments.{frames_in}
use Rattle.vm_state.specs.Stacks.{segment_of, levels_of}
use Rattle.semantics.specs.Rows.{Needs, Waits}
use Rattle.semantics.specs.Steps.{Going, begins, instructed, step_thread}
use Rattle.program.specs.Tables.{Tables}
use Rattle.machine.specs.Effects.{going, run_innermost}
use Rattle.machine.specs.Linked.{program_of}

pub frame_steps : (P : Tables) (s : Frames) (sh : SharedState) → IsSome s.segment →
    step_thread (program_of P) s.thread sh (going s)
    ≡ instructed (program_of P) sh s.thread (segment_of s) (levels_of s)
    (run_innermost P s.thread sh (segment_of s) (levels_of s))
unfolding step_thread
frame_steps P s sh is = by_segment s.segment is
  where
    by_segment : (segment : Option Segment) → IsSome segment →
        step_thread (program_of P) s.thread sh (Going (frames_in segment) (levels_of s))
        ≡ instructed (program_of P) sh s.thread (frames_in segment) (levels_of s)
        (run_innermost P s.thread sh (frames_in segment) (levels_of s))
    by_segment None is = cc
    by_segment (Some g) is = refl

pub needs_steps : (P : Tables) (s : Frames) (sh : SharedState) (c : ℕ) → IsSome s.segment →
    run_innermost P s.thread sh (segment_of s) (levels_of s) ≡ Needs c →
    step_thread (program_of P) s.thread sh (going s)
    ≡ Some (begins (program_of P) sh s.thread c (segment_of s) (levels_of s))
needs_steps P s sh c is led =
    frame_steps P s sh is ∙ ap (instructed (program_of P) sh s.thread (segment_of s) (levels_of s)) led

pub waits_steps : (P : Tables) (s : Frames) (sh : SharedState) → IsSome s.segment →
    run_innermost P s.thread sh (segment_of s) (levels_of s) ≡ Waits →
    step_thread (program_of P) s.thread sh (going s) ≡ None
waits_steps P s sh is led =
    frame_steps P s sh is ∙ ap (instructed (program_of P) sh s.thread (segment_of s) (levels_of s)) led
