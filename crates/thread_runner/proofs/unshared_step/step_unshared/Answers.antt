use Rattle.std.proofs.Common.{◌≡◌, [], ◌∷◌, Bool, List, Option, Some, sym, ap, ◌∙◌, subst, rules}
use Rattle.std.specs.Prelude.{IfOk}
use Rattle.std.proofs.lemmas.Result.{IfOk-weaker}
use Rattle.vm_state.specs.declared.frame.Frame.{Frame}
use Rattle.vm_state.specs.declared.frame.Segment.{Segment}
use Rattle.vm_state.specs.declared.initialization.Frames.{Frames}
use Rattle.vm_state.specs.Segments.{frames_in}
use Rattle.vm_state.specs.Stacks.{levels_of}
use Rattle.semantics.specs.Steps.{Going}
use Rattle.machine.specs.Effects.{going}
use Rattle.machine.specs.Table.{row}
use Rattle.thread_runner.specs.Fronts.{AreMembers}
use Rattle.thread_runner.specs.Unshared.{frame_end, unshared_step}
use Rattle.thread_runner.specs.steps.Asked.{over_asked}
use Rattle.thread_runner.specs.steps.Ends.{IsUnsharedStep, IsTold}
use Rattle.thread_runner.proofs.EndLemmas.{stopped_step, told}
use Rattle.thread_runner.proofs.unshared_step.step_unshared.Goals as goal

pub returns-in-Ok-clause-step : goal.returns-in-Ok-clause-step
returns-in-Ok-clause-step c =
    let P = c.args.program.now in
    let asked = c.args.asked.now in
    let ls = levels_of c.args.frames.now in
    let new = going c.go_on.new.frames in
    let s = c.in-Some.segment in
    let f = s.innermost in
    let is : c.args.frames.now.segment ≡ Some s = search rules in
    subst (λ (x : Option Segment). IfOk c.go_on.result (λ step. (done : List Bool) → AreMembers asked done
    → IsUnsharedStep asked done step (unshared_step P done (Going (frames_in x) ls)) (Going (frames_in x) ls) new))
    (sym is)
    (IfOk-weaker c.go_on.result _ _
    (λ step went done members. went f asked c.execute.new.store.classes.now done (frame_end P done f)
    (sym c.in-Ok.ensures.kept.activity) c.in-Ok.ensures.kept.frame
    (subst (IsTold asked done (frame_end P done f)) (c.in-Ok.ensures.gives []) (told asked done members (row P f))))
    c.go_on.ensures.went)

pub returns-in-Err-clause-step : goal.returns-in-Err-clause-step
returns-in-Err-clause-step c =
    let P = c.args.program.now in
    let asked = c.args.asked.now in
    let ls = levels_of c.args.frames.now in
    let s = c.in-Some.segment in
    let f = s.innermost in
    let new = going c.stand.new.frames in
    let is : c.args.frames.now.segment ≡ Some s = search rules in
    subst (λ (x : Option Segment). IfOk c.stopped.result (λ step. (done : List Bool) → AreMembers asked done
    → IsUnsharedStep asked done step (unshared_step P done (Going (frames_in x) ls)) (Going (frames_in x) ls) new))
    (sym is)
    (IfOk-weaker c.stopped.result _ _
    (λ step stops done members. stopped_step asked done (frame_end P done f) f s.callers ls step
    (over_asked asked (row P f)) new (told asked done members (row P f))
    (stops (over_asked asked (row P f)) (c.in-Err.ensures.gives []))
    (ap (λ (x : Frames). going x) c.stand.ensures
    ∙ ap (λ (x : Frame). Going (x ∷ s.callers) ls) c.in-Err.ensures.kept.frame)) c.stopped.ensures)
