use Rattle.std.proofs.Common.{◌∙◌, ◌∷◌, ◌++◌, ap, refl, slice_get, length, drop, List}
use Rattle.std.proofs.lemmas.List.{drop_at}
use Rattle.vm_state.specs.declared.frame.Frame.{Frame}
use Rattle.vm_state.specs.Segments.{frames_of}
use Rattle.semantics.specs.Steps.{Going, Thread}
use Rattle.init_engine.specs.Stacks.{with_thread}
use Rattle.init_engine.specs.Turns.{world_of}
use Rattle.thread_runner.specs.declared.top.Under.{Under}
use Rattle.thread_runner.proofs.FrontLemmas.{front_stands}
use Rattle.thread_runner.proofs.TopLemmas.{has_back, has_next, stands_now}
use Rattle.thread_runner.proofs.top.advance_top.Goals as goal

pub returns-in-Err-step-clause-memory : goal.returns-in-Err-step-clause-memory
returns-in-Err-step-clause-memory c =
    let w = world_of c.args.world.now in
    let t = c.args.thread in
    let (f, there) = c.requires.front in
    let (fs, ls, at) = front_stands (slice_get w.threads t) f there in
    let first : Thread = Going (f ∷ fs) ls in
    let s = world_of c.step.new.self in
    let new = world_of c.take_in.new.world in
    let callers = c.args.top.callers in
    let raised : Thread = Going (frames_of c.args.top ++ fs) ls in
    let has = c.in-Err-step.ensures.err ∙ c.in-Ok.ensures.put f fs ls at in
    let back = c.take_in.ensures.back c.args.top.innermost (callers ++ fs) ls
    (stands_now w t first at s raised has) in
    let same = ap (λ (u : Under). Going (u.innermost ∷ drop u.above (callers ++ fs)) ls)
    (c.in-Ok.ensures.under f fs ls at)
    ∙ ap (λ (gs : List Frame). Going (f ∷ gs) ls) (drop_at callers fs (length callers) refl) in
    has_back w t first at new (has_next w t first at s new raised first has (back ∙ ap (with_thread s t) same))
