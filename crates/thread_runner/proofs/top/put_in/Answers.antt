use Rattle.std.proofs.Common.{◌≡◌, ◌∙◌, ◌∷◌, [], ap, subst, slice_get}
use Rattle.vm_state.specs.Segments.{frames_of}
use Rattle.semantics.specs.Steps.{Thread}
use Rattle.machine.specs.Effects.{going}
use Rattle.init_engine.specs.Stacks.{with_thread}
use Rattle.init_engine.specs.Turns.{world_of}
use Rattle.std.specs.Prelude.{OnErr}
use Rattle.thread_runner.proofs.FrontLemmas.{front_stands}
use Rattle.thread_runner.proofs.TopLemmas.{empty_there, put_if, same_if}
use Rattle.thread_runner.proofs.top.put_in.Goals as goal

pub returns-clause-put : goal.returns-clause-put
returns-clause-put c = λ f fs ls at.
    let w = world_of c.args.world.now in
    let m = world_of c.exchange.new.self in
    let n = world_of c.exchange-2.new.self in
    let first = c.exchange.ensures.exchanged (f ∷ fs) ls at in
    let out = first.0 ∙ ap (with_thread w c.args.thread) c.no_frames-frames.ensures.going in
    let second = c.exchange-2.ensures.exchanged [] [] (empty_there w m n c.args.thread f fs ls at out) in
    put_if w m n c.args.thread f fs ls at out c.put_top-put.result (frames_of c.args.top)
    (going c.put_top-put.new.frames) second.0 (c.put_top-put.ensures.put f fs ls first.1)

pub returns-clause-under : goal.returns-clause-under
returns-clause-under c = λ f fs ls at.
    let first = c.exchange.ensures.exchanged (f ∷ fs) ls at in c.put_top-put.ensures.under f fs ls first.1

pub returns-clause-err : goal.returns-clause-err
returns-clause-err c =
    let w = world_of c.args.world.now in
    let m = world_of c.exchange.new.self in
    let n = world_of c.exchange-2.new.self in
    let (f, there) = c.requires.front in
    let (fs, ls, at) = front_stands (slice_get w.threads c.args.thread) f there in
    let first = c.exchange.ensures.exchanged (f ∷ fs) ls at in
    let out = first.0 ∙ ap (with_thread w c.args.thread) c.no_frames-frames.ensures.going in
    let second = c.exchange-2.ensures.exchanged [] [] (empty_there w m n c.args.thread f fs ls at out) in
    let b = going c.put_top-put.new.frames in
    same_if w m n c.args.thread f fs ls at out c.put_top-put.result b second.0
    (subst (λ (a : Thread). OnErr c.put_top-put.result (b ≡ a)) first.1 c.put_top-put.ensures.err)
