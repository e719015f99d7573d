use Rattle.std.proofs.Common.{subst, List}
use Rattle.vm_state.specs.declared.frame.Frame.{Frame}
use Rattle.vm_state.specs.Segments.{frames_of}
use Rattle.init_engine.specs.Turns.{world_of}
use Rattle.thread_runner.specs.Commits.{Grew}
use Rattle.thread_runner.specs.Fronts.{with_top}
use Rattle.thread_runner.proofs.FrontLemmas.{front_led_to}
use Rattle.thread_runner.proofs.book.Book.commit_run.Goals as goal

pub take_steps-requires-clause-front : goal.take_steps-requires-clause-front
take_steps-requires-clause-front g c =
    (c.args.run.from, (c.fits_front.ensures.yes c.if-not-fits_front.false).0)

pub take_steps-requires-clause-led : goal.take_steps-requires-clause-led
take_steps-requires-clause-led g c =
    front_led_to g.O.Origin.program (world_of c.args.self.now.past.world) c.args.thread c.count-count.result c.args.run
    (frames_of c.into_top.result) (c.fits_front.ensures.yes c.if-not-fits_front.false) c.into_top.ensures.leads
    c.into_top.ensures.is c.count-count.ensures.is

pub returns-in-Ok-clause-answer : goal.returns-in-Ok-clause-answer
returns-in-Ok-clause-answer g c =
    let old = c.args.self.now.past in
    let w = world_of old.world in
    let t = c.args.thread in
    let new = c.take_steps.new.self.past in (
      c.has_room.ensures.below c.if-not-has_room.false,
      c.fits_front.ensures.yes c.if-not-fits_front.false,
      subst (λ k. Grew old t (with_top w t c.args.run.to) k new) c.count-count.ensures.is
          (subst (λ (fs : List Frame). Grew old t (with_top w t fs) c.count-count.result new) c.into_top.ensures.is
          c.in-Ok.ensures.grew),
    )
