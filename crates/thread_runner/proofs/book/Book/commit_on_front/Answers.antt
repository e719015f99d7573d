use Rattle.std.proofs.Common.{Some, ap}
use Rattle.vm_state.specs.Segments.{frames_of}
use Rattle.init_engine.specs.Turns.{world_of}
use Rattle.thread_runner.specs.Fronts.{with_top}
use Rattle.thread_runner.proofs.BookLemmas.{front_counts_if}
use Rattle.thread_runner.proofs.FrontLemmas.{front_led_to}
use Rattle.thread_runner.proofs.book.Book.commit_on_front.Goals as goal

pub count_steps-requires-clause-may : goal.count_steps-requires-clause-may
count_steps-requires-clause-may g c =
    (c.count-count.ensures.some, (c.args.run.from, (c.fits_front.ensures.yes c.if-not-fits_front.false).0))

pub count_steps-requires-clause-led : goal.count_steps-requires-clause-led
count_steps-requires-clause-led g c =
    front_led_to g.O.Origin.program (world_of c.args.self.now.past.world) c.args.thread c.count-count.result c.args.run
    (frames_of c.into_top.result) (c.fits_front.ensures.yes c.if-not-fits_front.false) c.into_top.ensures.leads
    c.into_top.ensures.is c.count-count.ensures.is

pub returns-clause-answer : goal.returns-clause-answer
returns-clause-answer g c =
    let w = world_of c.args.self.now.past.world in
    front_counts_if g.O.Origin.program c.args.self.now.past c.args.thread (Some c.args.run) c.count_steps.result
    c.count_steps.new.self.past (with_top w c.args.thread (frames_of c.into_top.result)) c.count-count.result
    c.count-count.ensures.is (ap (with_top w c.args.thread) c.into_top.ensures.is)
    (c.is_full.ensures.no c.if-is_full.false) (c.fits_front.ensures.yes c.if-not-fits_front.false)
    c.count_steps.ensures.answer
