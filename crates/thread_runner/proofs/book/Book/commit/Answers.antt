use Rattle.std.proofs.Common.{◌<◌, ◌∙◌, sym, subst, replicate}
use Rattle.vm_state.specs.declared.initialization.Frames.{Frames}
use Rattle.semantics.specs.Worlds.{Run}
use Rattle.machine.specs.Linked.{program_of}
use Rattle.init_engine.specs.Turns.{world_of}
use Rattle.thread_runner.specs.Commits.{there}
use Rattle.thread_runner.proofs.BookLemmas.{counts_if, has_gone, led_there}
use Rattle.thread_runner.proofs.book.Book.commit.Goals as goal

pub count_steps-requires-clause-may : goal.count_steps-requires-clause-may
count_steps-requires-clause-may g c = (
  c.into_end.ensures.thread ∙ (c.fits.ensures.yes c.if-not-fits.false).0.0,
  λ some.
      has_gone g.O.Origin.program (world_of c.args.self.now.past.world) c.args.thread c.args.stretch
      (c.fits.ensures.yes c.if-not-fits.false) c.into_end.ensures.run
      (subst (λ k. 0 < k) c.count-count.ensures.is some),
)

pub count_steps-requires-clause-led : goal.count_steps-requires-clause-led
count_steps-requires-clause-led g c =
    let P = g.O.Origin.program in
    let w = world_of c.args.self.now.past.world in
    let t = c.args.thread in
    subst (λ (f : Frames). Run (program_of P) w (replicate c.count-count.result t)
    (there w t f c.count-count.result)) (sym c.into_end.ensures.is)
    (subst (λ k. Run (program_of P) w (replicate k t) (there w t c.args.stretch.to k)) (sym c.count-count.ensures.is)
    (led_there P w t c.args.stretch (c.fits.ensures.yes c.if-not-fits.false) c.into_end.ensures.run))

pub returns-clause-answer : goal.returns-clause-answer
returns-clause-answer g c =
    counts_if g.O.Origin.program c.args.self.now.past c.args.thread c.args.stretch c.into_end.result
    c.count-count.result c.count_steps.result c.count_steps.new.self.past c.count-count.ensures.is c.into_end.ensures.is
    (c.is_full.ensures.no c.if-is_full.false) (c.fits.ensures.yes c.if-not-fits.false) c.count_steps.ensures.answer
