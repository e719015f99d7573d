use Rattle.std.proofs.Common.{◌∙◌, ◌+◌, ◌<◌, sym, subst, refl, ap, arith, replicate}
use Rattle.semantics.specs.Worlds.{Run}
use Rattle.program.specs.Tables.{Tables}
use Rattle.machine.specs.Linked.{program_of}
use Rattle.init_engine.specs.Turns.{IsTurn, world_of}
use Rattle.thread_runner.specs.declared.advance.Commit.{Commit}
use Rattle.thread_runner.specs.Commits.{IsCounted, PagesGoOn}
use Rattle.thread_runner.specs.Kept.{Pages, steps_of}
use Rattle.thread_runner.specs.steps.Advances.{counted}
use Rattle.thread_runner.specs.steps.Landings.{MayLand, landed}
use Rattle.thread_runner.proofs.BookLemmas.{books_more, books_refused, books_still, counted_small, grows_by}
use Rattle.thread_runner.proofs.BookLemmas.{lands_none, pages_none, pages_of, pages_on, past_of, schedule_grown}
use Rattle.thread_runner.proofs.BookLemmas.{steps_counted, turn_run}
use Rattle.thread_runner.proofs.book.Book.count_steps.Goals as goal

pub returns-in_err-turn-clause-goes_on : goal.returns-in_err-turn-clause-goes_on
returns-in_err-turn-clause-goes_on g c =
    let b = c.self.inside in
    let h = past_of b.world b.journal.items b.limit in
    subst (λ (p : Pages).
    PagesGoOn p (pages_of (past_of c.land.new.world c.reserve.new.self.items b.limit) b.prints b.bytes)) c.self.view_is
    (pages_none h c.land.new.world c.reserve.new.self.items b.prints b.bytes c.self.invariant.place
    c.in_err-turn.ensures.memory c.land.ensures.threads)

pub returns-clause-goes_on : goal.returns-clause-goes_on
returns-clause-goes_on g c =
    let b = c.self.inside in
    let h = past_of b.world b.journal.items b.limit in
    subst (λ (p : Pages).
    PagesGoOn p (pages_of (past_of c.land.new.world c.add_some.new.runs.items b.limit) b.prints b.bytes)) c.self.view_is
    (pages_on h c.land.new.world c.add_some.new.runs.items b.prints b.bytes c.self.invariant.place
    (grows_by c.in_ok-turn.turn b.world.printed c.land.new.world.printed c.in_ok-turn.ensures.prints)
    c.land.ensures.threads)

pub returns-in_err-reserve-clause-goes_on : goal.returns-in_err-reserve-clause-goes_on
returns-in_err-reserve-clause-goes_on g c =
    (books_refused c.self.invariant c.self.view_is c.reserve.ensures.items).1

pub invariant_of-self : goal.invariant_of-self
invariant_of-self g c = (books_refused c.self.invariant c.self.view_is c.reserve.ensures.items).0

pub invariant_of-self-in_err-turn : goal.invariant_of-self-in_err-turn
invariant_of-self-in_err-turn g c =
    let b = c.self.inside in
    books_still g.O.Origin.program g.O.Origin.start b.steps (past_of b.world b.journal.items b.limit) c.land.new.world
    c.reserve.new.self.items b.prints b.bytes c.self.invariant c.in_err-turn.ensures.memory c.reserve.ensures.items

pub invariant_of-self-2 : goal.invariant_of-self-2
invariant_of-self-2 g c =
    let P = g.O.Origin.program in
    let t = c.args.thread in
    let n = c.args.count in
    let b = c.self.inside in
    let h = past_of b.world b.journal.items b.limit in
    let turn = c.in_ok-turn.turn in
    let made = counted turn n in
    let at = landed (world_of h.world) t c.args.to n in
    let led : Run (program_of P) (world_of h.world) (replicate n t) at =
    subst (λ (p : Pages). Run (program_of P) (world_of p.past.world) (replicate n t)
    (landed (world_of p.past.world) t c.args.to n)) (sym c.self.view_is) c.requires.led in
    let schedule = schedule_grown h.journal c.reserve.new.self.items c.add_some.new.runs.items t c.counted-more.result
    made c.add_some.ensures.schedule c.reserve.ensures.items c.counted-more.ensures in
    let below : steps_of h < h.limit =
    subst (λ (p : Pages). steps_of p.past < p.past.limit) (sym c.self.view_is) c.requires.below in
    books_more P g.O.Origin.start b.steps (b.steps + c.counted-more.result) h c.land.new.world
    c.add_some.new.runs.items made t b.prints b.bytes c.self.invariant (ap (λ k. b.steps + k) c.counted-more.ensures)
    (turn_run P (world_of h.world) at (world_of c.land.new.world) t n turn led
    (subst (λ (Q : Tables). IsTurn (program_of Q) at t turn (world_of c.land.new.world)) c.requires.program
    c.in_ok-turn.ensures.far)) schedule c.add_some.ensures.runs
    (omega (arith, below, counted_small turn n c.requires.most))
    (grows_by turn b.world.printed c.land.new.world.printed c.in_ok-turn.ensures.prints)

pub returns-clause-answer : goal.returns-clause-answer
returns-clause-answer g c =
    let P = g.O.Origin.program in
    let t = c.args.thread in
    let n = c.args.count in
    let turn = c.in_ok-turn.turn in
    let h = past_of c.self.inside.world c.self.inside.journal.items c.self.inside.limit in
    let new = past_of c.land.new.world c.add_some.new.runs.items c.self.inside.limit in
    let at = landed (world_of h.world) t c.args.to n in
    let may : MayLand (world_of h.world) t c.args.to n =
    subst (λ (p : Pages). MayLand (world_of p.past.world) t c.args.to n) (sym c.self.view_is) c.requires.may in
    let done = steps_counted P h new t n at turn (lands_none (world_of h.world) t c.args.to n may)
    (subst (λ (Q : Tables). IsTurn (program_of Q) at t turn (world_of c.land.new.world)) c.requires.program
    c.in_ok-turn.ensures.far)
    (schedule_grown h.journal c.reserve.new.self.items c.add_some.new.runs.items t c.counted-more.result
    (counted turn n) c.add_some.ensures.schedule c.reserve.ensures.items c.counted-more.ensures)
    (λ z. c.add_some.ensures.none (c.counted-more.ensures ∙ z) ∙ c.reserve.ensures.items) refl in
    subst (λ (p : Pages). IsCounted P p.past t n (landed (world_of p.past.world) t c.args.to n) c.answer_of.result new)
    c.self.view_is
    (subst (λ (a : Commit). IsCounted P h t n at a new) (sym c.answer_of.ensures) done)
