use Rattle.std.proofs.Common.{◌≡◌, ◌+◌, ◌<◌, Some, sym, subst, refl, replicate}
use Rattle.vm_state.specs.declared.frame.Frame.{Frame}
use Rattle.vm_state.specs.Segments.{frames_of}
use Rattle.semantics.specs.Worlds.{Run, World}
use Rattle.machine.specs.Linked.{program_of}
use Rattle.init_engine.specs.Stacks.{front_of}
use Rattle.init_engine.specs.Turns.{world_of}
use Rattle.thread_runner.specs.Commits.{Grew, PagesGoOn}
use Rattle.thread_runner.specs.Fronts.{with_top}
use Rattle.thread_runner.specs.Kept.{Pages, steps_of}
use Rattle.thread_runner.proofs.BookLemmas.{books_more, books_refused, grows_none, pages_none, pages_of, pages_on}
use Rattle.thread_runner.proofs.BookLemmas.{past_of, schedule_grown}
use Rattle.thread_runner.proofs.FrontLemmas.{put_there}
use Rattle.thread_runner.proofs.book.Book.take_steps.Goals as goal

pub returns-in_err-under-clause-goes_on : goal.returns-in_err-under-clause-goes_on
returns-in_err-under-clause-goes_on g c =
    let b = c.self.inside in
    let h = past_of b.world b.journal.items b.limit in
    subst (λ (p : Pages).
    PagesGoOn p (pages_of (past_of c.put_in.new.world c.reserve.new.self.items b.limit) b.prints b.bytes))
    c.self.view_is
    (pages_none h c.put_in.new.world c.reserve.new.self.items b.prints b.bytes c.self.invariant.place
    c.in_err-under.ensures.err c.put_in.ensures.threads)

pub returns-clause-goes_on : goal.returns-clause-goes_on
returns-clause-goes_on g c =
    let b = c.self.inside in
    let h = past_of b.world b.journal.items b.limit in
    subst (λ (p : Pages).
    PagesGoOn p (pages_of (past_of c.put_in.new.world c.add_some.new.runs.items b.limit) b.prints b.bytes))
    c.self.view_is
    (pages_on h c.put_in.new.world c.add_some.new.runs.items b.prints b.bytes c.self.invariant.place
    (grows_none b.world.printed c.put_in.new.world.printed c.put_in.ensures.printed) c.put_in.ensures.threads)

pub returns-in_err-reserve-clause-goes_on : goal.returns-in_err-reserve-clause-goes_on
returns-in_err-reserve-clause-goes_on g c =
    (books_refused c.self.invariant c.self.view_is c.reserve.ensures.items).1

pub invariant_of-self : goal.invariant_of-self
invariant_of-self g c = (books_refused c.self.invariant c.self.view_is c.reserve.ensures.items).0

pub invariant_of-self-2 : goal.invariant_of-self-2
invariant_of-self-2 g c =
    let P = g.O.Origin.program in
    let t = c.args.thread in
    let n = c.args.count in
    let top = frames_of c.args.to in
    let b = c.self.inside in
    let h = past_of b.world b.journal.items b.limit in
    let j = c.add_some.new.runs.items in
    let front = subst (λ (p : Pages). (f : Frame) × (front_of (world_of p.past.world) t ≡ Some f)) (sym c.self.view_is)
    c.requires.front in
    let there =
    put_there (world_of h.world) (world_of c.put_in.new.world) t top front c.in_ok-under.ensures.put in
    let led : Run (program_of P) (world_of h.world) (replicate n t) (with_top (world_of h.world) t top) =
    subst (λ (p : Pages). Run (program_of P) (world_of p.past.world) (replicate n t)
    (with_top (world_of p.past.world) t top)) (sym c.self.view_is) c.requires.led in
    let schedule = schedule_grown h.journal c.reserve.new.self.items j t n n c.add_some.ensures.schedule
    c.reserve.ensures.items refl in
    let room : steps_of h + n < h.limit + 1024 =
    subst (λ (p : Pages). steps_of p.past + n < p.past.limit + 1024) (sym c.self.view_is) c.requires.room in
    books_more P g.O.Origin.start b.steps (b.steps + n) h c.put_in.new.world j n t b.prints b.bytes c.self.invariant
    refl (subst (λ (v : World). Run (program_of P) (world_of h.world) (replicate n t) v) (sym there) led) schedule
    c.add_some.ensures.runs room
    (grows_none b.world.printed c.put_in.new.world.printed c.put_in.ensures.printed)

pub returns-clause-grew : goal.returns-clause-grew
returns-clause-grew g c =
    let t = c.args.thread in
    let n = c.args.count in
    let top = frames_of c.args.to in
    let h = past_of c.self.inside.world c.self.inside.journal.items c.self.inside.limit in
    let j = c.add_some.new.runs.items in
    let front = subst (λ (p : Pages). (f : Frame) × (front_of (world_of p.past.world) t ≡ Some f)) (sym c.self.view_is)
    c.requires.front in
    let there =
    put_there (world_of h.world) (world_of c.put_in.new.world) t top front c.in_ok-under.ensures.put in
    let schedule = schedule_grown h.journal c.reserve.new.self.items j t n n c.add_some.ensures.schedule
    c.reserve.ensures.items refl in
    subst (λ (p : Pages).
    Grew p.past t (with_top (world_of p.past.world) t top) n (past_of c.put_in.new.world j h.limit))
    c.self.view_is (record { world = there; journal = schedule; limit = refl })
