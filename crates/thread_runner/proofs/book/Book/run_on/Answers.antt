use Rattle.std.proofs.Common.{◌+◌, ◌<◌, ◌∙◌, ap, sym, subst, arith}
use Rattle.program.specs.Tables.{Tables}
use Rattle.machine.specs.Linked.{program_of}
use Rattle.init_engine.specs.Turnings.{RunsAhead}
use Rattle.thread_runner.specs.Kept.{Pages, steps_of}
use Rattle.thread_runner.specs.steps.Alone.{RunsOn}
use Rattle.thread_runner.proofs.AloneLemmas.{kept_on, runs_on}
use Rattle.thread_runner.proofs.BookLemmas.{past_of, sent_as_before}
use Rattle.thread_runner.proofs.book.Book.run_on.Goals as goal

pub run_in-requires-clause-fits : goal.run_in-requires-clause-fits
run_in-requires-clause-fits g c =
    let room = subst (λ (p : Pages). steps_of p.past + c.args.slice.steps < p.past.limit + 1024)
    (sym c.self.view_is) c.requires.room in
    omega (arith, room, c.self.invariant.kept.limit)

pub invariant_of-result : goal.invariant_of-result
invariant_of-result g c =
    let P = g.O.Origin.program in
    let b = c.self.inside in
    let h = past_of b.world b.journal.items b.limit in
    let room = subst (λ (p : Pages). steps_of p.past + c.args.slice.steps < p.past.limit + 1024)
    (sym c.self.view_is) c.requires.room in
    let v = c.run_in.new.world in
    let made = c.in-Ok.made in
    let ahead =
    subst (λ (Q : Tables). RunsAhead (program_of Q) c.args.thread c.args.slice.steps c.args.slice.bytes made h.world v)
    c.requires.program c.in-Ok.ensures.ahead in
    kept_on P g.O.Origin.start h v c.run_in.new.journal.items b.steps c.args.thread c.args.slice.steps
    c.args.slice.bytes made b.prints b.bytes c.self.invariant ahead c.in-Ok.ensures.schedule c.in-Ok.ensures.runs room

pub returns-in-Ok-clause-on : goal.returns-in-Ok-clause-on
returns-in-Ok-clause-on g c =
    let P = c.args.program.now in
    let h = past_of c.self.inside.world c.self.inside.journal.items c.self.inside.limit in
    let new = past_of c.run_in.new.world c.run_in.new.journal.items c.self.inside.limit in
    subst (λ (p : Pages). RunsOn c.args.thread p.past new c.in-Ok.made) c.self.view_is
    (runs_on P h c.run_in.new.world c.run_in.new.journal.items c.args.thread c.args.slice.steps c.args.slice.bytes
    c.in-Ok.made c.in-Ok.ensures.ahead c.in-Ok.ensures.schedule c.run_in.ensures.threads)

pub returns-in-Ok-clause-sent : goal.returns-in-Ok-clause-sent
returns-in-Ok-clause-sent g c =
    let b = c.self.inside in
    sent_as_before b.world.printed c.run_in.new.world.printed b.prints b.bytes
    (c.in-Ok.ensures.ahead.printed, c.in-Ok.ensures.ahead.lines) c.self.invariant.place
    ∙ ap (λ (p : Pages). p.sent) c.self.view_is
