use Rattle.std.proofs.Common.{refl, subst}
use Rattle.init_engine.specs.Schedules.{schedule_of}
use Rattle.init_engine.specs.Turns.{world_of}
use Rattle.vm_state.specs.Output.{text_of}
use Rattle.thread_runner.specs.steps.Verdicts.{IsVerdict}
use Rattle.thread_runner.proofs.AnswerLemmas.{answer_of, holds_all}
use Rattle.thread_runner.proofs.desk.Desk.judge.Goals as goal

pub returns : goal.returns
returns g c =
    let P = g.O.Origin.program in
    let start = g.O.Origin.start in
    let e = c.fault.new.self in
    let w = e.book.past.world in
    let got = g.S.Sink.got e.sink in
    let sent = holds_all g.O.Session.before got (text_of w.printed) e.book.sent (c.in_default.ensures.all refl)
    e.sent in
    answer_of P start g.O.Session.limit g.O.Session.failed (g.S.Sink.failures e.sink)
    (schedule_of e.book.past.journal) w c.verdict_of.result g.O.Session.before got c.world-world.ensures.kept.runs sent
    (subst (λ k. IsVerdict P start k (world_of w) c.verdict_of.result) e.limit_is c.verdict_of.ensures)
