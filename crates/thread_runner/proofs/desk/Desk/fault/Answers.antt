use Rattle.std.proofs.Common.{subst, sym}
use Rattle.thread_runner.specs.Kept.{IsKept}
use Rattle.thread_runner.proofs.AnswerLemmas.{beginning, lines_gone}
use Rattle.thread_runner.proofs.desk.Desk.fault.Goals as goal

pub returns-then-self-clause-fault : goal.returns-then-self-clause-fault
returns-then-self-clause-fault g c =
    let d = c.args.self.now in (
      beginning g.O.Origin.program g.O.Origin.start d.book.past c.sent.result d.book.sent g.O.Session.before
          (g.S.Sink.got d.sink) c.world-world.ensures.kept c.sent.ensures.is c.world-world.ensures.sent d.sent,
      d.fault c.if-self.true,
    )

pub returns-then-memory-clause-fault : goal.returns-then-self-2-clause-fault
returns-then-memory-clause-fault g c =
    let d = c.args.self.now in
    lines_gone g.O.Origin.program g.O.Origin.start d.book.past d.book.sent g.O.Session.before (g.S.Sink.got d.sink)
    c.world-world.ensures.kept (c.world-world.ensures.prints (d.part c.if-self.false)) d.sent

pub returns-then-not-started-clause-fault : goal.returns-then-not-started-clause-fault
returns-then-not-started-clause-fault g c =
    let d = c.args.self.now in
    lines_gone g.O.Origin.program g.O.Origin.start d.book.past d.book.sent g.O.Session.before (g.S.Sink.got d.sink)
    c.world-world.ensures.kept (c.world-world.ensures.prints (d.part c.if-self.false)) d.sent

pub returns-then-not-send-clause-fault : goal.returns-then-not-send-clause-fault
returns-then-not-send-clause-fault g c =
    let P = g.O.Origin.program in
    let start = g.O.Origin.start in
    let e = c.send.new.self in
    let kept = subst (IsKept P start) (sym c.send.ensures.book) c.world-world.ensures.kept in (
      beginning P start e.book.past c.sent-then-not-send.result e.book.sent g.O.Session.before (g.S.Sink.got e.sink)
          kept c.sent-then-not-send.ensures.is c.sent-then-not-send.ensures.within e.sent,
      e.fault (c.send.ensures.failed c.if-not-send.true),
    )
