use Rattle.std.proofs.Common.{◌∙◌}
use Rattle.thread_runner.proofs.AnswerLemmas.{holds_still}
use Rattle.thread_runner.proofs.desk.Desk.commit_stretch.Goals as goal

pub invariant_of-self : goal.invariant_of-self
invariant_of-self g c =
    let d = c.args.self.now in
    let on = c.commit.ensures.goes_on in
    record {
      sent = holds_still g.O.Session.before (g.S.Sink.got d.sink) d.book.past.world.printed
          c.commit.new.self.past.world.printed d.book.sent c.commit.new.self.sent on.grows on.within on.sent
          d.sent;
      part = λ well. on.part ∙ d.part well;
      threads = on.threads ∙ d.threads;
      limit_is = on.limit ∙ d.limit_is;
      well = d.well;
      fault = d.fault;
    }
