use Rattle.std.proofs.Common.{◌∙◌, arith, subst, sym}
use Rattle.program.specs.Tables.{Tables}
use Rattle.method_lowering.specs.steps.StepTables.{KeepsSteps}
use Rattle.thread_runner.proofs.AnswerLemmas.{holds_still, lines_gone}
use Rattle.thread_runner.proofs.tools.Tools.run_slice.Goals as goal

pub run_on-requires : goal.run_on-requires
run_on-requires g c =
    let d = c.args.desk in
    record {
      program = c.requires.program;
      thread = omega (arith, c.requires.thread, d.threads);
      keeps = subst (λ (P : Tables). KeepsSteps P c.self.inside.table) (sym c.requires.program) c.self.invariant.0;
      room = omega (arith, c.room.ensures.bounded, c.min-steps.ensures);
    }

pub invariant_of-desk : goal.invariant_of-desk
invariant_of-desk g c =
    let d = c.args.desk in
    let on = c.in-Ok.ensures.on in
    record {
      sent = holds_still g.O.Session.before (g.S.Sink.got d.sink) d.book.past.world.printed
          c.in-Ok.book.past.world.printed d.book.sent c.in-Ok.book.sent on.grows c.world-world.ensures.sent
          c.in-Ok.ensures.sent d.sent;
      part = λ well. c.in-Ok.ensures.part ∙ d.part well;
      threads = on.threads ∙ d.threads;
      limit_is = on.limit ∙ d.limit_is;
      well = d.well;
      fault = d.fault;
    }

pub returns-in-Err-clause-err : goal.returns-in-Err-clause-err
returns-in-Err-clause-err g c =
    let d = c.args.desk in
    lines_gone g.O.Origin.program g.O.Origin.start d.book.past d.book.sent g.O.Session.before (g.S.Sink.got d.sink)
    c.world-world.ensures.kept (c.world-world.ensures.prints (d.part c.if-desk.false)) d.sent

pub invariant_of-self-in-Err : goal.invariant_of-self-in-Err
invariant_of-self-in-Err g c = (c.new.ensures g.O.Origin.program, c.self.invariant.1)
