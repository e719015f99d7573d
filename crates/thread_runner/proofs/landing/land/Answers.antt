use Rattle.std.proofs.Common.{sym, subst}
use Rattle.std.specs.Prelude.{IfOk}
use Rattle.machine.specs.Linked.{program_of}
use Rattle.init_engine.specs.Turns.{IsTurn, world_of}
use Rattle.thread_runner.specs.declared.landing.Landing.{Landing}
use Rattle.thread_runner.specs.steps.Landings.{landed}
use Rattle.thread_runner.proofs.landing.land.Goals as goal

pub returns-in-Top-clause-far : goal.returns-in-Top-clause-far
returns-in-Top-clause-far c =
    subst (λ (to : Landing). IfOk c.advance_top.result (λ turn. IsTurn (program_of c.args.program.now)
    (landed (world_of c.args.world.now) c.args.thread to c.args.count) c.args.thread turn
    (world_of c.advance_top.new.world))) (sym c.in-Top.is) c.advance_top.ensures.far
