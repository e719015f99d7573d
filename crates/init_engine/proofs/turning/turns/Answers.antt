use Rattle.std.proofs.Common.{◌∙◌, subst}
use Rattle.machine.specs.Linked.{program_of}
use Rattle.init_engine.specs.Turns.{world_of}
use Rattle.init_engine.specs.Schedules.{schedule_of}
use Rattle.init_engine.specs.Rounds.{Turns, HasStopped}
use Rattle.init_engine.proofs.turning.turns.Goals as goal

pub slices-init : goal.slices-init
slices-init c = record {
  turns = c.new-turning.ensures.begun (program_of c.args.program.now);
  ready = c.new-turning.ensures.ready c.args.program.now;
  threads = rw c.new-turning.ensures.world;
}

pub slices-preserved : goal.slices-preserved
slices-preserved c = record {
  turns =
      (c.in_ok-go_on.ensures.turns (world_of c.args.world) c.args.limit c.slices.invariant.turns).under_way;
  ready = c.in_ok-go_on.ensures.ready;
  threads = c.go_on.ensures.threads ∙ c.slices.invariant.threads;
}

pub returns-clause-run : goal.returns-clause-run
returns-clause-run c =
    let turned = c.in_ok-go_on.ensures.turns (world_of c.args.world) c.args.limit c.slices.invariant.turns in
    rw (c.in_ok-last.ensures.world, c.in_ok-last.ensures.schedule) turned.run

pub returns-clause-turns : goal.returns-clause-turns
returns-clause-turns c =
    let turned = c.in_ok-go_on.ensures.turns (world_of c.args.world) c.args.limit c.slices.invariant.turns in
    let threads = c.go_on.ensures.threads ∙ c.slices.invariant.threads in
    rw (c.in_ok-last.ensures.world, c.in_ok-last.ensures.schedule)
    (subst (λ k. Turns (program_of c.args.program.now) k c.args.limit (world_of c.args.world)
    (schedule_of c.go_on.new.self.schedule) (world_of c.go_on.new.self.world)) threads (turned.turns c.if-branch.true))

pub returns-clause-stop : goal.returns-clause-stop
returns-clause-stop c =
    let turned = c.in_ok-go_on.ensures.turns (world_of c.args.world) c.args.limit c.slices.invariant.turns in
    let threads = c.go_on.ensures.threads ∙ c.slices.invariant.threads in
    rw (c.in_ok-last.ensures.world, c.in_ok-last.ensures.schedule)
    (subst (λ k. HasStopped (program_of c.args.program.now) k c.args.limit
    (schedule_of c.go_on.new.self.schedule) (world_of c.go_on.new.self.world)) threads
    (turned.stopped c.if-branch.true))
