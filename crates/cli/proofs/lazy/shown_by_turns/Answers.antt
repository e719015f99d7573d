use Rattle.std.proofs.Common.{sym, subst}
use Rattle.std.proofs.lemmas.List.{length-map}
use Rattle.machine.specs.Linked.{program_of}
use Rattle.init_engine.specs.Rounds.{Turns}
use Rattle.init_engine.specs.Schedules.{schedule_of}
use Rattle.init_engine.specs.Threads.{thread_of}
use Rattle.init_engine.specs.Turns.{world_of}
use Rattle.cli.proofs.lazy.shown_by_turns.Goals as goal

pub returns : goal.returns
returns c = record {
  last = world_of c.in_ok-last.last;
  run = c.in_ok-last.ensures.run;
  turns =
      subst (λ k. Turns (program_of c.args.program.now) k c.args.limit (world_of c.args.world)
      (schedule_of c.in_ok-last.schedule.items) (world_of c.in_ok-last.last))
      (sym (length-map c.args.world.threads thread_of)) c.in_ok-last.ensures.turns;
  seen = c.in_ok-seen.ensures;
  rest = c.rest-rest.ensures;
}
