use Rattle.init_engine.specs.Turns.{world_of}
use Rattle.image_runner.proofs.ReplayLemmas.{count_told, no_run, no_start}
use Rattle.image_runner.proofs.replaying.replay.Goals as goal

pub returns-in-Ok-replay-clause-ok : goal.returns-in-Ok-replay-clause-ok
returns-in-Ok-replay-clause-ok c = record {
  first = world_of c.in-Ok.world;
  start = c.in-Ok.ensures.start;
  has = rw c.program.ensures at c.in-Ok-replay.ensures.ok;
}

pub returns-in-Err-Turn-clause-err : goal.returns-in-Err-Turn-clause-err
returns-in-Err-Turn-clause-err c =
    no_run c.args.image.now c.args.entries.now c.args.journal.now (world_of c.in-Ok.world) c.program.result.now
    c.in-Err-Turn.line c.in-Err-Turn.field-0 c.program.ensures c.in-Ok.ensures.start c.in-Err-Turn.field-0-is
    c.in-Err-Turn.ensures.err

pub returns-in-Err-clause-err : goal.returns-in-Err-clause-err
returns-in-Err-clause-err c =
    no_start c.args.image.now c.args.entries.now c.args.journal.now c.in-Err.fault c.of_entries.result
    c.in-Err.ensures.fault c.of_entries.ensures.memory c.of_entries.ensures.other

pub returns-in-Err-clause-count : goal.returns-in-Err-clause-count
returns-in-Err-clause-count c =
    count_told c.world.result c.in-Err.fault c.of_entries.result _ c.in-Err.is c.world.ensures.count
    c.of_entries.ensures.memory c.of_entries.ensures.other
