use Rattle.std.proofs.Common.{◌<◌, length, arith, ◌∙◌}
use Rattle.machine.specs.Linked.{program_of}
use Rattle.init_engine.specs.Turns.{world_of}
use Rattle.init_engine.specs.Schedules.{schedule_of}
use Rattle.init_engine.proofs.SliceLemmas.{asks_turn, place_of_turn, spends_turn}
use Rattle.init_engine.proofs.rounds.round.Goals as goal

pub asking-preserved : goal.asking-preserved
asking-preserved c =
    let P = program_of c.args.program.now in
    let turn = c.in_ok-turn.turn in
    let made = c.steps_made-made.result in
    let is = c.steps_made-made.ensures in
    let from = c.args.from in
    let p = c.asking.place in
    let kept = c.asking.invariant in
    let now = world_of c.asking.world in
    let next = world_of c.ask.new.world in
    let before = schedule_of c.args.schedule.now in
    let recorded = schedule_of c.asking.schedule in
    let after = schedule_of c.ask.new.schedule in
    let asking = c.in_ok-turn.ensures.asking in
    let room : p.done < p.left = omega (arith, kept.place.bounded, c.if-place.false) in
    let more : p.asked < length c.args.world.now.threads =
    omega (arith, c.asking-test.true, c.thread_count.ensures, kept.threads) in
    record {
      asks = asks_turn P turn made from p (world_of c.args.world.now) now next before recorded after kept.asks is room
          asking;
      place = place_of_turn turn made (length c.args.world.now.threads) p kept.place is more room;
      left = kept.left;
      spends = spends_turn P turn made from p now next before recorded after c.args.world.now.printed
          c.asking.world.printed c.ask.new.world.printed c.args.allowance.now c.asking.allowance c.ask.new.text
          kept.spends is room c.if-is_spent.ensures.unspent.0 asking c.in_ok-turn.ensures.prints;
      threads = c.ask.ensures.threads ∙ kept.threads;
    }
