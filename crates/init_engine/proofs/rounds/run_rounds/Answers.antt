use Rattle.std.proofs.Common.{◌≡◌, ◌≤◌, ◌<◌, ◌∙◌, length, arith}
use Rattle.machine.specs.Linked.{program_of}
use Rattle.init_engine.specs.Turns.{world_of}
use Rattle.init_engine.specs.Schedules.{schedule_of}
use Rattle.init_engine.proofs.SliceLemmas.{goes_round, spends_round, goes_to_next, place_of_next, spends_to_next}
use Rattle.init_engine.proofs.rounds.run_rounds.Goals as goal

pub returns-then-is_last-clause-turns : goal.returns-then-is_last-clause-turns
returns-then-is_last-clause-turns c =
    let P = program_of c.args.program.now in
    let count = length c.args.world.now.threads in
    let kept = c.rounds.invariant in
    let n = c.in_ok-ahead.ahead in
    let to = c.in_ok-place.place in
    let within : to.asked ≤ count =
    omega (arith, c.in_ok-place.ensures.place.within, c.run_ahead.ensures.threads, kept.threads) in
    let fits : n ≤ c.rounds.place.left =
    omega (arith, c.in_ok-ahead.ensures.ahead.bounded, c.rounds_of_one-most.ensures.left) in
    let midst : 0 < c.rounds.place.asked → n ≡ 0 = λ some.
    omega (arith, c.in_ok-ahead.ensures.ahead.bounded, c.rounds_of_one-most.ensures.midst some) in
    goes_round P count (length c.rounds.world.threads) c.rounds_of_one-most.result n c.args.from c.rounds.place to
    (world_of c.args.world.now) (world_of c.rounds.world) (world_of c.run_ahead.new.world) (world_of c.round.new.world)
    (schedule_of c.args.schedule.now) (schedule_of c.rounds.schedule) (schedule_of c.run_ahead.new.schedule)
    (schedule_of c.round.new.schedule) kept.turns kept.threads c.in_ok-ahead.ensures.ahead fits midst
    c.in_ok-place.ensures.asks c.in_ok-place.ensures.left within

pub returns-then-is_last-clause-spends : goal.returns-then-is_last-clause-spends
returns-then-is_last-clause-spends c =
    let P = program_of c.args.program.now in
    let count = length c.args.world.now.threads in
    let kept = c.rounds.invariant in
    let n = c.in_ok-ahead.ahead in
    let fits : n ≤ c.rounds.place.left =
    omega (arith, c.in_ok-ahead.ensures.ahead.bounded, c.rounds_of_one-most.ensures.left) in
    let room : n ≤ c.rounds.allowance.steps =
    omega (arith, c.in_ok-ahead.ensures.ahead.bounded, c.rounds_of_one-most.ensures.steps) in
    let midst : 0 < c.rounds.place.asked → n ≡ 0 = λ some.
    omega (arith, c.in_ok-ahead.ensures.ahead.bounded, c.rounds_of_one-most.ensures.midst some) in
    spends_round P count (length c.rounds.world.threads) c.rounds_of_one-most.result n c.args.from c.rounds.place
    c.in_ok-place.place (world_of c.rounds.world) (world_of c.run_ahead.new.world) (schedule_of c.args.schedule.now)
    (schedule_of c.rounds.schedule) (schedule_of c.run_ahead.new.schedule) (schedule_of c.round.new.schedule)
    c.args.world.now.printed c.rounds.world.printed c.run_ahead.new.world.printed c.round.new.world.printed
    c.args.allowance.now c.rounds.allowance c.round.new.allowance c.run_ahead.new.text kept.spends kept.place
    c.in_ok-ahead.ensures.ahead c.in_ok-ahead.ensures.prints fits room midst c.in_ok-place.ensures.spends

pub returns-then-place-count-clause-turns : goal.returns-then-place-count-clause-turns
returns-then-place-count-clause-turns c =
    let P = program_of c.args.program.now in
    let count = length c.args.world.now.threads in
    let kept = c.rounds.invariant in
    let n = c.in_ok-ahead.ahead in
    let to = c.in_ok-place.place in
    let within : to.asked ≤ count =
    omega (arith, c.in_ok-place.ensures.place.within, c.run_ahead.ensures.threads, kept.threads) in
    let fits : n ≤ c.rounds.place.left =
    omega (arith, c.in_ok-ahead.ensures.ahead.bounded, c.rounds_of_one-most.ensures.left) in
    let midst : 0 < c.rounds.place.asked → n ≡ 0 = λ some.
    omega (arith, c.in_ok-ahead.ensures.ahead.bounded, c.rounds_of_one-most.ensures.midst some) in
    goes_round P count (length c.rounds.world.threads) c.rounds_of_one-most.result n c.args.from c.rounds.place to
    (world_of c.args.world.now) (world_of c.rounds.world) (world_of c.run_ahead.new.world) (world_of c.round.new.world)
    (schedule_of c.args.schedule.now) (schedule_of c.rounds.schedule) (schedule_of c.run_ahead.new.schedule)
    (schedule_of c.round.new.schedule) kept.turns kept.threads c.in_ok-ahead.ensures.ahead fits midst
    c.in_ok-place.ensures.asks c.in_ok-place.ensures.left within

pub returns-then-place-count-clause-spends : goal.returns-then-place-count-clause-spends
returns-then-place-count-clause-spends c =
    let P = program_of c.args.program.now in
    let count = length c.args.world.now.threads in
    let kept = c.rounds.invariant in
    let n = c.in_ok-ahead.ahead in
    let fits : n ≤ c.rounds.place.left =
    omega (arith, c.in_ok-ahead.ensures.ahead.bounded, c.rounds_of_one-most.ensures.left) in
    let room : n ≤ c.rounds.allowance.steps =
    omega (arith, c.in_ok-ahead.ensures.ahead.bounded, c.rounds_of_one-most.ensures.steps) in
    let midst : 0 < c.rounds.place.asked → n ≡ 0 = λ some.
    omega (arith, c.in_ok-ahead.ensures.ahead.bounded, c.rounds_of_one-most.ensures.midst some) in
    spends_round P count (length c.rounds.world.threads) c.rounds_of_one-most.result n c.args.from c.rounds.place
    c.in_ok-place.place (world_of c.rounds.world) (world_of c.run_ahead.new.world) (schedule_of c.args.schedule.now)
    (schedule_of c.rounds.schedule) (schedule_of c.run_ahead.new.schedule) (schedule_of c.round.new.schedule)
    c.args.world.now.printed c.rounds.world.printed c.run_ahead.new.world.printed c.round.new.world.printed
    c.args.allowance.now c.rounds.allowance c.round.new.allowance c.run_ahead.new.text kept.spends kept.place
    c.in_ok-ahead.ensures.ahead c.in_ok-ahead.ensures.prints fits room midst c.in_ok-place.ensures.spends

pub rounds-preserved : goal.rounds-preserved
rounds-preserved c =
    let P = program_of c.args.program.now in
    let count = length c.args.world.now.threads in
    let kept = c.rounds.invariant in
    let n = c.in_ok-ahead.ahead in
    let to = c.in_ok-place.place in
    let within : to.asked ≤ count =
    omega (arith, c.in_ok-place.ensures.place.within, c.run_ahead.ensures.threads, kept.threads) in
    let fits : n ≤ c.rounds.place.left =
    omega (arith, c.in_ok-ahead.ensures.ahead.bounded, c.rounds_of_one-most.ensures.left) in
    let midst : 0 < c.rounds.place.asked → n ≡ 0 = λ some.
    omega (arith, c.in_ok-ahead.ensures.ahead.bounded, c.rounds_of_one-most.ensures.midst some) in
    let room : n ≤ c.rounds.allowance.steps =
    omega (arith, c.in_ok-ahead.ensures.ahead.bounded, c.rounds_of_one-most.ensures.steps) in
    let turns = goes_round P count (length c.rounds.world.threads) c.rounds_of_one-most.result n c.args.from
    c.rounds.place to (world_of c.args.world.now) (world_of c.rounds.world) (world_of c.run_ahead.new.world)
    (world_of c.round.new.world) (schedule_of c.args.schedule.now) (schedule_of c.rounds.schedule)
    (schedule_of c.run_ahead.new.schedule) (schedule_of c.round.new.schedule) kept.turns kept.threads
    c.in_ok-ahead.ensures.ahead fits midst c.in_ok-place.ensures.asks c.in_ok-place.ensures.left within in
    let spends = spends_round P count (length c.rounds.world.threads) c.rounds_of_one-most.result n c.args.from
    c.rounds.place c.in_ok-place.place (world_of c.rounds.world) (world_of c.run_ahead.new.world)
    (schedule_of c.args.schedule.now) (schedule_of c.rounds.schedule) (schedule_of c.run_ahead.new.schedule)
    (schedule_of c.round.new.schedule) c.args.world.now.printed c.rounds.world.printed c.run_ahead.new.world.printed
    c.round.new.world.printed
    c.args.allowance.now c.rounds.allowance c.round.new.allowance c.run_ahead.new.text kept.spends kept.place
    c.in_ok-ahead.ensures.ahead c.in_ok-ahead.ensures.prints fits room midst c.in_ok-place.ensures.spends in
    let all : to.asked ≡ count = omega (arith, within, c.if-place-count.false, c.thread_count-count.ensures) in
    let some : 0 < to.done = c.if-is_last.ensures.further.1 (omega (arith, all, c.thread_count-count.ensures)) in
    rw c.begin-place.ensures (record {
      turns = goes_to_next P count c.args.from to (world_of c.args.world.now) (world_of c.round.new.world)
          (schedule_of c.args.schedule.now) (schedule_of c.round.new.schedule) turns all some;
      place = place_of_next count to;
      spends = spends_to_next c.args.from to (schedule_of c.args.schedule.now) (schedule_of c.round.new.schedule)
          c.args.world.now.printed c.round.new.world.printed c.args.allowance.now c.round.new.allowance spends;
      threads = c.round.ensures.threads ∙ (c.run_ahead.ensures.threads ∙ kept.threads);
      keeps = c.in_ok-ahead.ensures.steps;
    })
