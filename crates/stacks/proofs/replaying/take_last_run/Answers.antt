use Rattle.std.proofs.Common.{◌≡◌, ◌+◌, ◌-◌, ℕ, replicate, arith, subst}
use Rattle.semantics.specs.Worlds.{Run}
use Rattle.machine.specs.Linked.{program_of}
use Rattle.init_engine.specs.Turns.{world_of}
use Rattle.thread_runner.specs.Replays.{NoRun}
use Rattle.stacks.proofs.ReplayingLemmas.{none_after, none_longer, steps_on}
use Rattle.stacks.proofs.replaying.take_last_run.Goals as goal

pub returns-then-not-went-clause-no : goal.returns-then-not-went-clause-no
returns-then-not-went-clause-no c = λ is.
    none_longer (program_of c.args.program.now) (world_of c.args.world.now) (c.args.steps - 1) c.args.steps
    c.args.thread (omega arith) (c.in_ok-went.ensures.no c.if-not-went.true)

pub returns-in-Ok-true-clause-yes : goal.returns-in-Ok-true-clause-yes
returns-in-Ok-true-clause-yes c =
    let P = program_of c.args.program.now in
    let first = world_of c.args.world.now in
    let mid = world_of c.take_steps.new.world in
    let last = world_of c.take_steps-2.new.world in
    let ran : Run P first (replicate (c.args.steps - 1) c.args.thread) mid =
    c.in_ok-went.ensures.yes c.if-not-went.false in
    let step : Run P mid (replicate 1 c.args.thread) last = c.in-Ok-true.ensures.yes c.in-Ok-true.field-0-test in
    let whole : c.args.steps - 1 + 1 ≡ c.args.steps = omega (arith, c.requires.some) in (
      subst (λ (k : ℕ). Run P first (replicate k c.args.thread) last) whole
          (steps_on P first mid last (c.args.steps - 1) 1 c.args.thread ran step),
      record { world = mid; run = ran; frames = c.in_ok-frames.ensures },
    )

pub returns-in-Ok-false-clause-no : goal.returns-in-Ok-false-clause-no
returns-in-Ok-false-clause-no c =
    let P = program_of c.args.program.now in
    let first = world_of c.args.world.now in
    let mid = world_of c.take_steps.new.world in
    let ran : Run P first (replicate (c.args.steps - 1) c.args.thread) mid =
    c.in_ok-went.ensures.yes c.if-not-went.false in
    let whole : c.args.steps - 1 + 1 ≡ c.args.steps = omega (arith, c.requires.some) in
    λ is. subst (λ (k : ℕ). NoRun P first (replicate k c.args.thread)) whole
    (none_after P first mid (c.args.steps - 1) 1 c.args.thread ran
    (c.in-Ok-false.ensures.no c.in-Ok-false.field-0-test))
