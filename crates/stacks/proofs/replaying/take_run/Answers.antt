use Rattle.std.proofs.Common.{Bool, Some, slice_set, subst, sym, refl, arith}
use Rattle.std.proofs.lemmas.List.{length-map}
use Rattle.machine.specs.Linked.{program_of}
use Rattle.init_engine.specs.Turns.{world_of}
use Rattle.init_engine.specs.Threads.{thread_of}
use Rattle.thread_runner.proofs.ReplayLemmas.{no_thread}
use Rattle.stacks.specs.steps.Replaying.{IsKept}
use Rattle.stacks.proofs.replaying.take_run.Goals as goal

pub returns-then-thread-count-clause-no : goal.returns-then-thread-count-clause-no
returns-then-thread-count-clause-no c = λ no.
    no_thread (program_of c.args.program.now) (world_of c.args.world.now) c.args.run.0 c.args.run.1
    (omega (arith, c.if-thread-count.true, c.thread_count-count.ensures, length-map c.args.world.now.threads thread_of))
    c.requires.some

pub returns-then-not-is_last-clause-kept : goal.returns-then-not-is_last-clause-kept
returns-then-not-is_last-clause-kept c = λ yes.
    subst (λ (b : Bool). IsKept (program_of c.args.program.now) (world_of c.args.world.now) c.args.run.0 c.args.run.1 b
    c.args.before.now.items c.args.before.now.items) (sym c.if-not-is_last.true) refl

pub returns-in-Ok-Some-clause-kept : goal.returns-in-Ok-Some-clause-kept
returns-in-Ok-Some-clause-kept c =
    let yes = rw c.in-Ok-Some.field-0-is at c.in-Ok-Some.ensures.yes in
    λ went. subst (λ (b : Bool). IsKept (program_of c.args.program.now) (world_of c.args.world.now) c.args.run.0
    c.args.run.1 b c.args.before.now.items (slice_set c.args.before.now.items c.args.run.0 (Some c.in-Ok-Some.frames)))
    (sym c.if-not-is_last.false) (c.in-Ok-Some.frames, refl, yes.1)

pub returns-in-Ok-Some-clause-yes : goal.returns-in-Ok-Some-clause-yes
returns-in-Ok-Some-clause-yes c =
    let yes = rw c.in-Ok-Some.field-0-is at c.in-Ok-Some.ensures.yes in λ went. yes.0

pub returns-in-Ok-None-clause-no : goal.returns-in-Ok-None-clause-no
returns-in-Ok-None-clause-no c = λ no. c.in-Ok-None.ensures.no c.in-Ok-None.field-0-is
