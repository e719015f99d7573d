use Rattle.std.proofs.Common.{◌≡◌, ◌∙◌, ℕ, inr, get_or, length, sym, refl, subst, arith}
use Rattle.std.proofs.lemmas.Option.{slice_get-get_or}
use Rattle.machine.specs.Linked.{program_of}
use Rattle.init_engine.specs.Turns.{world_of}
use Rattle.thread_runner.proofs.ReplayLemmas.{run_of_more, some_steps, turn_fault}
use Rattle.stacks.specs.steps.Replaying.{AreKept}
use Rattle.stacks.proofs.ReplayingLemmas.{all_before, kept_more, kept_none}
use Rattle.stacks.proofs.replaying.take_runs.Goals as goal

pub take_run-requires-clause-some : goal.take_run-requires-clause-some
take_run-requires-clause-some c =
    some_steps c.args.runs.now c.loop-place.place (0, 0) c.requires.runs c.loop-place-test.true

pub loop-place-init : goal.loop-place-init
loop-place-init c = record {
  run = refl;
  kept = kept_none (program_of c.args.program.now) (world_of c.args.world.now) c.args.runs.now c.args.last.now
      c.args.before.now.items;
  count = c.requires.count;
  threads = refl;
  keeps = c.new-table.ensures c.args.program.now;
}

pub loop-place-preserved : goal.loop-place-preserved
loop-place-preserved c =
    let P = program_of c.args.program.now in
    let first = world_of c.args.world.now in
    let now = world_of c.loop-place.world in
    let next = world_of c.take_run.new.world in
    let runs = c.args.runs.now in
    let place = c.loop-place.place in
    let within = c.loop-place-test.true in
    let inside = c.loop-place.invariant in
    let went = c.in-Ok-true.field-0-test in
    let is = c.in-Ok-true.ensures in
    record {
      run = run_of_more P first now next runs place (0, 0) within inside.run (is.yes went);
      kept = kept_more P first now runs c.args.last.now c.loop-place.before.items c.take_run.new.before.items place
          (get_or runs place (0, 0)).0 (get_or runs place (0, 0)).1 c.is_last-is_last.result
          (slice_get-get_or runs place (0, 0) within) (some_steps runs place (0, 0) c.requires.runs within)
          (is.there went) c.take_run.ensures.count inside.run c.is_last-is_last.ensures.no
          c.is_last-is_last.ensures.yes (is.kept went) inside.kept;
      count = c.take_run.ensures.count ∙ (inside.count ∙ sym c.take_run.ensures.threads);
      threads = c.take_run.ensures.threads ∙ inside.threads;
      keeps = is.steps;
    }

pub returns-in-Ok-false-clause-err : goal.returns-in-Ok-false-clause-err
returns-in-Ok-false-clause-err c =
    inr (turn_fault (program_of c.args.program.now) (world_of c.args.world.now) (world_of c.loop-place.world)
    c.args.runs.now c.loop-place.place (0, 0) c.loop-place-test.true c.loop-place.invariant.run
    (c.in-Ok-false.ensures.no c.in-Ok-false.field-0-test))

pub returns-clause-before : goal.returns-clause-before
returns-clause-before c =
    let P = program_of c.args.program.now in
    let first = world_of c.args.world.now in
    let runs = c.args.runs.now in
    let inside = c.loop-place.invariant in
    let all : c.loop-place.place ≡ length runs = omega (arith, c.loop-place-test.false) in
    all_before P first runs c.args.last.now c.loop-place.before.items c.requires.last
    (c.requires.last_count ∙ sym (inside.count ∙ inside.threads))
    (subst (λ (k : ℕ). AreKept P first runs c.args.last.now c.loop-place.before.items k) all inside.kept)
