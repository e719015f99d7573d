use Rattle.std.proofs.Common.{◌≡◌, ◌+◌, inr, true, false, sym, ap, ◌∙◌}
use Rattle.std.proofs.Common.{arith}
use Rattle.std.proofs.lemmas.List.Elements.{All-push}
use Rattle.machine.specs.Effects.{going}
use Rattle.thread_runner.specs.Unshared.{is_done, unshared_step}
use Rattle.thread_runner.proofs.AskedLemmas.{asks_less, members_before}
use Rattle.thread_runner.proofs.UnsharedLemmas.{stood_still, walked_on, went_on}
use Rattle.thread_runner.proofs.unshared.run_unshared.Goals as goal
use Rattle.thread_runner.proofs.unshared.run_unshared.Goals.{else-loop-count-test, then-loop-count-test+then-count-most}

pub loop-count-preserved-in-Ok-Done : goal.loop-count-preserved-in-Ok-Done
loop-count-preserved-in-Ok-Done g c =
    let kept = c.loop-count.invariant in record {
      members = kept.members;
      wide = went_on c.args.program.now c.loop-count.asked.items c.loop-count.count c.walk-count.result
          (going c.args.frames.now) (going c.loop-count.frames) (going c.walk-count.new.frames)
          (going c.step.new.frames) kept.wide c.walk-count.ensures.steps (rw
          (c.as_slice.ensures.value, c.in-Ok-Done.field-0-is) at c.in-Ok-Done.ensures.step);
      thread = c.step.ensures.thread ∙ (c.walk-count.ensures.thread ∙ kept.thread);
      most = omega (arith, c.walk-count.ensures.most, c.if-count-most.false, c.loop-count-test.true, kept.most);
    }

pub loop-count-preserved : goal.loop-count-preserved
loop-count-preserved g c =
    let kept = c.loop-count.invariant in
    let asked = c.loop-count.asked.items in
    let class = c.in-Ok-Lacks.class in
    let stands = ((rw (c.as_slice.ensures.value, c.in-Ok-Lacks.field-0-is) at c.in-Ok-Lacks.ensures.step)
    c.args.done.now kept.members).1 in
    let wide = stood_still c.args.program.now asked c.loop-count.count c.walk-count.result (going c.args.frames.now)
    (going c.loop-count.frames) (going c.walk-count.new.frames) (going c.step.new.frames) kept.wide
    c.walk-count.ensures.steps stands in
    rw c.in-Ok.ensures.items (record {
      members = All-push (λ d. is_done c.args.done.now d ≡ true) asked class kept.members
          (sym c.has.ensures ∙ c.if-not-has.false);
      wide = λ more members. wide more (members_before asked more class members);
      thread = c.step.ensures.thread ∙ (c.walk-count.ensures.thread ∙ kept.thread);
      most = omega (arith, c.walk-count.ensures.most, kept.most);
    })

pub loop-count-smaller : goal.loop-count-smaller
loop-count-smaller g c =
    let kept = c.loop-count.invariant in
    let asked = c.loop-count.asked.items in
    let lacks = ((rw (c.as_slice.ensures.value, c.in-Ok-Lacks.field-0-is) at c.in-Ok-Lacks.ensures.step)
    c.args.done.now kept.members).0 in
    rw c.in-Ok.ensures.items
    (omega (
      arith,
      c.walk-count.ensures.most,
      c.loop-count-test.true,
      kept.most,
      asks_less asked c.args.done.now c.in-Ok-Lacks.class lacks.0 (sym c.has.ensures ∙ c.if-not-has.false),
    ))

pub returns-then-not-has-clause-wide : goal.returns-then-not-has-clause-wide
returns-then-not-has-clause-wide g c =
    let kept = c.loop-count.invariant in
    stood_still c.args.program.now c.loop-count.asked.items c.loop-count.count c.walk-count.result
    (going c.args.frames.now) (going c.loop-count.frames) (going c.walk-count.new.frames) (going c.step.new.frames)
    kept.wide c.walk-count.ensures.steps ((rw (c.as_slice.ensures.value, c.in-Ok-Lacks.field-0-is) at
    c.in-Ok-Lacks.ensures.step) c.args.done.now kept.members).1

pub returns-then-not-has-clause-steps : goal.returns-then-not-has-clause-steps
returns-then-not-has-clause-steps g c =
    returns-then-not-has-clause-wide g c c.args.done.now c.loop-count.invariant.members

pub returns-then-not-has-clause-ends : goal.returns-then-not-has-clause-ends
returns-then-not-has-clause-ends g c =
    let lacks = (rw (c.as_slice.ensures.value, c.in-Ok-Lacks.field-0-is) at c.in-Ok-Lacks.ensures.step)
    c.args.done.now c.loop-count.invariant.members in
    inr (ap (unshared_step c.args.program.now c.args.done.now) lacks.1
    ∙ lacks.0.1 (sym c.has.ensures ∙ c.if-not-has.true))

pub returns-in-Ok-Stops-clause-wide : goal.returns-in-Ok-Stops-clause-wide
returns-in-Ok-Stops-clause-wide g c =
    let kept = c.loop-count.invariant in
    stood_still c.args.program.now c.loop-count.asked.items c.loop-count.count c.walk-count.result
    (going c.args.frames.now) (going c.loop-count.frames) (going c.walk-count.new.frames) (going c.step.new.frames)
    kept.wide c.walk-count.ensures.steps ((rw (c.as_slice.ensures.value, c.in-Ok-Stops.field-0-is) at
    c.in-Ok-Stops.ensures.step) c.args.done.now kept.members).1

pub returns-in-Ok-Stops-clause-steps : goal.returns-in-Ok-Stops-clause-steps
returns-in-Ok-Stops-clause-steps g c =
    returns-in-Ok-Stops-clause-wide g c c.args.done.now c.loop-count.invariant.members

pub returns-in-Ok-Stops-clause-ends : goal.returns-in-Ok-Stops-clause-ends
returns-in-Ok-Stops-clause-ends g c =
    let stops = (rw (c.as_slice.ensures.value, c.in-Ok-Stops.field-0-is) at c.in-Ok-Stops.ensures.step)
    c.args.done.now c.loop-count.invariant.members in
    inr (ap (unshared_step c.args.program.now c.args.done.now) stops.1 ∙ stops.0)

pub returns-clause-wide : goal.returns-clause-wide
returns-clause-wide g c =
    let kept = c.loop-count.invariant in
    elim c.loop-count-test.branch [
      | else-loop-count-test w ↦ λ more members. rw (w.frames-is, w.count-is) (kept.wide more members)
      | then-loop-count-test+then-count-most w ↦ λ more members. rw (w.frames-is, w.count-is)
          (walked_on c.args.program.now c.loop-count.asked.items c.loop-count.count w.walk-count.result
          (going c.args.frames.now) (going c.loop-count.frames) (going w.walk-count.new.frames)
          (going w.walk-count.new.frames) kept.wide w.walk-count.ensures.steps more members)
    ]

pub returns-clause-steps : goal.returns-clause-steps
returns-clause-steps g c = returns-clause-wide g c c.args.done.now c.loop-count.invariant.members
