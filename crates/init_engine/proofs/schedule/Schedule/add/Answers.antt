use Rattle.std.proofs.Common.{◌+◌, ◌<◌, ◌^◌, ◌++◌, length, arith, sym, ap, ◌∙◌, append-nil, replicate}
use Rattle.init_engine.specs.Schedules.{schedule_of}
use Rattle.init_engine.proofs.ScheduleLemmas.{schedule_of-longer, schedule_of-more, last_fits, runs_longer, runs_more}
use Rattle.init_engine.proofs.ScheduleLemmas.{first_run, no_last_run}
use Rattle.init_engine.proofs.schedule.Schedule.add.Goals as goal

pub overflow_add-self : goal.overflow_add-self
overflow_add-self c =
    let now = rw c.in-Some.is at c.self.view_is in
    let fits = last_fits c.self.inside.runs.items c.in-Some.last c.in-Some.steps in
    let whole = ap (λ runs. length (schedule_of runs)) now in
    let small : c.in-Some.steps + c.args.count < 2 ^ 64 = omega (arith, fits, whole, c.requires.room) in
    omega (arith, small)

pub invariant_of-self : goal.invariant_of-self
invariant_of-self c =
    let kept = rw c.in-Some.is at c.self.invariant.0 in (
      rw (← c.if-last-thread.true)
          (runs_longer c.self.inside.runs.items c.in-Some.last c.in-Some.steps c.args.count kept),
      no_last_run _ _,
    )

pub returns-then-last-thread : goal.returns-then-last-thread
returns-then-last-thread c =
    let now = rw c.in-Some.is at c.self.view_is in
    rw (← c.if-last-thread.true)
    (schedule_of-longer c.self.inside.runs.items c.in-Some.last c.in-Some.steps c.args.count
    ∙ ap (λ runs. schedule_of runs ++ replicate c.args.count c.in-Some.last) now)

pub invariant_of-self-in-Some : goal.invariant_of-self-in-Some
invariant_of-self-in-Some c =
    let kept = rw c.in-Some.is at c.self.invariant.0 in (
      rw c.in_ok-push-in-Some.ensures.items
          (runs_more c.self.inside.runs.items c.in-Some.last c.args.thread c.in-Some.steps c.args.count kept
          c.if-last-thread.false c.requires.some),
      no_last_run _ _,
    )

pub invariant_of-self-in-None : goal.invariant_of-self-in-None
invariant_of-self-in-None c = (
  first_run c.self.inside.runs.items c.args.thread c.args.count (c.self.invariant.1 c.in-None.is) c.requires.some,
  no_last_run _ _,
)

pub returns-in_ok-push-in-Some : goal.returns-in_ok-push-in-Some
returns-in_ok-push-in-Some c =
    let now = rw c.in-Some.is at c.self.view_is in
    schedule_of-more c.push.new.self.items c.args.thread c.args.count
    ∙ ap (λ runs. schedule_of runs ++ replicate c.args.count c.args.thread)
    (c.in_ok-push-in-Some.ensures.items ∙ now)

pub returns-in-None : goal.returns-in-None
returns-in-None c =
    let now = rw c.in-None.is at c.self.view_is in
    schedule_of-more c.self.inside.runs.items c.args.thread c.args.count
    ∙ ap (λ runs. schedule_of runs ++ replicate c.args.count c.args.thread)
    (sym (append-nil c.self.inside.runs.items) ∙ now)
