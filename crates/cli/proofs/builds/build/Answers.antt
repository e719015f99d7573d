use Rattle.std.proofs.Common.{arith, refl, inl, inr, Err}
use Rattle.std.proofs.lemmas.Result.{IfErr-weaker}
use Rattle.building.specs.Builds.{text_of}
use Rattle.building.specs.Refusals.{OptionsFail}
use Rattle.cli.specs.Runs.{texts_of}
use Rattle.cli.specs.Builds.{BuildFails, IsBudget, range}
use Rattle.cli.proofs.BuildLemmas.{is_build, not_built_by, not_linked_build, no_workers_is_budget}
use Rattle.cli.proofs.BuildLemmas.{of_workers, refused_for_no_budget, refused_for_no_workers, wrong_budget}
use Rattle.cli.proofs.BuildLemmas.{wrong_number}
use Rattle.cli.proofs.builds.build.Goals as goal

pub build_program-requires : goal.build_program-requires
build_program-requires g c =
    let good : IsBudget c.args.options.now.budget = c.is_budget.ensures.0 c.if-not-is_budget.false in
    (c.type_bounds.sync-G, (c.type_bounds.sync-R, omega (arith, good.1)))

-- ---- what is built

pub returns-in-Ok-clause-build : goal.returns-in-Ok-clause-build
returns-in-Ok-clause-build g c =
    is_build (texts_of c.args.files.now) c.args.options.now c.in-Ok.program c.build_program.result
    (c.is_budget.ensures.0 c.if-not-is_budget.false) c.in-Ok.ensures.program c.build_program.ensures.build

-- ---- what is refused

pub returns-in-Ok-clause-fault : goal.returns-in-Ok-clause-fault
returns-in-Ok-clause-fault g c =
    IfErr-weaker c.build_program.result _ _
    (λ fault wrong.
    not_built_by (texts_of c.args.files.now) (text_of c.args.options.now.run_time)
    (text_of c.args.options.now.build_time) c.args.options.now.budget
    (c.is_budget.ensures.0 c.if-not-is_budget.false) c.in-Ok.program fault c.in-Ok.ensures.program wrong)
    c.build_program.ensures.fault

pub returns-in-Err-clause-fault : goal.returns-in-Err-clause-fault
returns-in-Err-clause-fault g c =
    let texts = texts_of c.args.files.now in
    let run = text_of c.args.options.now.run_time in
    let build = text_of c.args.options.now.build_time in
    let budget = c.args.options.now.budget in
    of_workers (BuildFails texts run build budget) c.fault_of.result
    (not_linked_build texts run build budget (c.is_budget.ensures.0 c.if-not-is_budget.false) c.in-Err.refusal
    c.fault_of.result c.in-Err.ensures.refusal c.fault_of.ensures)

pub returns-then-not-is_budget-clause-fault : goal.returns-then-not-is_budget-clause-fault
returns-then-not-is_budget-clause-fault g c =
    inr (inr (range (wrong_budget c.args.options.now.budget c.is_budget.result c.is_budget.ensures
    c.if-not-is_budget.true)))

pub returns-then-not-can_work-clause-fault : goal.returns-then-not-can_work-clause-fault
returns-then-not-can_work-clause-fault g c = inr (inl refl)

-- ---- the budget

pub returns-in-Ok-clause-budget : goal.returns-in-Ok-clause-budget
returns-in-Ok-clause-budget g c = (
  λ is. absurd (no_workers_is_budget (OptionsFail c.in-Ok.program (text_of c.args.options.now.run_time)
      (text_of c.args.options.now.build_time) c.args.options.now.budget) c.build_program.result
      c.build_program.ensures.fault is),
  λ wrong. absurd (wrong (c.is_budget.ensures.0 c.if-not-is_budget.false)),
)

pub returns-in-Err-clause-budget : goal.returns-in-Err-clause-budget
returns-in-Err-clause-budget g c = (
  λ is. absurd (refused_for_no_budget c.in-Err.refusal c.fault_of.result (Err c.fault_of.result)
      c.fault_of.ensures refl is),
  λ wrong. absurd (wrong (c.is_budget.ensures.0 c.if-not-is_budget.false)),
)

pub returns-then-not-is_budget-clause-budget : goal.returns-then-not-is_budget-clause-budget
returns-then-not-is_budget-clause-budget g c = (
  λ is. wrong_budget c.args.options.now.budget c.is_budget.result c.is_budget.ensures c.if-not-is_budget.true,
  λ wrong. refl,
)

pub returns-then-not-can_work-clause-budget : goal.returns-then-not-can_work-clause-budget
returns-then-not-can_work-clause-budget g c = (
  λ is. absurd (cc),
  λ wrong. absurd (wrong (c.is_budget.ensures.0 c.if-not-is_budget.false)),
)

-- ---- the number of workers

pub returns-in-Ok-clause-workers : goal.returns-in-Ok-clause-workers
returns-in-Ok-clause-workers g c = (
  λ is. absurd (c.build_program.ensures.workers.0 is (c.can_work.ensures.0 c.if-not-can_work.false)),
  λ wrong. absurd (wrong.1 (c.can_work.ensures.0 c.if-not-can_work.false)),
)

pub returns-in-Err-clause-workers : goal.returns-in-Err-clause-workers
returns-in-Err-clause-workers g c = (
  λ is. absurd (refused_for_no_workers c.in-Err.refusal c.fault_of.result (Err c.fault_of.result)
      c.fault_of.ensures refl is),
  λ wrong. absurd (wrong.1 (c.can_work.ensures.0 c.if-not-can_work.false)),
)

pub returns-then-not-is_budget-clause-workers : goal.returns-then-not-is_budget-clause-workers
returns-then-not-is_budget-clause-workers g c = (
  λ is. absurd (cc),
  λ wrong. absurd (wrong_budget c.args.options.now.budget c.is_budget.result c.is_budget.ensures
      c.if-not-is_budget.true wrong.0),
)

pub returns-then-not-can_work-clause-workers : goal.returns-then-not-can_work-clause-workers
returns-then-not-can_work-clause-workers g c = (
  λ is. (
    c.is_budget.ensures.0 c.if-not-is_budget.false,
    wrong_number c.args.workers c.can_work.result c.can_work.ensures c.if-not-can_work.true,
  ),
  λ wrong. refl,
)
