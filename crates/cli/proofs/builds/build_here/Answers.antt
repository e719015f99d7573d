use Rattle.std.proofs.Common.{arith, refl, inr, Err}
use Rattle.std.proofs.lemmas.Result.{IfErr-weaker}
use Rattle.building.specs.Builds.{text_of}
use Rattle.building.specs.Refusals.{OptionsFail}
use Rattle.cli.specs.Runs.{texts_of}
use Rattle.cli.specs.Builds.{IsBudget, range}
use Rattle.cli.proofs.BuildLemmas.{is_build, not_built, not_linked_build, no_option_is_budget}
use Rattle.cli.proofs.BuildLemmas.{refused_for_no_budget, wrong_budget}
use Rattle.cli.proofs.builds.build_here.Goals as goal

pub build_program_here-requires : goal.build_program_here-requires
build_program_here-requires c =
    let good : IsBudget c.args.options.now.budget = c.is_budget.ensures.0 c.if-not-is_budget.false in
    omega (arith, good.1)

-- ---- what is built

pub returns-in-Ok-clause-build : goal.returns-in-Ok-clause-build
returns-in-Ok-clause-build c =
    is_build (texts_of c.args.files.now) c.args.options.now c.in-Ok.program c.build_program_here.result
    (c.is_budget.ensures.0 c.if-not-is_budget.false) c.in-Ok.ensures.program c.build_program_here.ensures.build

-- ---- what is refused

pub returns-in-Ok-clause-fault : goal.returns-in-Ok-clause-fault
returns-in-Ok-clause-fault c =
    IfErr-weaker c.build_program_here.result _ _
    (λ fault wrong.
    not_built (texts_of c.args.files.now) (text_of c.args.options.now.run_time) (text_of c.args.options.now.build_time)
    c.args.options.now.budget (c.is_budget.ensures.0 c.if-not-is_budget.false) c.in-Ok.program fault
    c.in-Ok.ensures.program wrong)
    c.build_program_here.ensures.fault

pub returns-in-Err-clause-fault : goal.returns-in-Err-clause-fault
returns-in-Err-clause-fault c =
    not_linked_build (texts_of c.args.files.now) (text_of c.args.options.now.run_time)
    (text_of c.args.options.now.build_time) c.args.options.now.budget
    (c.is_budget.ensures.0 c.if-not-is_budget.false) c.in-Err.refusal c.fault_of.result c.in-Err.ensures.refusal
    c.fault_of.ensures

pub returns-then-not-is_budget-clause-fault : goal.returns-then-not-is_budget-clause-fault
returns-then-not-is_budget-clause-fault c =
    inr (range (wrong_budget c.args.options.now.budget c.is_budget.result c.is_budget.ensures
    c.if-not-is_budget.true))

-- ---- the budget

pub returns-in-Ok-clause-budget : goal.returns-in-Ok-clause-budget
returns-in-Ok-clause-budget c = (
  λ is. absurd (no_option_is_budget (OptionsFail c.in-Ok.program (text_of c.args.options.now.run_time)
      (text_of c.args.options.now.build_time) c.args.options.now.budget) c.build_program_here.result
      c.build_program_here.ensures.fault is),
  λ wrong. absurd (wrong (c.is_budget.ensures.0 c.if-not-is_budget.false)),
)

pub returns-in-Err-clause-budget : goal.returns-in-Err-clause-budget
returns-in-Err-clause-budget c = (
  λ is. absurd (refused_for_no_budget c.in-Err.refusal c.fault_of.result (Err c.fault_of.result)
      c.fault_of.ensures refl is),
  λ wrong. absurd (wrong (c.is_budget.ensures.0 c.if-not-is_budget.false)),
)

pub returns-then-not-is_budget-clause-budget : goal.returns-then-not-is_budget-clause-budget
returns-then-not-is_budget-clause-budget c = (
  λ is. wrong_budget c.args.options.now.budget c.is_budget.result c.is_budget.ensures c.if-not-is_budget.true,
  λ wrong. refl,
)
