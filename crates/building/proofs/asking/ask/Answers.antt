use Rattle.std.proofs.Common.{List, ℕ, subst, IfErr, IfOk}
use Rattle.std.proofs.lemmas.Result.{IfErr-weaker, IfOk-weaker}
use Rattle.building.specs.declared.asking.AskedOptions.{AskedOptions}
use Rattle.building.specs.Builds.{text_of, patterns_in}
use Rattle.building.specs.Refusals.{ForcingFails, ListsFail, OptionsFail, lists, patterns}
use Rattle.building.specs.steps.Asking.{Always, AsksBy}
use Rattle.building.proofs.RefusalLemmas.{of_option_by, wider, IsMemoryOr}
use Rattle.building.proofs.asking.ask.Goals as goal

pub returns-in-Ok-clause-asked : goal.returns-in-Ok-clause-asked
returns-in-Ok-clause-asked c =
    let P = c.args.program.now in
    let run = text_of c.args.options.now.run_time in
    let by_run =
    subst (λ (ps : List (List ℕ)). IfOk c.ask_by.result (λ (a : AskedOptions). AsksBy P ps c.in-Ok.lists.build_time a))
    c.in-Ok.ensures.run_time c.ask_by.ensures.asked in
    let by_both =
    subst (λ (ps : List (List ℕ)). IfOk c.ask_by.result (λ (a : AskedOptions). AsksBy P (patterns_in run) ps a))
    c.in-Ok.ensures.build_time by_run in
    IfOk-weaker c.ask_by.result _ _
    (λ asked by. record { run_list = c.in-Ok.ensures.run_list; build_list = c.in-Ok.ensures.build_list; by = by })
    by_both

pub returns-in-Ok-clause-fault : goal.returns-in-Ok-clause-fault
returns-in-Ok-clause-fault c =
    let P = c.args.program.now in
    let run = text_of c.args.options.now.run_time in
    let build = text_of c.args.options.now.build_time in
    let by_run =
    subst (λ (ps : List (List ℕ)). IfErr c.ask_by.result
    (IsMemoryOr (Always (ForcingFails P ps c.in-Ok.lists.build_time)))) c.in-Ok.ensures.run_time
    c.ask_by.ensures.fault in
    let by_both =
    subst (λ (ps : List (List ℕ)). IfErr c.ask_by.result
    (IsMemoryOr (Always (ForcingFails P (patterns_in run) ps)))) c.in-Ok.ensures.build_time by_run in
    IfErr-weaker c.ask_by.result _ _
    (λ r fails.
    wider {F = Always (ForcingFails P (patterns_in run) (patterns_in build))} {G = Always (OptionsFail P run build)} r
    (λ f it budget. patterns c.in-Ok.ensures.run_list c.in-Ok.ensures.build_list (it budget)) fails)
    by_both

pub returns-in-Err-clause-fault : goal.returns-in-Err-clause-fault
returns-in-Err-clause-fault c =
    let run = text_of c.args.options.now.run_time in
    let build = text_of c.args.options.now.build_time in
    wider {F = ListsFail run build} {G = Always (OptionsFail c.args.program.now run build)} c.of_option.result
    (λ f it budget. lists it)
    (of_option_by (ListsFail run build) c.in-Err.fault c.of_option.result c.in-Err.ensures.fault
    c.of_option.ensures.memory c.of_option.ensures.other)
