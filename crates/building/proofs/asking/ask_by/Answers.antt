use Rattle.std.proofs.Common.{Bool, List, refl, subst, sym}
use Rattle.std.proofs.lemmas.Result.{IfErr-weaker, IfOk-weaker}
use Rattle.options.specs.Classes.{AreClasses, IsForced}
use Rattle.options.specs.Faults.{DemandFails, PatternsFail}
use Rattle.building.specs.Refusals.{ForcingFails, demands, unmatched, wrong}
use Rattle.building.specs.steps.Asking.{Always}
use Rattle.building.proofs.RefusalLemmas.{of_option_by, wider}
use Rattle.building.proofs.asking.ask_by.Goals as goal

pub returns-in-Ok-clause-asked : goal.returns-in-Ok-clause-asked
returns-in-Ok-clause-asked c =
    IfOk-weaker c.ask_forced.result _ _
    (λ asked of. record {
      known = c.in-Ok.ensures.known;
      are = subst (λ (f : List Bool). AreClasses f (IsForced c.args.program.now.family c.args.lists.now.run_time))
          (sym of.same) c.in-Ok.ensures.forced;
      of = record {
        same = refl;
        known = of.known;
        demanded = of.demanded;
        apart = of.apart;
        verdicts = of.verdicts;
      };
    })
    c.ask_forced.ensures.asked

pub returns-in-Ok-clause-fault : goal.returns-in-Ok-clause-fault
returns-in-Ok-clause-fault c =
    let P = c.args.program.now in
    let run = c.args.lists.now.run_time in
    let build = c.args.lists.now.build_time in
    IfErr-weaker c.ask_forced.result _ _
    (λ r fails.
    wider {F = DemandFails P.family build c.in-Ok.forced} {G = Always (ForcingFails P run build)} r
    (λ f it budget. demands c.in-Ok.forced c.in-Ok.ensures.known c.in-Ok.ensures.forced (wrong it)) fails)
    c.ask_forced.ensures.fault

pub returns-in-Err-clause-fault : goal.returns-in-Err-clause-fault
returns-in-Err-clause-fault c =
    let P = c.args.program.now in
    let run = c.args.lists.now.run_time in
    let build = c.args.lists.now.build_time in
    wider {F = PatternsFail P.family run} {G = Always (ForcingFails P run build)} c.of_option.result
    (λ f it budget. unmatched it)
    (of_option_by (PatternsFail P.family run) c.in-Err.fault c.of_option.result c.in-Err.ensures.fault
    c.of_option.ensures.memory c.of_option.ensures.other)
