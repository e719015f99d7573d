use Rattle.std.proofs.Common.{Bool, List, inl, subst, sym}
use Rattle.std.proofs.lemmas.Result.{IfErr-weaker, IfOk-weaker}
use Rattle.initializer_analysis.specs.Verdicts.{AreVerdicts}
use Rattle.options.specs.Classes.{AreClasses, IsDemanded}
use Rattle.options.specs.Faults.{AreApart, DemandFails}
use Rattle.building.proofs.RefusalLemmas.{of_option_by}
use Rattle.building.proofs.asking.ask_forced.Goals as goal

pub returns-in-Ok-clause-asked : goal.returns-in-Ok-clause-asked
returns-in-Ok-clause-asked c =
    let P = c.args.program.now in
    let patterns = c.args.build_time.now in
    IfOk-weaker c.ask_judged.result _ _
    (λ asked of. record {
      same = of.0;
      known = c.in-Ok.ensures.known;
      demanded =
          subst (λ (d : List Bool). AreClasses d (IsDemanded P.family patterns)) (sym of.1) c.in-Ok.ensures.demanded;
      apart = subst (λ (f : List Bool). AreApart (IsDemanded P.family patterns) f) (sym of.0) c.in-Ok.ensures.apart;
      verdicts = subst (λ (f : List Bool). AreVerdicts P f asked.verdicts) (sym of.0) of.2;
    })
    c.ask_judged.ensures.asked

pub returns-in-Ok-clause-fault : goal.returns-in-Ok-clause-fault
returns-in-Ok-clause-fault c =
    IfErr-weaker c.ask_judged.result _ _ (λ fault memory. inl memory) c.ask_judged.ensures.memory

pub returns-in-Err-clause-fault : goal.returns-in-Err-clause-fault
returns-in-Err-clause-fault c =
    of_option_by (DemandFails c.args.program.now.family c.args.build_time.now c.args.forced) c.in-Err.fault
    c.of_option.result c.in-Err.ensures.fault c.of_option.ensures.memory c.of_option.ensures.other
