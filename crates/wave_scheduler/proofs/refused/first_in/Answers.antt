use Rattle.std.proofs.lemmas.Result.{IfOk-weaker}
use Rattle.wave_scheduler.proofs.FindingLemmas.{flags_are}
use Rattle.wave_scheduler.proofs.refused.first_in.Goals as goal

pub returns : goal.returns
returns c =
    IfOk-weaker c.first_refused.result _ _
    (λ first are. (
      c.in_ok-flags.flags.items,
      flags_are c.args.program.now c.args.settled.now.verdicts c.args.settled.now.regions
          c.in_ok-flags.flags.items c.requires.count (rw c.as_slice.ensures at c.in_ok-flags.ensures),
      rw c.as_slice-2.ensures.value at are,
    ))
    c.first_refused.ensures
