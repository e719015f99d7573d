use Rattle.options.specs.steps.Covering.{IsCoveredClass}
use Rattle.options.proofs.MatchedLemmas.{flagged_alone}
use Rattle.options.proofs.matching.flags_of.Goals as goal

pub returns-in-Ok-clause-flags : goal.returns-in-Ok-clause-flags
returns-in-Ok-clause-flags c =
    flagged_alone (IsCoveredClass c.args.names.now c.args.ends.now) _ c.in-Ok.flags.items c.covered_flags.result.items
    c.in-Ok.ensures c.covered_flags.ensures
