use Rattle.std.proofs.Common.{◌≡◌, map, take}
use Rattle.explain.specs.steps.Refused.{is_refused}
use Rattle.explain.proofs.chains.refused_by.Given as goal

abbrev pub invariant-loop-verdict : goal.invariant-loop-verdict
invariant-loop-verdict l = l.refused.items ≡ map is_refused (take l.verdict-index l.verdicts)
