use Rattle.std.proofs.Common.{◌≡◌, map, take}
use Rattle.wave_scheduler.specs.steps.Finding.{is_refused}
use Rattle.wave_scheduler.proofs.refused.refused_flags.Given as goal

abbrev pub invariant-loop-verdict : goal.invariant-loop-verdict
invariant-loop-verdict l = l.flags.items ≡ map is_refused (take l.verdict-index l.verdicts)
