use Rattle.std.proofs.Common.{ℕ, ◌<◌}
use Rattle.initializer_analysis.specs.Verdicts.{HasWave}
use Rattle.wave_scheduler.proofs.starting.wave_count.Given as goal

abbrev pub invariant-loop-verdict : goal.invariant-loop-verdict
invariant-loop-verdict l = (c n : ℕ) → c < l.verdict-index → HasWave l.verdicts c n → n < l.count
