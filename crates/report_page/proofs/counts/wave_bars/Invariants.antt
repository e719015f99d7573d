use Rattle.std.specs.List.{All}
use Rattle.report_page.specs.Counts.{IsWaveBar}
use Rattle.report_page.proofs.counts.wave_bars.Given as goal

abbrev pub invariant-loop-wave : goal.invariant-loop-wave
invariant-loop-wave l = All (IsWaveBar l.verdicts) l.bars.bars.items
