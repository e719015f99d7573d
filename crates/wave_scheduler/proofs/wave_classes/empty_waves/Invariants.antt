use Rattle.std.proofs.Common.{◌≡◌, [], replicate}
use Rattle.graph.specs.Rows.{rows_of}
use Rattle.wave_scheduler.proofs.wave_classes.empty_waves.Given as goal

abbrev pub invariant-loop-wave : goal.invariant-loop-wave
invariant-loop-wave l = rows_of l.waves.items ≡ replicate l._wave []
