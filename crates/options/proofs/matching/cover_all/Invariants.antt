use Rattle.std.proofs.Common.{map}
use Rattle.std.specs.String.{string_bytes}
use Rattle.options.specs.steps.Covering.{AreCoveredBy}
use Rattle.options.proofs.matching.cover_all.Given as goal

abbrev pub invariant-loop-pattern : goal.invariant-loop-pattern
invariant-loop-pattern l = AreCoveredBy l.names (map string_bytes l.patterns) l.initial.ends l.ends l.pattern-index
