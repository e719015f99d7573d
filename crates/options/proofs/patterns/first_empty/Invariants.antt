use Rattle.std.proofs.Common.{List, ℕ, map, take, Bor}
use Rattle.std.specs.List.{All}
use Rattle.options.specs.Lists.{IsNonEmpty}
use Rattle.options.proofs.patterns.first_empty.Given as goal

abbrev pub invariant-loop-place : goal.invariant-loop-place
invariant-loop-place l = All IsNonEmpty (take l.place (map (λ (item : Bor (List ℕ)). item.now) l.items))
