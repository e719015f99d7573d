use Rattle.std.proofs.Common.{◌≡◌, take, replicate}
use Rattle.loading.proofs.naming.leading_brackets.Given as goal

abbrev pub invariant-loop-count : goal.invariant-loop-count
invariant-loop-count l = take l.count l.name ≡ replicate l.count 91
