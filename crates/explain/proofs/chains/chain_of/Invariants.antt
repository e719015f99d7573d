use Rattle.std.proofs.Common.{◌≡◌, ◌+◌, length}
use Rattle.explain.specs.Chains.{Chained, DependsOn}
use Rattle.explain.proofs.chains.chain_of.Given as goal

abbrev pub invariant-loop : goal.invariant-loop
invariant-loop l = record {
  chain : Chained (DependsOn l.verdicts) l.class l.chain.items l.last;
  len : length l.chain.items ≡ l.counter + 1;
}
