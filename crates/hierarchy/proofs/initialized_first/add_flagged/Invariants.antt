use Rattle.std.proofs.Common.{◌≡◌, ◌<◌, ◌++◌, false, length, get_or, take}
use Rattle.std.specs.List.{All, filter}
use Rattle.hierarchy.proofs.initialized_first.add_flagged.Given as goal

abbrev pub invariant-loop-index : goal.invariant-loop-index
invariant-loop-index l = record {
  added : l.numbers.items ≡ l.initial.numbers.items ++ filter (λ c. get_or l.flags c false) (take l.index l.seen.items);
  within : All (λ c. c < length l.flags) l.numbers.items;
}
