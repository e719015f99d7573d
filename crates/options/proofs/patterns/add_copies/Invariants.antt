use Rattle.std.proofs.Common.{◌≡◌, List, ℕ, map, take, Bor}
use Rattle.std.specs.String.{string_bytes}
use Rattle.options.proofs.patterns.add_copies.Given as goal

abbrev pub invariant-loop-item : goal.invariant-loop-item
invariant-loop-item l =
    map string_bytes l.texts.items ≡ map (λ (item : Bor (List ℕ)). item.now) (take l.item-index l.items)
