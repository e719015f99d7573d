use Rattle.std.proofs.Common.{◌≡◌, length, arith}
use Rattle.std.proofs.lemmas.List.{take_at}
use Rattle.initializer_analysis.proofs.flagged_heights.component_heights.Goals as goal

pub returns-clause-len : goal.returns-clause-len
returns-clause-len c =
    let whole : length c.raise_all.new.heights ≡ c.in_ok-heights.heights.len = omega arith in
    rw take_at (omega (arith, c.in_ok-heights.ensures.len))

pub returns-clause-raised : goal.returns-clause-raised
returns-clause-raised c =
    let whole : length c.raise_all.new.heights ≡ c.in_ok-heights.heights.len = omega arith in
    rw take_at (
      c.in_ok-by_component.by_component.items,
      c.in_ok-by_component.ensures.have,
      (rw c.as_slice.ensures.value at c.raise_all.ensures),
    )
