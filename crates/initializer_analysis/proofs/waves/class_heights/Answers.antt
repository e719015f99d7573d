use Rattle.initializer_analysis.proofs.waves.class_heights.Goals as goal

pub returns-clause-heights : goal.returns-clause-heights
returns-clause-heights c =
    let flags = rw c.given_count.ensures.value at c.in_ok-flags.ensures in
    let high = rw c.as_slice.ensures.value at c.in_ok-heights.ensures.heights in
    (c.in_ok-flags.flags.items, flags, high)
