use Rattle.std.proofs.Common.{◌∙◌, sym}
use Rattle.wave_scheduler.proofs.refused.give_first_refused.Goals as goal

pub give_first-requires-clause-count : goal.give_first-requires-clause-count
give_first-requires-clause-count c = c.requires.count ∙ sym c.given_count-count.ensures.value

pub give_first-requires-clause-first : goal.give_first-requires-clause-first
give_first-requires-clause-first c =
    let (flags, refused, firsts) = c.in_ok-first.ensures in
    rw c.as_slice.ensures.value (firsts.count ∙ sym c.given_count-count.ensures.value)

pub returns : goal.returns
returns c = (c.in_ok-first.first.items, c.in_ok-first.ensures, rw c.as_slice.ensures.value at c.give_first.ensures)
