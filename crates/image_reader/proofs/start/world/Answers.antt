use Rattle.std.proofs.Common.{◌≡◌, length, rules}
use Rattle.image_reader.proofs.PlacingLemmas.{started}
use Rattle.image_reader.proofs.start.world.Goals as goal

pub returns-clause-start : goal.returns-clause-start
returns-clause-start c =
    let counted : length c.in_ok-classes.classes.items ≡ c.len.result = search rules in
    let stand = rw c.program-program.ensures at c.in_ok-classes.ensures.classes in
    let lazy = rw c.program-program.ensures at c.in_ok-shared.ensures in
    started c.args.image.now c.args.entries.now c.in_ok-classes.classes.items c.len.result _ _ _ stand counted lazy
    c.in_ok-place_copies.ensures (rw c.as_slice.ensures.value at c.in_ok-start.ensures c.args.image.now.program)
