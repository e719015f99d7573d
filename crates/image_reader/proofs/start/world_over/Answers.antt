use Rattle.std.proofs.Common.{◌≡◌, length, rules}
use Rattle.image_reader.proofs.PlacingLemmas.{started}
use Rattle.image_reader.proofs.start.world_over.Goals as goal

pub returns-clause-start : goal.returns-clause-start
returns-clause-start c =
    let counted : length c.in_ok-classes.classes.items ≡ c.len.result = search rules in
    started (record { program = c.args.program.now; regions = c.args.regions }) c.args.entries.now
    c.in_ok-classes.classes.items c.len.result _ _ _ c.in_ok-classes.ensures.classes counted c.in_ok-shared.ensures
    c.in_ok-put_regions.ensures (rw c.as_slice.ensures.value at c.in_ok-start.ensures c.args.program.now)
