use Rattle.std.proofs.Common.{true, refl}
use Rattle.std.specs.Vec.{with_item}
use Rattle.place_set.proofs.FlagsLemmas.{row_flagged}
use Rattle.place_set.proofs.set.set_flag.Goals as goal

pub returns : goal.returns
returns c =
    row_flagged c.args.flags.now.items c.args.place c.index_mut-row.result.now
    (with_item c.index_mut-row.result.now c.args.place.index true) c.requires c.index_mut-row.ensures.value refl
