use Rattle.std.proofs.Common.{◌∙◌}
use Rattle.std.proofs.lemmas.Result.{on_ok_weaker}
use Rattle.place_set.proofs.FlagsLemmas.{row_kept, room_kept}
use Rattle.place_set.proofs.set.keep_room.Goals as goal

pub returns-clause-same : goal.returns-clause-same
returns-clause-same c x =
    row_kept c.keep_flags.new.flags.items c.args.place.row c.index_mut-row.result.now c.keep_index.new.row
    c.in_ok-keep_flags.ensures.ok c.index_mut-row.ensures.value c.keep_index.ensures.same x
    ∙ c.keep_flags.ensures.same x

pub returns-clause-ok : goal.returns-clause-ok
returns-clause-ok c =
    on_ok_weaker c.keep_index.result
    (room_kept c.keep_flags.new.flags.items c.args.place c.keep_index.new.row c.in_ok-keep_flags.ensures.ok)
    c.keep_index.ensures.ok
