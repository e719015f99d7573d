use Rattle.std.proofs.Common.{length, refl}
use Rattle.std.proofs.lemmas.Option.{slice_get_read}
use Rattle.hierarchy.proofs.RowLemmas.{row_behind}
use Rattle.hierarchy.proofs.depth_first.LinkedOrder.put_behind.Goals as goal

pub returns-clause-row : goal.returns-clause-row
returns-clause-row c = λ cs row out.
    let behind = c.args.self.now.behind.items in
    let after = c.index-after.result.now in
    row_behind behind c.args.self.now.first cs c.args.above c.args.class after c.requires.above c.requires.class
    (slice_get_read behind (length behind) c.args.above after refl c.requires.above c.index-after.ensures) row out
