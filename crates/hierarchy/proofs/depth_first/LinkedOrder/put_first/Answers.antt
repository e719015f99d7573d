use Rattle.std.proofs.Common.{refl}
use Rattle.hierarchy.proofs.RowLemmas.{set_here, set_aside}
use Rattle.hierarchy.proofs.depth_first.LinkedOrder.put_first.Goals as goal

pub returns-clause-row : goal.returns-clause-row
returns-clause-row c = λ cs row out.
    let behind = c.args.self.now.behind.items in (
      refl,
      c.args.self.now.first,
      set_here behind c.args.class c.args.self.now.first c.requires,
      set_aside behind c.args.self.now.first cs c.args.class c.args.self.now.first row out,
    )
