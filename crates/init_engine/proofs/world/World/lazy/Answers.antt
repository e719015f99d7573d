use Rattle.std.proofs.Common.{◌≡◌, length, rules}
use Rattle.init_engine.proofs.StartLemmas.{started_lazily}
use Rattle.init_engine.proofs.world.World.lazy.Goals as goal

pub returns-clause-start : goal.returns-clause-start
returns-clause-start c =
    let counted : length c.in_ok-classes.classes.items ≡ c.len.result = search rules in
    started_lazily c.args.program.now c.args.entries.now c.in_ok-classes.classes.items c.len.result
    c.in_ok-shared.shared _ c.in_ok-classes.ensures.classes counted c.in_ok-shared.ensures
    (rw c.as_slice.ensures.value at c.in_ok-start.ensures c.args.program.now)
