use Rattle.std.proofs.Common.{◌≡◌, None, sym}
use Rattle.loading.specs.Families.{file_in}
use Rattle.object_graph.proofs.StaticsLemmas.{no_statics}
use Rattle.object_graph.proofs.counting.static_count.Goals as goal

pub returns-in-None : goal.returns-in-None
returns-in-None c =
    let none : file_in c.args.program.now.family c.args.class ≡ None = rw c.family.ensures at (sym c.in-None.ensures) in
    sym (no_statics c.args.program.now c.classes-classes.ensures.fits c.args.class none)
