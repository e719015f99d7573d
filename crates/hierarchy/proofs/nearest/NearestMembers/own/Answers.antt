use Rattle.std.proofs.Common.{◌∙◌}
use Rattle.hierarchy.proofs.UpClassesLemmas.{own_told}
use Rattle.hierarchy.proofs.nearest.NearestMembers.own.Goals as goal

pub returns : goal.returns
returns c = λ family table name are numbers.
    c.own_of.ensures
    ∙ own_told family table c.args.self.now c.args.wanted name c.args.class c.nearest.result are
    (c.nearest.ensures.nearest family table name are numbers) c.nearest.ensures.past
