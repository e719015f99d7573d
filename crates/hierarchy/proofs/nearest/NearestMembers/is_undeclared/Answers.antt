use Rattle.std.proofs.Common.{sym, ap, ◌∙◌}
use Rattle.hierarchy.specs.steps.Reaches.{reaches_of}
use Rattle.hierarchy.specs.declared.reach_table.ReachTable.{ReachTable}
use Rattle.hierarchy.proofs.UpClassesLemmas.{nothing_told}
use Rattle.hierarchy.proofs.nearest.NearestMembers.is_undeclared.Goals as goal

pub returns : goal.returns
returns c = λ family table name class are numbers yes.
    nothing_told family table c.args.self.now c.args.wanted name c.args.key class are numbers
    (sym (ap (λ (r : ReachTable). reaches_of r c.args.key) c.rows.ensures) ∙ c.lacks.ensures yes)
