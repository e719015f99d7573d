use Rattle.std.proofs.Common.{sym, ap, ◌∙◌, subst, List}
use Rattle.std.specs.List.{Contains}
use Rattle.hierarchy.specs.declared.reach_table.Reach.{Reach}
use Rattle.hierarchy.specs.declared.reach_table.ReachTable.{ReachTable}
use Rattle.hierarchy.specs.steps.Reaches.{classes_noted, reaches_of}
use Rattle.hierarchy.proofs.NotedLemmas.{noted_told}
use Rattle.hierarchy.proofs.nearest.NearestMembers.noted.Goals as goal

pub returns : goal.returns
returns c = λ family table name class k are numbers has.
    subst (λ (row : List Reach). Contains (classes_noted row) class)
    (sym (c.row.ensures ∙ ap (λ (r : ReachTable). reaches_of r c.args.key) c.rows.ensures))
    (noted_told family table c.args.self.now c.args.wanted name c.args.key class k are numbers has)
