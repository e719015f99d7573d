use Rattle.std.proofs.Common.{◌≡◌, slice_index_or, sym, ap, ◌∙◌, subst}
use Rattle.hierarchy.specs.declared.reach_table.ReachTable.{ReachTable}
use Rattle.hierarchy.specs.steps.Reaches.{GoUp, reaches_of, reaching}
use Rattle.hierarchy.proofs.UpClassesLemmas.{nearest_told}
use Rattle.hierarchy.proofs.nearest.NearestMembers.nearest.Goals as goal

pub returns-clause-nearest : goal.returns-clause-nearest
returns-clause-nearest c = λ family table name are numbers small.
    let place = c.in_ok-place.field-0.now in
    let told = subst (λ (r : ReachTable). GoUp (reaches_of r c.args.key)
    → c.reaching.result ≡ reaching (reaches_of r c.args.key) place) c.rows.ensures c.reaching.ensures in
    nearest_told family table c.args.self.now c.args.wanted name c.args.key c.args.class place c.reaching.result are
    numbers small (ap (λ l. slice_index_or l c.args.class 0) (sym c.deref.ensures.value)
    ∙ sym (c.in_ok-place.ensures.lookup.3.1 0)) told
