use Rattle.std.proofs.Common.{sym, subst}
use Rattle.std.proofs.lemmas.Result.{err_from_is_err_and}
use Rattle.graph.specs.Rows.{Rows, IsClosed}
use Rattle.graph.proofs.RowsLemmas.{row_pushed, row_kept, closed_add}
use Rattle.graph.proofs.graph.Graph.add.Goals as goal

pub invariant_of-self : goal.invariant_of-self
invariant_of-self c =
    let same = row_kept c.self.inside.rows.items c.args.self.now c.args.from c.index_mut.result.now c.push.new.self
    c.self.view_is c.requires.from c.index_mut.ensures.value c.in_err-push.ensures.items in
    subst (λ (g : Rows). IsClosed g) (sym same) (subst (λ (g : Rows). IsClosed g) c.self.view_is c.self.invariant)

pub returns-in_err-push-clause-err : goal.returns-in_err-push-clause-err
returns-in_err-push-clause-err c =
    let p = err_from_is_err_and c.from_residual.result c.from_residual.ensures.1 in
    rw (p.1, p.2) (row_kept c.self.inside.rows.items c.args.self.now c.args.from c.index_mut.result.now c.push.new.self
    c.self.view_is c.requires.from c.index_mut.ensures.value c.in_err-push.ensures.items)

pub invariant_of-self-2 : goal.invariant_of-self-2
invariant_of-self-2 c =
    let graph = c.args.self.now in
    let pushed = row_pushed c.self.inside.rows.items graph c.args.from c.args.to c.index_mut.result.now c.push.new.self
    c.self.view_is c.requires.from c.index_mut.ensures.value c.in_ok-push.ensures.items in
    subst (λ (g : Rows). IsClosed g) (sym pushed)
    (closed_add graph c.args.from c.args.to c.requires.from c.requires.to
    (subst (λ (g : Rows). IsClosed g) c.self.view_is c.self.invariant))

pub returns-clause-ok : goal.returns-clause-ok
returns-clause-ok c =
    row_pushed c.self.inside.rows.items c.args.self.now c.args.from c.args.to c.index_mut.result.now c.push.new.self
    c.self.view_is c.requires.from c.index_mut.ensures.value c.in_ok-push.ensures.items
