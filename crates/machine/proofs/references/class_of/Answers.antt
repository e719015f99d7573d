use Rattle.std.proofs.Common.{ap, sym, ◌∙◌}
use Rattle.semantics.specs.Rows.{AskClass}
use Rattle.machine.specs.ObjectParts.{ask_class_of}
use Rattle.machine.proofs.AccessesLemmas.{leads_at}
use Rattle.machine.proofs.ObjectPartsLemmas.{class_asked}
use Rattle.machine.proofs.references.class_of.Goals as goal

pub returns-in-Some : goal.returns-in-Some
returns-in-Some g c =
    λ p. leads_at g.S.Store.stopped (g.S.Store.run c.args.by (g.S.Store.state c.args.store.now p))
    (g.S.Store.run c.args.by (g.S.Store.state c.args.store.now p)) (AskClass c.in-Some.object)
    (ask_class_of c.args.value) c.class_of.result
    (λ next. ap (g.S.Store.run c.args.by (g.S.Store.state c.args.store.now p))
    (class_asked c.args.value c.in-Some.object next (sym c.name_of.ensures ∙ c.in-Some.is)))
    (c.class_of.ensures p)
