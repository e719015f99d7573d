use Rattle.std.proofs.Common.{List, [], sym, subst}
use Rattle.hierarchy.specs.declared.member.DeclaredMember.{DeclaredMember}
use Rattle.use_graph.specs.steps.Growing.{IsLike, IsNumberOf}
use Rattle.use_graph.proofs.EdgesLemmas.{AreListed, all_like, only_like, extends_weaker}
use Rattle.use_graph.proofs.call_graph.add_like.Goals as goal

pub returns-clause-extends : goal.returns-clause-extends
returns-clause-extends c =
    extends_weaker c.args.graph.now c.add_edges_to.new.graph c.args.from
    (IsNumberOf c.args.numbers.now c.deref.result.now) (IsLike c.args.program.now c.args.numbers.now c.args.method)
    (only_like c.args.program.now c.args.numbers.now c.deref.result.now c.args.method
    (subst (λ (like : List DeclaredMember). AreListed c.args.program.now.family c.args.method [] like)
    (sym c.deref.ensures.value)
    (subst (λ (old : List DeclaredMember). AreListed c.args.program.now.family c.args.method old
    c.add_named_like.new.methods.items) c.new-like.ensures.items c.in_ok-add_named_like.ensures)))
    c.in_ok-add_edges_to.ensures.extends

pub returns-clause-all : goal.returns-clause-all
returns-clause-all c =
    all_like c.args.program.now c.args.numbers.now c.deref.result.now c.args.method c.add_edges_to.new.graph c.args.from
    (subst (λ (like : List DeclaredMember). AreListed c.args.program.now.family c.args.method [] like)
    (sym c.deref.ensures.value)
    (subst (λ (old : List DeclaredMember). AreListed c.args.program.now.family c.args.method old
    c.add_named_like.new.methods.items) c.new-like.ensures.items c.in_ok-add_named_like.ensures))
    c.in_ok-add_edges_to.ensures.all
