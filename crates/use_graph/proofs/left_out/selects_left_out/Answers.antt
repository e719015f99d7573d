use Rattle.std.proofs.Common.{◌↔◌, IsTrue, List, subst}
use Rattle.hierarchy.specs.declared.member.DeclaredMember.{DeclaredMember}
use Rattle.use_graph.specs.steps.LeftOut.{HasLeftOut}
use Rattle.use_graph.proofs.LeftOutLemmas.{listed_left_out}
use Rattle.use_graph.proofs.left_out.selects_left_out.Goals as goal

pub returns : goal.returns
returns c =
    listed_left_out c.args.program.now c.args.method c.new-like.result.items c.add_named_like.new.methods.items
    c.has_left_out.result c.new-like.ensures.items c.in_ok-add_named_like.ensures
    (subst (λ (l : List DeclaredMember). IsTrue c.has_left_out.result ↔ HasLeftOut c.args.program.now l)
    c.deref.ensures.value c.has_left_out.ensures)
