use Rattle.std.proofs.Common.{refl, subst, sym, arith}
use Rattle.hierarchy.specs.declared.member.DeclaredMember.{DeclaredMember}
use Rattle.use_graph.specs.Code.{MayRunFor}
use Rattle.use_graph.specs.declared.callee.Callee.{Callee}
use Rattle.use_graph.specs.steps.CallGraphs.{calls}
use Rattle.use_graph.proofs.PartsLemmas.{is_vertex, calls_fewer, one_step, leads_to}
use Rattle.use_graph.proofs.call_graph.add_call.Goals as goal

pub returns-in_ok-add_edge_to-in-Exactly : goal.returns-in_ok-add_edge_to-in-Exactly
returns-in_ok-add_edge_to-in-Exactly c =
    let class = c.in-Exactly.class in
    let index = c.in-Exactly.index in
    let member : DeclaredMember = record { class = class; index = index } in
    let added = c.in_ok-add_edge_to-in-Exactly.ensures in
    one_step c.requires.growing added.len added.extends
    (λ t is. calls c.requires.from is (c.requires.calls class index
    (subst (λ (callee : Callee). MayRunFor c.args.program.now callee class index) (sym c.in-Exactly.is) (refl, refl))))
    (λ e j may number.
    let same = subst (λ (callee : Callee). MayRunFor c.args.program.now callee e j) c.in-Exactly.is may in
    leads_to c.args.numbers.now c.add_edge_to.new.graph c.args.from member e j same.0 same.1 added.there number)

pub add_selected-requires : goal.add_selected-requires
add_selected-requires c =
    calls_fewer c.requires
    (λ e j may. subst (λ (callee : Callee). MayRunFor c.args.program.now callee e j) (sym c.in-Selected.is) may)

pub add_edge_to-requires-clause-from : goal.add_edge_to-requires-clause-from
add_edge_to-requires-clause-from c = is_vertex c.args.from c.requires.caller c.requires.growing c.requires.from

pub add_edge_to-requires-clause-vertices : goal.add_edge_to-requires-clause-vertices
add_edge_to-requires-clause-vertices c = omega (arith, c.requires.growing.part.vertices)
