use Rattle.std.proofs.Common.{refl, arith}
use Rattle.use_graph.specs.steps.CallGraphs.{calls}
use Rattle.use_graph.proofs.PartsLemmas.{is_vertex, calls_fewer, no_step, one_step, leading, leads_to}
use Rattle.use_graph.proofs.call_graph.add_selected.Goals as goal

pub add_named-requires : goal.add_named-requires
add_named-requires c = calls_fewer c.requires (λ e j like. (c.in-Named.ensures e j).1 like)

pub returns-in-Nothing : goal.returns-in-Nothing
returns-in-Nothing c = no_step c.requires.growing (λ e j may number. absurd ((c.in-Nothing.ensures e j).0 may))

pub returns-in_ok-add_edge_to-in-Alone : goal.returns-in_ok-add_edge_to-in-Alone
returns-in_ok-add_edge_to-in-Alone c =
    let member = c.in-Alone.member in
    let added = c.in_ok-add_edge_to-in-Alone.ensures in
    one_step c.requires.growing added.len added.extends
    (λ t is. calls c.requires.from is
    (c.requires.calls member.class member.index ((c.in-Alone.ensures member.class member.index).1 (refl, refl))))
    (λ e j may number.
    let same = (c.in-Alone.ensures e j).0 may in
    leads_to c.args.numbers.now c.add_edge_to.new.graph c.args.from member e j same.0 same.1 added.there number)

pub returns-in_ok-add_named-in-Named : goal.returns-in_ok-add_named-in-Named
returns-in_ok-add_named-in-Named c =
    let added = c.in_ok-add_named-in-Named.ensures in
    leading added (λ e j may number. added.leads e j ((c.in-Named.ensures e j).0 may) number)

pub add_edge_to-requires-clause-from : goal.add_edge_to-requires-clause-from
add_edge_to-requires-clause-from c = is_vertex c.args.from c.requires.caller c.requires.growing c.requires.from

pub add_edge_to-requires-clause-vertices : goal.add_edge_to-requires-clause-vertices
add_edge_to-requires-clause-vertices c = omega (arith, c.requires.growing.part.vertices)
