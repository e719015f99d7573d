use Rattle.std.proofs.Common.{◌∙◌, ℕ, sym, subst, arith}
use Rattle.std.specs.List.{Contains}
use Rattle.graph.specs.Rows.{successors_of}
use Rattle.std.proofs.lemmas.Option.{slice_get_within}
use Rattle.use_graph.specs.steps.CallGraphs.{IsEdge, calls, selects}
use Rattle.use_graph.proofs.PartsLemmas.{is_vertex, one_step, two_steps, leading, leads_by_group, leads_straight}
use Rattle.use_graph.proofs.call_graph.add_named.Goals as goal

pub returns-in_ok-add_edge-in-Some : goal.returns-in_ok-add_edge-in-Some
returns-in_ok-add_edge-in-Some c =
    let P = c.args.program.now in
    let methods = c.args.numbers.now in
    let group = c.in_ok-add_group-in-Some.ensures in
    let added = c.in_ok-add_edge-in-Some.ensures in
    let step = two_steps group (one_step group.growing added.len added.extends
    (λ t is. subst (λ (v : ℕ). IsEdge P methods c.args.from v) (sym (is ∙ c.group_vertex.ensures))
    (selects c.in-Some.number c.requires.from c.in-Some.ensures c.requires.calls)) added.there) in
    leading step
    (leads_by_group P methods c.add_edge.new.graph c.add_group.new.groups.items c.args.from c.in-Some.number
    c.args.method step.growing.part group.leads c.in-Some.ensures
    (subst (λ (v : ℕ). Contains (successors_of c.add_edge.new.graph c.args.from) v) c.group_vertex.ensures step.leads))

pub returns-in_ok-add_like-in-None : goal.returns-in_ok-add_like-in-None
returns-in_ok-add_like-in-None c =
    let added = c.in_ok-add_like-in-None.ensures in
    one_step c.requires.growing added.len added.extends
    (λ t (y, is, like). calls c.requires.from is (c.requires.calls y.class y.index like))
    (leads_straight c.args.program.now c.args.numbers.now c.add_like.new.graph c.args.from c.args.method added.all)

pub add_group-requires-clause-growing : goal.add_group-requires-clause-growing
add_group-requires-clause-growing c = c.requires.growing

pub add_edge-requires-clause-from : goal.add_edge-requires-clause-from
add_edge-requires-clause-from c =
    is_vertex c.args.from c.requires.caller c.in_ok-add_group-in-Some.ensures.growing c.requires.from

pub add_edge-requires-clause-to : goal.add_edge-requires-clause-to
add_edge-requires-clause-to c =
    omega (
      arith,
      c.group_vertex.ensures,
      c.in_ok-add_group-in-Some.ensures.growing.part.vertices,
      slice_get_within c.args.numbers.now c.in-Some.number c.args.method c.in-Some.ensures,
    )

pub add_like-requires-clause-from : goal.add_like-requires-clause-from
add_like-requires-clause-from c = is_vertex c.args.from c.requires.caller c.requires.growing c.requires.from

pub add_like-requires-clause-vertices : goal.add_like-requires-clause-vertices
add_like-requires-clause-vertices c = omega (arith, c.requires.growing.part.vertices)
