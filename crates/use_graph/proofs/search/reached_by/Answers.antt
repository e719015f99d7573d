use Rattle.std.proofs.Common.{length, ap, arith}
use Rattle.std.proofs.lemmas.Option.{slice_get_within}
use Rattle.use_graph.proofs.ReachedLemmas.{are_reached, none_run}
use Rattle.use_graph.proofs.search.reached_by.Goals as goal

pub returns-in_ok-reached-in-Some : goal.returns-in_ok-reached-in-Some
returns-in_ok-reached-in-Some c =
    let (m, begins, number) = c.in-Some.ensures in
    are_reached c.args.program.now c.args.graph.now.methods c.args.graph.now.calls c.requires.methods c.requires.calls
    c.args.class m c.in-Some.start begins number c.in_ok-reached-in-Some.reached.items
    c.in_ok-reached-in-Some.ensures.members

pub returns-in_ok-nothing-in-None : goal.returns-in_ok-nothing-in-None
returns-in_ok-nothing-in-None c =
    none_run c.args.program.now c.args.graph.now.methods c.args.class c.in_ok-nothing-in-None.nothing.items
    c.in-None.ensures (ap length c.in_ok-nothing-in-None.ensures.items)

pub reach-requires : goal.reach-requires
reach-requires c =
    let (m, begins, number) = c.in-Some.ensures in
    omega (
      arith,
      c.requires.calls.vertices,
      slice_get_within c.args.graph.now.methods c.in-Some.start (record { class = c.args.class; index = m }) number,
    )
