use Rattle.use_graph.proofs.BodiesLemmas.{bodies_more, bodies_count}
use Rattle.use_graph.proofs.whole_program.add_bodies.Goals as goal

pub loop-number-preserved : goal.loop-number-preserved
loop-number-preserved c = record {
  known = c.add_one_body.ensures.known;
  len = bodies_count c.args.program.now c.args.numbers.now c.loop-number.number c.loop-number.bodies.items
      c.add_one_body.new.bodies.items c.loop-number.invariant.len c.in_ok-add_one_body.ensures.uses;
  uses = bodies_more c.args.program.now c.args.numbers.now c.loop-number.number c.loop-number.bodies.items
      c.add_one_body.new.bodies.items c.loop-number.invariant.len c.loop-number.invariant.uses
      c.in_ok-add_one_body.ensures.uses;
}
