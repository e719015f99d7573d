use Rattle.std.proofs.Common.{◌≡◌, length}
use Rattle.use_graph.specs.steps.Bodies.{AreAllBodyUses}
use Rattle.use_graph.specs.steps.LeftOut.{AreKnown}
use Rattle.use_graph.proofs.whole_program.add_bodies.Given as goal

abbrev pub invariant-loop-number : goal.invariant-loop-number
invariant-loop-number l = record {
  known : AreKnown l.program l.numbers l.known;
  len : length l.bodies.items ≡ l.number;
  uses : AreAllBodyUses l.program l.numbers l.bodies.items;
}
