use Rattle.std.proofs.Common.{arith}
use Rattle.wave_scheduler.specs.Settled.{IsAccepted}
use Rattle.wave_scheduler.specs.Outcomes.{settled_of}
use Rattle.wave_scheduler.proofs.TaintedLemmas.{sees_none, sees_more, over_more, searched_over, low_over}
use Rattle.wave_scheduler.proofs.tainted.Tainted.add_all_refused.Goals as goal

pub loop-class-init : goal.loop-class-init
loop-class-init c = record {
  over = c.requires.over;
  sees = sees_none (settled_of c.args.settled.now) c.args.self.now c.requires.none;
}

pub add_refused-requires-clause-searched : goal.add_refused-requires-clause-searched
add_refused-requires-clause-searched c =
    searched_over (settled_of c.args.settled.now) c.args.self.now.dependents c.args.self.now.first c.loop-class.class
    c.loop-class.self c.requires.few c.loop-class.invariant

pub add_refused-requires-clause-vertex : goal.add_refused-requires-clause-vertex
add_refused-requires-clause-vertex c =
    low_over (settled_of c.args.settled.now) c.args.self.now.dependents c.args.self.now.first c.loop-class.class
    c.loop-class.class c.args.count c.loop-class.self c.requires.vertices (omega arith) c.loop-class.invariant

pub loop-class-preserved : goal.loop-class-preserved
loop-class-preserved c = record {
  over = over_more c.args.self.now.dependents c.args.self.now.first c.loop-class.class
      (¬ IsAccepted (settled_of c.args.settled.now) c.loop-class.class) c.loop-class.self c.add_refused.new.self
      c.loop-class.invariant.over c.in_ok-add_refused.ensures;
  sees = sees_more (settled_of c.args.settled.now) c.loop-class.self c.add_refused.new.self c.loop-class.class
      c.loop-class.invariant.sees c.in_ok-add_refused.ensures;
}
