use Rattle.explain.proofs.CallersLemmas.{lead_added}
use Rattle.explain.proofs.paths.path_to.Goals as goal

pub loop-callee-preserved : goal.loop-callee-preserved
loop-callee-preserved c = record {
  here = c.in_ok-callee.ensures.caller.here;
  lead = λ y stands. lead_added c.args.program.now y c.loop-callee.callee.method c.in_ok-callee.callee.method
      c.loop-callee.path.items c.add_call.new.path.items (c.loop-callee.invariant.lead y stands)
      c.in_ok-callee.ensures.call;
}
