use Rattle.std.proofs.Common.{◌∙◌, ap}
use Rattle.vm_state.specs.Segments.{callers_of}
use Rattle.thread_runner.proofs.TopLemmas.{callers_drop}
use Rattle.thread_runner.proofs.top.drop_callers.Goals as goal

pub loop-dropped-preserved : goal.loop-dropped-preserved
loop-dropped-preserved c =
    c.pop.ensures.rest
    ∙ (ap callers_of c.loop-dropped.invariant ∙ callers_drop c.loop-dropped.dropped c.args.callers.now)
