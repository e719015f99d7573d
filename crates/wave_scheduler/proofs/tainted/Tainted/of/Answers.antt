use Rattle.std.proofs.lemmas.Result.{IfOk-weaker}
use Rattle.wave_scheduler.specs.Outcomes.{settled_of}
use Rattle.wave_scheduler.proofs.TaintedLemmas.{tainted_over}
use Rattle.wave_scheduler.proofs.tainted.Tainted.of.Goals as goal

pub returns-in-Ok : goal.returns-in-Ok
returns-in-Ok c =
    IfOk-weaker c.over.result _ _
    (λ t found. tainted_over c.args.program.now c.args.uses.now (settled_of c.args.settled.now) c.in-Ok.dependents
    c.class_vertex-first.result c.given_count.result t c.requires.uses c.in-Ok.ensures c.class_vertex-first.ensures
    c.given_count.ensures.value found) c.over.ensures
