use Rattle.machine.specs.Linked.{program_of}
use Rattle.semantics.proofs.RefusalsLemmas.{stop_excludes_lem, one_stop_lem}
use Rattle.region_shape.specs.Regions.{environment_of}
use Rattle.explain.proofs.RerunsLemmas.{told_over}
use Rattle.explain.proofs.reruns.costs_more.Goals as goal

pub returns : goal.returns
returns c =
    told_over stop_excludes_lem one_stop_lem (program_of c.args.program.now) (environment_of c.args.regions.now)
    c.args.class c.args.budget c.in_ok-evaluation.evaluation c.is_over-over.result c.is_over-over.ensures.yes
    c.is_over-over.ensures.no c.in_ok-evaluation.ensures
