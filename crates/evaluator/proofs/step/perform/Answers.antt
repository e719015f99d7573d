use Rattle.std.proofs.Common.{[], arith}
use Rattle.machine.specs.Linked.{program_of}
use Rattle.machine.specs.Table.{row}
use Rattle.region_shape.specs.Regions.{region_of, environment_of}
use Rattle.evaluator.specs.steps.Within.{within, capped}
use Rattle.semantics.specs.Quiet.{quiet_step}
use Rattle.evaluator.specs.steps.BuildTables.{build_of}
use Rattle.evaluator.proofs.WithinLemmas.{within_capped}
use Rattle.evaluator.proofs.StepsLemmas.{performs}
use Rattle.evaluator.proofs.MakesLastLemmas.{row_makes}
use Rattle.evaluator.proofs.step.perform.Goals as goal

pub returns-clause-performs : goal.returns-clause-performs
returns-clause-performs c =
    let P = program_of c.args.given.program.now in
    let env = environment_of c.args.given.regions.now in
    let own = region_of c.args.store.now.own in
    let f = c.args.frame.now in
    let r = row c.args.given.program.now f in
    performs (within P env c.args.given.class c.args.most own 0) (build_of c.execute.new.store) r
    (capped c.args.most (quiet_step P env c.args.given.class f own))
    (within_capped P env c.args.given.class c.args.most r (row_makes c.args.given.program.now f) own 0
    (omega arith)) c.execute.new.frame c.execute.result (c.execute.ensures.gives [])
