use Rattle.std.proofs.lemmas.Result.{on_ok_weaker}
use Rattle.region_shape.specs.Regions.{environment_of}
use Rattle.image_parser.proofs.FlagReadsLemmas.{none_added, some_added}
use Rattle.image_parser.proofs.flags.add_region.Goals as goal

pub returns-in-Some : goal.returns-in-Some
returns-in-Some c strings lower told count holds here =
    on_ok_weaker c.put.result
    (λ put. some_added strings lower told c.args.regions.now c.put.new.self c.args.class c.in-Some.region count holds
    (rw c.in-Some.is at here) put)
    c.put.ensures.ok

pub returns-in-None : goal.returns-in-None
returns-in-None c strings lower told count holds here =
    none_added strings lower told (environment_of c.args.regions.now) c.args.class count holds (rw c.in-None.is at here)
