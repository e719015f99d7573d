use Rattle.std.proofs.Common.{ap, ◌∙◌, map}
use Rattle.init_engine.specs.Standing.{Standing}
use Rattle.init_engine.specs.Threads.{seen_of}
use Rattle.init_engine.proofs.WorldSteps.{map-seen_of}
use Rattle.init_engine.proofs.world.World.endings.Goals as goal

pub returns : goal.returns
returns c =
    c.in_ok-threads.ensures
    ∙ (ap (map seen_of) (c.as_slice.ensures.value ∙ ap (λ (s : Standing). s.threads) c.self.view_is)
    ∙ map-seen_of c.args.self.now.threads)
