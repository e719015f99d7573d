use Rattle.std.proofs.Common.{ap, ◌∙◌, map}
use Rattle.vm_state.specs.Shares.{shared_of}
use Rattle.init_engine.specs.Standing.{Standing}
use Rattle.init_engine.specs.Threads.{seen_of}
use Rattle.init_engine.proofs.WorldSteps.{map-seen_of}
use Rattle.init_engine.proofs.world.World.seen.Goals as goal

pub returns : goal.returns
unfolding shared_of
returns c = (
  c.in_ok-printed.ensures ∙ ap (λ (s : Standing). s.printed) c.self.view_is,
  c.in_ok-threads.ensures
      ∙ (ap (map seen_of) (c.as_slice.ensures.value ∙ ap (λ (s : Standing). s.threads) c.self.view_is)
      ∙ map-seen_of c.args.self.now.threads),
)
