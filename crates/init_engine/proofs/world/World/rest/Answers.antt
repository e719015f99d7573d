use Rattle.init_engine.proofs.world.World.rest.Goals as goal

pub returns : goal.returns
returns c = rw (c.threads.ensures.value, c.shared.ensures) at (c.rest_of.ensures c.args.self.now.printed)
