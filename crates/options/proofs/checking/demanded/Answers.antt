use Rattle.options.specs.steps.Unmet.{named}
use Rattle.options.proofs.checking.demanded.Goals as goal

pub returns : goal.returns
returns c = named c.in_ok-name.ensures c.in_ok-used.ensures
