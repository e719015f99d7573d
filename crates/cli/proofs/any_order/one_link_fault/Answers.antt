use Rattle.cli.proofs.AnyOrderLemmas.{still_not_linked}
use Rattle.cli.proofs.any_order.one_link_fault.Goals as goal

pub returns : goal.returns
returns c = still_not_linked
