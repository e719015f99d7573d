use Rattle.hierarchy.proofs.FoundAheadLemmas.{nothing_ahead}
use Rattle.hierarchy.proofs.hierarchy.Hierarchy.found_for.Goals as goal

pub add_asked_ahead-requires : goal.add_asked_ahead-requires
add_asked_ahead-requires c = nothing_ahead c.args.kind c.args.self.now c.new-found.result c.new-found.ensures
