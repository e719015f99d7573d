use Rattle.std.proofs.Common.{sym}
use Rattle.use_graph.proofs.SearchingLemmas.{starts}
use Rattle.use_graph.proofs.search.start_of.Goals as goal

pub returns : goal.returns
returns c =
    starts c.args.program.now c.args.graph.now.methods c.args.class c.in_ok-initializer.initializer c.number.result
    c.requires (sym c.in_ok-initializer.ensures) c.number.ensures
