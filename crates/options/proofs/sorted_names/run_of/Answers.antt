use Rattle.options.proofs.SortedNamesLemmas.{run_is}
use Rattle.options.proofs.sorted_names.run_of.Goals as goal

pub returns : goal.returns
returns c =
    run_is c.args.names.now c.args.outer.now (record { first = c.in_ok-first.first; end = c.in_ok-end.end })
    c.in_ok-first.ensures c.in_ok-end.ensures
