use Rattle.std.proofs.Common.{ap, ◌∙◌}
use Rattle.options.proofs.ListLemmas.{read_all}
use Rattle.options.proofs.ListsLemmas.{list_fails}
use Rattle.options.proofs.patterns.parse.Goals as goal

pub returns-in-Some-clause-fault : goal.returns-in-Some-clause-fault
returns-in-Some-clause-fault c =
    list_fails c.args.list.now (read_all c.as_slice.result.now) c.in-Some.place
    (ap read_all c.as_slice.ensures.value ∙ c.in_ok-items.ensures) c.in-Some.ensures
