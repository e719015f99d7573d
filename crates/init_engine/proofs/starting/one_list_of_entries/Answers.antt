use Rattle.init_engine.proofs.EntryLemmas.{one_list}
use Rattle.init_engine.proofs.starting.one_list_of_entries.Goals as goal

pub returns : goal.returns
returns c = one_list
