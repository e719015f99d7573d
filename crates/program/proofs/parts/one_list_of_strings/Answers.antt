use Rattle.program.proofs.OneListOfStringsLemmas.{one_list_of_strings}
use Rattle.program.proofs.parts.one_list_of_strings.Goals as goal

pub returns : goal.returns
returns c = one_list_of_strings
