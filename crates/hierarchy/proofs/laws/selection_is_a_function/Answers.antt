use Rattle.hierarchy.proofs.SelectionLemmas.{selected_value}
use Rattle.hierarchy.proofs.laws.selection_is_a_function.Goals as goal

pub returns : goal.returns
returns c = λ family class m r fits within selects. selected_value family fits within selects
