use Rattle.machine.proofs.LawsLemmas.{linked_tables_are_sound_lem}
use Rattle.machine.proofs.laws.linked_tables_are_sound.Goals as goal

pub returns : goal.returns
returns c = linked_tables_are_sound_lem
