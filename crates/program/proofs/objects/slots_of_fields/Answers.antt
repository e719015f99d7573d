use Rattle.program.proofs.SlotLawsLemmas.{slot_holds, superclass_first}
use Rattle.program.proofs.objects.slots_of_fields.Goals as goal

pub returns : goal.returns
returns c = record { kinds = slot_holds; superclass = superclass_first }
