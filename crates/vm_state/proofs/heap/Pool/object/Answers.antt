use Rattle.std.proofs.Common.{◌∙◌, ap}
use Rattle.std.specs.Prelude.{option_map}
use Rattle.vm_state.specs.declared.kept.Kept.{Kept}
use Rattle.vm_state.proofs.KeptLemmas.{class_of_kept, slots_of_kept}
use Rattle.vm_state.proofs.heap.Pool.object.Goals as goal

pub returns-clause-class : goal.returns-clause-class
returns-clause-class c = ap (option_map (λ (o : Kept). o.class)) c.kept.ensures ∙ class_of_kept _

pub returns-clause-slots : goal.returns-clause-slots
returns-clause-slots c = ap (option_map (λ (o : Kept). o.slots)) c.kept.ensures ∙ slots_of_kept _
