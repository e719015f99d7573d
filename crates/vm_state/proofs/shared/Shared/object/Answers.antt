use Rattle.std.proofs.Common.{◌∙◌, ap}
use Rattle.std.specs.Prelude.{option_map}
use Rattle.vm_state.specs.declared.kept.Kept.{Kept}
use Rattle.vm_state.proofs.KeptLemmas.{class_of_kept, slots_of_kept}
use Rattle.vm_state.proofs.shared.Shared.object.Goals as goal

pub returns-clause-class : goal.returns-clause-class
returns-clause-class c p = ap (option_map (λ (o : Kept). o.class)) (c.kept.ensures p) ∙ class_of_kept _

pub returns-clause-slots : goal.returns-clause-slots
returns-clause-slots c p = ap (option_map (λ (o : Kept). o.slots)) (c.kept.ensures p) ∙ slots_of_kept _
