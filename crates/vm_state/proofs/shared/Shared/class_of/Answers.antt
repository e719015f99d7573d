use Rattle.std.proofs.Common.{◌∙◌, Some, ap}
use Rattle.vm_state.proofs.shared.Shared.class_of.Goals as goal

pub returns-in-Some : goal.returns-in-Some
returns-in-Some c p = ap Some c.id.ensures ∙ c.in-Some.ensures.class p
