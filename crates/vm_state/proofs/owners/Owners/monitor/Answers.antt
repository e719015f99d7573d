use Rattle.std.proofs.Common.{◌∙◌, ℕ, List, Option, ap, unwrap_or}
use Rattle.vm_state.specs.declared.object.Monitor.{Monitor}
use Rattle.vm_state.specs.declared.object.Monitor.TheVariants.{Free}
use Rattle.vm_state.specs.steps.Owners.{monitor_in}
use Rattle.vm_state.proofs.OwnerLemmas.{found_in}
use Rattle.vm_state.proofs.owners.Owners.monitor.Goals as goal

pub returns-in-Some : goal.returns-in-Some
returns-in-Some c =
    ap (λ (m : Option Monitor). unwrap_or m Free) c.in-Some.ensures.value
    ∙ found_in c.self.inside.owned.entries c.args.number
    ∙ ap (λ (os : List (ℕ × Monitor)). monitor_in os c.args.number) c.self.view_is

pub returns-in-None : goal.returns-in-None
returns-in-None c =
    ap (λ (m : Option Monitor). unwrap_or m Free) c.in-None.ensures.value
    ∙ found_in c.self.inside.owned.entries c.args.number
    ∙ ap (λ (os : List (ℕ × Monitor)). monitor_in os c.args.number) c.self.view_is
