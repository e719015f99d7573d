use Rattle.std.proofs.Common.{ℕ, List, Some, None, sym, subst}
use Rattle.vm_state.specs.declared.object.Monitor.{Monitor}
use Rattle.vm_state.specs.steps.Owners.{IsMonitorSet}
use Rattle.vm_state.proofs.OwnerLemmas.{set_in}
use Rattle.vm_state.proofs.owners.Owners.set.Goals as goal

pub returns-in-Free-clause-ok : goal.returns-in-Free-clause-ok
returns-in-Free-clause-ok c =
    subst (λ (os : List (ℕ × Monitor)). IsMonitorSet os c.remove.new.self.entries c.args.number c.args.monitor)
    c.self.view_is
    (subst (λ (m : Monitor). IsMonitorSet c.self.inside.owned.entries c.remove.new.self.entries c.args.number m)
    (sym c.in-Free.is)
    (set_in c.self.inside.owned c.remove.new.self c.args.number None c.remove.ensures.updates.0))

pub returns-in_ok-insert-in-Owned-clause-ok : goal.returns-in_ok-insert-in-Owned-clause-ok
returns-in_ok-insert-in-Owned-clause-ok c =
    subst (λ (os : List (ℕ × Monitor)). IsMonitorSet os c.insert.new.self.entries c.args.number c.args.monitor)
    c.self.view_is
    (set_in c.self.inside.owned c.insert.new.self c.args.number (Some c.args.monitor)
    c.in_ok-insert-in-Owned.ensures.updates.0)
