use Rattle.std.proofs.Common.{◌≡◌, ◌∙◌, ◌≤◌, ◌<◌, ℕ, List, inl, inr, sym, subst, ap}
use Rattle.std.specs.Prelude.{IsSome, Option}
use Rattle.std.proofs.Math.Path.{fun_ext}
use Rattle.vm_state.specs.declared.object.Object.{Object}
use Rattle.vm_state.specs.declared.object.Monitor.{Monitor}
use Rattle.vm_state.specs.declared.object.Monitor.TheVariants.{Free}
use Rattle.vm_state.specs.Objects.{HeldObjects}
use Rattle.vm_state.specs.Pools.{pool_by}
use Rattle.vm_state.specs.SharedState.{with_monitor}
use Rattle.vm_state.specs.steps.Objects.{numbers_in, objects_of, object_at_place}
use Rattle.vm_state.specs.steps.Owners.{monitor_in}
use Rattle.vm_state.proofs.KeptLemmas.{ascends_so, held_below, owner_changed, still_free}
use Rattle.vm_state.proofs.ShareLemmas.{either_way, if_done}
use Rattle.vm_state.proofs.heap.Pool.set_monitor.Goals as goal

pub invariant_of-self : goal.invariant_of-self
invariant_of-self c =
    let w = c.self.inside.owners in
    let later = c.self.inside.later.items in
    let kept = c.self.inside.kept.items in
    let count = c.self.inside.count in
    let P : HeldObjects → Type 0 = λ r. IsSome (object_at_place r.objects c.in-Some.field-0 c.args.number) in
    let below : c.args.number < count =
    held_below 0 (objects_of w (numbers_in later kept) kept) count c.in-Some.field-0 c.args.number c.self.invariant.0
    (subst P (sym c.self.view_is) c.in-Some.ensures.held) in
    let free : (k : ℕ) → count ≤ k → monitor_in c.set.new.self k ≡ Free =
    elim (either_way c.set.result c.set.ensures.ok c.set.ensures.err) [
      | inl is ↦ still_free w c.set.new.self c.args.number count c.args.monitor is below c.self.invariant.2
      | inr same ↦
          subst (λ (v : List (ℕ × Monitor)). (k : ℕ) → count ≤ k → monitor_in v k ≡ Free) (sym same) c.self.invariant.2
    ] in (
      ascends_so w c.set.new.self 0 (numbers_in later kept) kept count c.self.invariant.0,
      c.self.invariant.1,
      free,
      c.self.invariant.3,
    )

pub returns-in-Some-clause-ok : goal.returns-in-Some-clause-ok
returns-in-Some-clause-ok c =
    let w = c.self.inside.owners in
    let later = c.self.inside.later.items in
    let kept = c.self.inside.kept.items in
    let count = c.self.inside.count in
    if_done c.set.result c.set.ensures.ok (λ is.
    ap (λ (at : ℕ → Option Object). record { count = count; at = at })
    (fun_ext (owner_changed w c.set.new.self (numbers_in later kept) kept c.args.number c.args.monitor is))
    ∙ ap (λ (r : HeldObjects). with_monitor (pool_by r) c.args.number c.args.monitor) c.self.view_is)
