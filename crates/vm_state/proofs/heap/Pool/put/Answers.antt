use Rattle.std.proofs.Common.{◌≡◌, ◌∙◌, ◌≤◌, ◌<◌, length, ◌++◌, ◌∷◌, [], ℕ, List, sym, subst, ap, arith, rules}
use Rattle.built_in.specs.declared.class_id.ClassId.{ClassId}
use Rattle.vm_state.specs.declared.object.Object.{Object}
use Rattle.vm_state.specs.declared.object.Monitor.{Monitor}
use Rattle.vm_state.specs.declared.object.Monitor.TheVariants.{Free}
use Rattle.vm_state.specs.declared.kept.Kept.{Kept}
use Rattle.vm_state.specs.Objects.{AscendsFrom, HeldObjects}
use Rattle.vm_state.specs.steps.Objects.{numbers_in, objects_of, with_monitor_in}
use Rattle.vm_state.specs.steps.Owners.{monitor_in}
use Rattle.vm_state.proofs.KeptLemmas.{ascends_so, ascends_with, last_below, others_same, owned_now, held_more}
use Rattle.vm_state.proofs.KeptLemmas.{same_objects, still_free}
use Rattle.vm_state.proofs.heap.Pool.put.Goals as goal

pub invariant_of-self-in_err-push_kept : goal.invariant_of-self-in_err-push_kept
invariant_of-self-in_err-push_kept c =
    let v = c.self.inside.owners in
    let w = c.set.new.self in
    let later = c.self.inside.later.items in
    let kept = c.self.inside.kept.items in
    let count = c.self.inside.count in
    let number = c.args.number in
    let object = c.args.object in
    let up : AscendsFrom 0 (objects_of v (numbers_in later kept) kept ++ (number, object) ∷ []) count =
    subst (λ (r : HeldObjects). AscendsFrom 0 (r.objects ++ (number, object) ∷ []) r.count)
    (sym c.self.view_is) c.requires in
    let below : number < count = last_below 0 (objects_of v (numbers_in later kept) kept) count number object up in
    let free : (k : ℕ) → count ≤ k → monitor_in w k ≡ Free =
    still_free v w number count object.monitor c.in_ok-set.ensures.ok below c.self.invariant.2 in
    let same = c.in_err-push_kept.ensures.err in
    let old = ascends_so v w 0 (numbers_in later kept) kept count c.self.invariant.0 in
    let laters = ap (λ (ls : List ℕ). length ls) same.0 in
    let objects = ap (λ (ks : List Kept). length ks) same.1 in (
      subst (λ (ls : List ℕ). AscendsFrom 0 (objects_of w (numbers_in ls c.push_kept.new.kept.items)
          c.push_kept.new.kept.items) count) (sym same.0)
          (subst (λ (ks : List Kept). AscendsFrom 0 (objects_of w (numbers_in later ks) ks) count)
          (sym same.1) old),
      omega (arith, c.self.invariant.1, laters, objects),
      free,
      omega (arith, c.self.invariant.3, laters, objects),
    )

pub invariant_of-self-2 : goal.invariant_of-self-2
invariant_of-self-2 c =
    let v = c.self.inside.owners in
    let w = c.set.new.self in
    let later = c.self.inside.later.items in
    let kept = c.self.inside.kept.items in
    let count = c.self.inside.count in
    let number = c.args.number in
    let object = c.args.object in
    let up : AscendsFrom 0 (objects_of v (numbers_in later kept) kept ++ (number, object) ∷ []) count =
    subst (λ (r : HeldObjects). AscendsFrom 0 (r.objects ++ (number, object) ∷ []) r.count)
    (sym c.self.view_is) c.requires in
    let below : number < count = last_below 0 (objects_of v (numbers_in later kept) kept) count number object up in
    let free : (k : ℕ) → count ≤ k → monitor_in w k ≡ Free =
    still_free v w number count object.monitor c.in_ok-set.ensures.ok below c.self.invariant.2 in
    let is = c.in_ok-push_kept.ensures.ok in (
      subst (λ (os : List (ℕ × Object)). AscendsFrom 0 os count)
          (sym (held_more w later kept number _ _ _ c.self.invariant.1 is))
          (ascends_with v w 0 (numbers_in later kept) kept count number object _ up),
      is.fits,
      free,
      search rules,
    )

pub returns : goal.returns
returns c =
    let v = c.self.inside.owners in
    let w = c.set.new.self in
    let later = c.self.inside.later.items in
    let kept = c.self.inside.kept.items in
    let count = c.self.inside.count in
    let number = c.args.number in
    let object = c.args.object in
    let os : List (ℕ × Object) = objects_of v (numbers_in later kept) kept in
    let up : AscendsFrom 0 (os ++ (number, object) ∷ []) count =
    subst (λ (r : HeldObjects). AscendsFrom 0 (r.objects ++ (number, object) ∷ []) r.count)
    (sym c.self.view_is) c.requires in
    let set = c.in_ok-set.ensures.ok in
    let is = c.in_ok-push_kept.ensures.ok in
    ap (λ (all : List (ℕ × Object)). record { count = count; objects = all })
    (held_more w later kept number _ _ _ c.self.invariant.1 is
    ∙ (ap (λ (all : List (ℕ × Object)). all ++ (
      number,
      with_monitor_in w number
          (record { class = c.of.result; slots = object.slots }),
    ) ∷ [])
    (same_objects v w 0 (numbers_in later kept) kept count number object up (others_same v w number object.monitor set))
    ∙ (ap (λ (m : Monitor). os ++ (number, record { class = c.of.result; slots = object.slots; monitor = m }) ∷ [])
    (owned_now v w number object.monitor set)
    ∙ ap (λ (class : ClassId). os ++ (number, record { class = class; slots = object.slots; monitor = object.monitor })
    ∷ []) c.of.ensures)))
    ∙ ap (λ (r : HeldObjects). record r { objects = r.objects ++ (number, object) ∷ [] }) c.self.view_is
