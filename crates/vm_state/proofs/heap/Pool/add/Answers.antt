use Rattle.std.proofs.Common.{◌≡◌, ◌∙◌, ℕ, ◌+◌, ◌++◌, ◌∷◌, [], List, sym, subst, ap, arith, rules}
use Rattle.built_in.specs.declared.class_id.ClassId.{ClassId}
use Rattle.vm_state.specs.declared.object.Object.{Object}
use Rattle.vm_state.specs.declared.object.Monitor.{Monitor}
use Rattle.vm_state.specs.declared.object.Monitor.TheVariants.{Free}
use Rattle.vm_state.specs.Objects.{AscendsFrom, HeldObjects}
use Rattle.vm_state.specs.steps.Objects.{numbers_in, objects_of, with_monitor_in, with_next}
use Rattle.vm_state.proofs.ObjectLemmas.{ascends-more}
use Rattle.vm_state.proofs.KeptLemmas.{held_more}
use Rattle.vm_state.proofs.heap.Pool.add.Goals as goal

pub invariant_of-self-2 : goal.invariant_of-self-2
invariant_of-self-2 c =
    let w = c.self.inside.owners in
    let later = c.self.inside.later.items in
    let kept = c.self.inside.kept.items in
    let count = c.self.inside.count in
    let next : c.in-Some.count ≡ count + 1 = search rules in
    let is = c.in_ok-push_kept.ensures.ok in
    let more = held_more w later kept count _ _ _ c.self.invariant.1 is in
    let up = ascends-more 0 (objects_of w (numbers_in later kept) kept) count (with_monitor_in w count _)
    c.self.invariant.0 in (
      subst (λ (n : ℕ). AscendsFrom 0 (objects_of w (numbers_in c.push_kept.new.later.items c.push_kept.new.kept.items)
          c.push_kept.new.kept.items) n) (sym next)
          (subst (λ (os : List (ℕ × Object)). AscendsFrom 0 os (count + 1)) (sym more) up),
      is.fits,
      λ k h. c.self.invariant.2 k (omega (arith, h, next)),
      search rules,
    )

pub returns-clause-ok : goal.returns-clause-ok
returns-clause-ok c =
    let w = c.self.inside.owners in
    let later = c.self.inside.later.items in
    let kept = c.self.inside.kept.items in
    let count = c.self.inside.count in
    let os : List (ℕ × Object) = objects_of w (numbers_in later kept) kept in
    let next : c.in-Some.count ≡ count + 1 = search rules in
    let more = held_more w later kept count _ _ _ c.self.invariant.1 c.in_ok-push_kept.ensures.ok in
    let free = c.self.invariant.2 count (omega arith) in
    ap (λ (n : ℕ). record {
      count = n;
      objects = objects_of w (numbers_in c.push_kept.new.later.items c.push_kept.new.kept.items)
          c.push_kept.new.kept.items;
    }) next
    ∙ ap (λ (all : List (ℕ × Object)). record { count = count + 1; objects = all }) (more
    ∙ ap (λ (m : Monitor). os ++ (count, record { class = c.of.result; slots = c.args.slots; monitor = m }) ∷ []) free
    ∙ ap (λ (class : ClassId). os ++ (count, record { class = class; slots = c.args.slots; monitor = Free }) ∷ [])
    c.of.ensures)
    ∙ ap (λ (r : HeldObjects). with_next r (record { class = c.args.class; slots = c.args.slots; monitor = Free }))
    c.self.view_is
