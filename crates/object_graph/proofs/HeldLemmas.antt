-- What is reached is held, where regions name objects of one another alone.
use Rattle.std.proofs.Common.{◌≡◌, ℕ, true, Option, Some, None, is_some, option_map, refl, subst}
use Rattle.vm_state.specs.declared.object.Object.{Object}
use Rattle.vm_state.specs.SharedState.{Pool, Region}
use Rattle.semantics.specs.Lawful.{Knows, KnowsSlots}
use Rattle.semantics.specs.Quiet.{Environment}
use Rattle.program.specs.Tables.{Tables}
use Rattle.region_shape.specs.Counts.{is_held, is_there, AreClosed}
use Rattle.object_graph.specs.declared.name_set.ObjectName.{ObjectName}
use Rattle.object_graph.specs.Reached.{reference_to, object_among, object_of, IsReached, static, held}
use Rattle.object_graph.proofs.CutsLemmas.{one_of, seen_as}

module _ (P : Tables) (env : Environment) (closed : AreClosed env) where
  named_held : (c : ℕ) (r : Region) → env c ≡ Some r → (x : ObjectName) → Knows (is_there env c r) (reference_to x)
      → is_some (object_of env x) ≡ true
  named_held c r at x known =
      by (env x.class) (subst (λ (p : Option Pool). is_held p x.number ≡ true) (seen_as env c r at x.class) known)
    where
      by : (o : Option Region) → is_held (option_map (λ (y : Region). y.pool) o) x.number ≡ true
          → is_some (object_among o x.number) ≡ true
      by None h = h
      by (Some q) h = h

  pub reached_held : (x : ObjectName) → IsReached P env x → is_some (object_of env x) ≡ true
  reached_held x (static c (r, at, (k, low, holds))) =
      named_held c r at x (subst (Knows (is_there env c r)) holds ((closed c r at).statics k))
  reached_held x (held {x = z} from (o, at, has)) = by (env z.class) refl at
    where
      by : (w : Option Region) → env z.class ≡ w → object_among w z.number ≡ Some o → is_some (object_of env x) ≡ true
      by None none e = cc
      by (Some r) some e =
          let known =
          subst (λ (y : Option Object). KnowsSlots (is_there env z.class r) (option_map (λ (u : Object). u.slots) y)) e
          ((closed z.class r some).slots z.number) in
          named_held z.class r some x (one_of (Knows (is_there env z.class r)) o.slots (reference_to x) known has)
