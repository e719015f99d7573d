-- A row that fails no check once an array is made is, within a budget, a quiet row unless it makes more elements.
use Rattle.std.proofs.Common.{◌≡◌, ℕ, ◌+◌, ◌≤◌, Bool, true, false, cond, nat_lt, ◌==◌, List, Option, Some, None, refl}
use Rattle.std.proofs.Common.{arith}
use Rattle.built_in.specs.declared.class_id.ClassId.TheVariants.{Given, BuiltIn, Array}
use Rattle.vm_state.specs.declared.value.Value.{Value}
use Rattle.vm_state.specs.declared.value.Name.{Name}
use Rattle.vm_state.specs.declared.value.Maker.TheVariants.{Class}
use Rattle.vm_state.specs.SharedState.{Region, same_maker, with_field, with_slot, with_new, class_at}
use Rattle.semantics.specs.Rows.{Next, Raise, Halt, Row, Ends, UseClass, ReadStatic, WriteStatic, AskClass, LookInto}
use Rattle.semantics.specs.Rows.{Change, Make, UseMonitor, Print, part_at}
use Rattle.semantics.specs.Programs.{Program}
use Rattle.semantics.specs.Quiet.{Environment, is_final, pool_seen, elements_in, OverBudget, Refused, Conduct}
use Rattle.semantics.specs.Quiet.{Stops, is_open, at_hand, if_fixed, fixed_at, quiet}
use Rattle.evaluator.specs.steps.Within.{within, capped, Moves, MakesLast}

below : (most n : ℕ) → n ≤ most → nat_lt most n ≡ false
below most n h = grind arith

module _ (P : Program) (env : Environment) (c most : ℕ) where
  either : (b : Bool) {x u : Conduct} (y v : Conduct) → x ≡ capped most y → u ≡ capped most v
      → cond b x u ≡ capped most (cond b y v)
  either true y v one other = one
  either false y v one other = other

  in_hand : {A : Type 0} (o : Option A) (go way : A → Conduct) → ((a : A) → go a ≡ capped most (way a))
      → at_hand o go ≡ capped most (at_hand o way)
  in_hand None go way on = refl
  in_hand (Some a) go way on = on a

  fixed : (o : Option (List Value)) (go way : Option (List Value) → Conduct)
      → ((a : Option (List Value)) → go a ≡ capped most (way a)) → if_fixed o go ≡ capped most (if_fixed o way)
  fixed None go way on = refl
  fixed (Some vs) go way on = on (Some vs)

  -- after an array is made
  moved_last : (r : Row) → Moves r → (own : Region) (n : ℕ) →
      cond (nat_lt most n) (Stops (Refused OverBudget)) (within P env c most own n r)
      ≡ capped most (quiet P env c own n r)
  moved_last (Ends (Next move)) h own n = refl
  moved_last (Ends (Raise x class)) h own n = absurd h
  moved_last (Ends (Halt kind)) h own n = absurd h
  moved_last (UseClass d next) h own n = absurd h
  moved_last (ReadStatic d f next) h own n = absurd h
  moved_last (WriteStatic d f v next) h own n = absurd h
  moved_last (AskClass x next) h own n = absurd h
  moved_last (LookInto x part next) h own n = absurd h
  moved_last (Change x i v next) h own n = absurd h
  moved_last (Make class slots next) h own n = absurd h
  moved_last (UseMonitor x enter next) h own n = absurd h
  moved_last (Print text next) h own n = absurd h

  -- after an object is made that is no array
  made_on : (n : ℕ) → n ≤ most → (x u : Conduct) → x ≡ u → cond (nat_lt most n) (Stops (Refused OverBudget)) x ≡ u
  made_on n h x u same = rw (below most n h) same

  abbrev new_name : Region → Name
  new_name own = record { maker = Class c; number = own.pool.count }

  pub within_capped : (r : Row) → MakesLast r → (own : Region) (n : ℕ) → n ≤ most →
      within P env c most own n r ≡ capped most (quiet P env c own n r)
  within_capped (Ends (Next move)) h own n few = rw (below most n few) refl
  within_capped (Ends (Raise x class)) h own n few = refl
  within_capped (Ends (Halt kind)) h own n few = refl
  within_capped (UseClass d next) h own n few =
      let go : within P env c most own n (next true) ≡ capped most (quiet P env c own n (next true)) =
      within_capped (next true) (h true) own n few in
      either (d == c) _ _ go (in_hand (env d) _ _ (λ r. go))
  within_capped (ReadStatic d f next) h own n few =
      either (d == c) _ _ (within_capped (next (own.fields f)) (h (own.fields f)) own n few)
      (in_hand (env d) _ _ (λ r.
      either (is_final P d f) _ _ (within_capped (next (r.fields f)) (h (r.fields f)) own n few) refl))
  within_capped (WriteStatic d f v next) h own n few =
      either (d == c) _ _ (within_capped next h (with_field own f v) n few) refl
  within_capped (AskClass x next) h own n few =
      in_hand (pool_seen env c own x.maker) _ _ (λ p.
      within_capped (next (class_at p x.number)) (h (class_at p x.number)) own n few)
  within_capped (LookInto x part next) h own n few =
      either (same_maker (Class c) x.maker) _ _
      (within_capped (next (part_at part own.pool x.number)) (h (part_at part own.pool x.number)) own n few)
      (either (is_open part) _ _
      (in_hand (pool_seen env c own x.maker) _ _ (λ p.
      fixed (fixed_at P part p x.number) _ _ (λ vs. within_capped (next vs) (h vs) own n few)))
      refl)
  within_capped (Change x i v next) h own n few =
      either (same_maker (Class c) x.maker) _ _
      (within_capped next h (record own { pool = with_slot own.pool x.number i v }) n few) refl
  within_capped (Make (Array a) slots next) h own n few =
      moved_last (next (new_name own)) (h (new_name own))
      (record own { pool = with_new own.pool (Array a) slots }) (n + elements_in (Array a) slots)
  within_capped (Make (Given d) slots next) h own n few =
      made_on (n + 0) (omega (arith, few)) _ _
      (within_capped (next (new_name own)) (h (new_name own))
      (record own { pool = with_new own.pool (Given d) slots }) (n + 0) (omega (arith, few)))
  within_capped (Make (BuiltIn b) slots next) h own n few =
      made_on (n + 0) (omega (arith, few)) _ _
      (within_capped (next (new_name own)) (h (new_name own))
      (record own { pool = with_new own.pool (BuiltIn b) slots }) (n + 0) (omega (arith, few)))
  within_capped (UseMonitor x enter next) h own n few = refl
  within_capped (Print text next) h own n few = refl
