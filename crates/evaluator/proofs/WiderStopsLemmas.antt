-- With more classes at hand an initializer that is refused is refused for the same reason.
use Rattle.std.proofs.Common.{◌≡◌, ℕ, true, List, Option, Some, None, ◌==◌, refl}
use Rattle.vm_state.specs.declared.value.Value.{Value}
use Rattle.vm_state.specs.declared.frame.Frame.{Frame}
use Rattle.vm_state.specs.declared.value.Maker.TheVariants.{Class}
use Rattle.vm_state.specs.SharedState.{Region, same_maker}
use Rattle.semantics.specs.Rows.{Row, Ends, UseClass, ReadStatic, WriteStatic, AskClass, LookInto, Change, Make}
use Rattle.semantics.specs.Rows.{UseMonitor, Print}
use Rattle.semantics.specs.Rows.{Next, Raise, Halt}
use Rattle.semantics.specs.Programs.{Program}
use Rattle.semantics.specs.Quiet.{Environment, is_final, pool_seen, Refusal, Refused, Conduct, Stops, is_open, at_hand}
use Rattle.semantics.specs.Quiet.{if_fixed, fixed_at, quiet}
use Rattle.semantics.specs.Settling.{StopsBody, Before, At, Making, Inside, NoRoom, AfterCall, StoppedAt, StoppedBy}
use Rattle.semantics.proofs.BranchesLemmas.{on_same}
use Rattle.semantics.proofs.EnvironmentsLemmas.{Extends, pool_seen-wider, quiet-wider, runs-wider}

-- what goes on with what is at hand is refused for the same reason where that is at hand, too
on_hand : {A : Type 0} (o p : Option A) {f g : A → Conduct} {why : Refusal} → ((a : A) → o ≡ Some a → p ≡ Some a)
    → ((a : A) → f a ≡ Stops (Refused why) → g a ≡ Stops (Refused why)) → at_hand o f ≡ Stops (Refused why)
    → at_hand p g ≡ Stops (Refused why)
on_hand None p kept same is = cc
on_hand (Some a) p kept same is = rw (kept a refl) (same a is)

on_part : (o : Option (List Value)) (f g : Option (List Value) → Conduct) {why : Refusal}
    → (f o ≡ Stops (Refused why) → g o ≡ Stops (Refused why)) → if_fixed o f ≡ Stops (Refused why)
    → if_fixed o g ≡ Stops (Refused why)
on_part None f g same is = is
on_part (Some vs) f g same is = same is

module _ (P : Program) (env wider : Environment) (more : Extends env wider) (c : ℕ) where
  refused-wider : (row : Row) (own : Region) (n : ℕ) (why : Refusal) → quiet P env c own n row ≡ Stops (Refused why)
      → quiet P wider c own n row ≡ Stops (Refused why)
  refused-wider (Ends (Next move)) own n why = λ is. is
  refused-wider (Ends (Raise x class)) own n why = λ is. is
  refused-wider (Ends (Halt kind)) own n why = λ is. is
  refused-wider (UseClass d next) own n why =
      on_same (d == c) (refused-wider (next true) own n why)
      (on_hand (env d) (wider d) (more d) (λ r. refused-wider (next true) own n why))
  refused-wider (ReadStatic d f next) own n why =
      on_same (d == c) (refused-wider (next _) own n why)
      (on_hand (env d) (wider d) (more d) (λ r. on_same (is_final P d f) (refused-wider (next (r.fields f)) own n why)
      (λ is. is)))
  refused-wider (WriteStatic d f v next) own n why =
      on_same (d == c) (refused-wider next _ n why) (λ is. is)
  refused-wider (AskClass x next) own n why =
      on_hand (pool_seen env c own x.maker) (pool_seen wider c own x.maker)
      (pool_seen-wider P env wider more c own x.maker) (λ p. refused-wider (next _) own n why)
  refused-wider (LookInto x part next) own n why =
      on_same (same_maker (Class c) x.maker) (refused-wider (next _) own n why)
      (on_same (is_open part)
      (on_hand (pool_seen env c own x.maker) (pool_seen wider c own x.maker)
      (pool_seen-wider P env wider more c own x.maker)
      (λ p. on_part (fixed_at P part p x.number) _ _ (refused-wider (next _) own n why)))
      (λ is. is))
  refused-wider (Change x i v next) own n why =
      on_same (same_maker (Class c) x.maker) (refused-wider next _ n why) (λ is. is)
  refused-wider (Make class slots next) own n why = refused-wider (next _) _ _ why
  refused-wider (UseMonitor x enter next) own n why = λ is. is
  refused-wider (Print text next) own n why = λ is. is

  stops-wider : {f : Frame} {own : Region} {budget : ℕ} (why : Refusal) → StopsBody P env c f own budget (Refused why)
      → StopsBody P wider c f own budget (Refused why)
  stops-wider why Before = Before
  stops-wider why (At {f = f} {own = own} is) = At (refused-wider (P.row f) own 0 why is)
  stops-wider why (Making {f = f} moves over) = Making (quiet-wider P env wider more c (P.row f) _ 0 _ moves) over
  stops-wider why (Inside {f = f} moves deep fits stops) =
      Inside (quiet-wider P env wider more c (P.row f) _ 0 _ moves) deep fits (stops-wider why stops)
  stops-wider why (NoRoom {f = f} moves is body fits full) =
      NoRoom (quiet-wider P env wider more c (P.row f) _ 0 _ moves) is (runs-wider P env wider more c body) fits full
  stops-wider why (AfterCall {f = f} moves is body fits room stops) =
      AfterCall (quiet-wider P env wider more c (P.row f) _ 0 _ moves) is (runs-wider P env wider more c body) fits room
      (stops-wider why stops)

  pub stopped-wider : (budget : ℕ) (why : Refusal) → StoppedBy P env c budget (Refused why)
      → StoppedBy P wider c budget (Refused why)
  stopped-wider budget why = by_body (P.initializer c)
    where
      by_body : (o : Option Frame) → StoppedAt P env c o budget (Refused why)
          → StoppedAt P wider c o budget (Refused why)
      by_body None stopped = stopped
      by_body (Some f) stopped = stops-wider why stopped
