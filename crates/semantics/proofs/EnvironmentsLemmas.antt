-- With more classes at hand an initializer does the same: what is quiet stays quiet, and leaves the same at the same
-- cost.
use Rattle.std.proofs.Common.{◌≡◌, ℕ, true, Option, Some, None, ◌==◌, option_map, refl}
use Rattle.vm_state.specs.declared.value.Value.{Value}
use Rattle.vm_state.specs.declared.value.Maker.{Maker}
use Rattle.vm_state.specs.declared.value.Maker.TheVariants.{Class, Thread}
use Rattle.vm_state.specs.declared.frame.Frame.{Frame}
use Rattle.vm_state.specs.SharedState.{Pool, Region, same_maker}
use Rattle.semantics.specs.Rows.{Row, Ends, UseClass, ReadStatic, WriteStatic, AskClass, LookInto, Change, Make}
use Rattle.semantics.specs.Rows.{UseMonitor, Print}
use Rattle.semantics.specs.Rows.{Next, Raise, Halt}
use Rattle.semantics.specs.Programs.{Program}
use Rattle.semantics.specs.Quiet.{Environment, is_final, pool_seen, QuietMove, Leaves, is_open}
use Rattle.semantics.specs.Quiet.{fixed_at, quiet}
use Rattle.semantics.specs.Settling.{RunsBody, ByReturn, ByStep, ByCall, SettlesBy, Settles}
use Rattle.semantics.proofs.BranchesLemmas.{on_same, on_value, on_fixed}

-- each class at hand in the first is at hand in the second, with the same region
abbrev pub Extends : Environment → Environment → Type 0
Extends env wider = (d : ℕ) (r : Region) → env d ≡ Some r → wider d ≡ Some r

module _ (P : Program) (env wider : Environment) (more : Extends env wider) (c : ℕ) where
  region_pool-wider : (d : ℕ) (p : Pool) (o : Option Region) → env d ≡ o
      → option_map (λ (r : Region). r.pool) o ≡ Some p →
      option_map (λ (r : Region). r.pool) (wider d) ≡ Some p
  region_pool-wider d p None at is = cc
  region_pool-wider d p (Some r) at is = rw (more d r at) is

  pub pool_seen-wider : (own : Region) (maker : Maker) (p : Pool) →
      pool_seen env c own maker ≡ Some p → pool_seen wider c own maker ≡ Some p
  pool_seen-wider own (Class d) p = on_same (d == c) (λ is. is) (region_pool-wider d p (env d) refl)
  pool_seen-wider own (Thread t) p = λ is. is

  pub quiet-wider : (row : Row) (own : Region) (n : ℕ) (m : QuietMove) →
      quiet P env c own n row ≡ Leaves m → quiet P wider c own n row ≡ Leaves m
  quiet-wider (Ends (Next move)) own n m = λ is. is
  quiet-wider (Ends (Raise x class)) own n m = λ is. is
  quiet-wider (Ends (Halt kind)) own n m = λ is. is
  quiet-wider (UseClass d next) own n m =
      on_same (d == c) (quiet-wider (next true) own n m)
      (on_value (env d) (wider d) (more d) (λ r. quiet-wider (next true) own n m))
  quiet-wider (ReadStatic d f next) own n m =
      on_same (d == c) (quiet-wider (next _) own n m)
      (on_value (env d) (wider d) (more d) (λ r. on_same (is_final P d f) (quiet-wider (next (r.fields f)) own n m)
      (λ is. is)))
  quiet-wider (WriteStatic d f v next) own n m = on_same (d == c) (quiet-wider next _ n m) (λ is. is)
  quiet-wider (AskClass x next) own n m =
      on_value (pool_seen env c own x.maker) (pool_seen wider c own x.maker) (pool_seen-wider own x.maker)
      (λ p. quiet-wider (next _) own n m)
  quiet-wider (LookInto x part next) own n m =
      on_same (same_maker (Class c) x.maker) (quiet-wider (next _) own n m)
      (on_same (is_open part)
      (on_value (pool_seen env c own x.maker) (pool_seen wider c own x.maker) (pool_seen-wider own x.maker)
      (λ p. on_fixed (fixed_at P part p x.number) _ _ (quiet-wider (next _) own n m)))
      (λ is. is))
  quiet-wider (Change x i v next) own n m = on_same (same_maker (Class c) x.maker) (quiet-wider next _ n m) (λ is. is)
  quiet-wider (Make class slots next) own n m = quiet-wider (next _) _ _ m
  quiet-wider (UseMonitor x enter next) own n m = λ is. is
  quiet-wider (Print text next) own n m = λ is. is

  pub runs-wider : {f : Frame} {own last : Region} {n : ℕ} {v : Option Value} →
      RunsBody P env c f own n v last → RunsBody P wider c f own n v last
  runs-wider (ByReturn {f = f} {m = m} moves is) = ByReturn (quiet-wider (P.row f) _ 0 m moves) is
  runs-wider (ByStep {f = f} {m = m} moves is on) = ByStep (quiet-wider (P.row f) _ 0 m moves) is (runs-wider on)
  runs-wider (ByCall {f = f} {m = m} moves is called back on) =
      ByCall (quiet-wider (P.row f) _ 0 m moves) is (runs-wider called) back (runs-wider on)

  pub settles-wider : (n : ℕ) (region : Region) → Settles P env c n region → Settles P wider c n region
  settles-wider n region = by_body (P.initializer c)
    where
      by_body : (o : Option Frame) → SettlesBy P env c o n region → SettlesBy P wider c o n region
      by_body None settled = settled
      by_body (Some f) (v, whole) = (v, runs-wider whole)
