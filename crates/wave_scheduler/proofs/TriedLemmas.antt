-- A class that is tried is not barred: the regions at hand in a wave are closed, and all that its code may use is
-- there.
use Rattle.std.proofs.Common.{◌≡◌, ℕ, zero, suc, ◌<◌, true, ◌||◌, ◌==◌}
use Rattle.std.proofs.Common.{Some, is_some, arith}
use Rattle.std.proofs.Math.Bool.{or-true}
use Rattle.vm_state.specs.SharedState.{Region}
use Rattle.semantics.specs.Soundness.{names_at_hand, IsClosed}
use Rattle.semantics.specs.Rows.{Named}
use Rattle.semantics.proofs.PoolsLemmas.{fixed_at-holds}
use Rattle.semantics.proofs.WithinNamesLemmas.{KnowsRegion, settled_known}
use Rattle.machine.specs.Linked.{program_of}
use Rattle.machine.proofs.LawsLemmas.{table_is_lawful_lem}
use Rattle.program.specs.Programs.{IsProgram}
use Rattle.program.specs.Tables.{Tables}
use Rattle.use_graph.specs.Uses.{IsUse}
use Rattle.use_graph.proofs.LawsLemmas.{stops_by_code_lem}
use Rattle.wave_scheduler.specs.Settled.{Settled, HasWave, region_in, below}
use Rattle.wave_scheduler.specs.Laws.{AreSettledBelow, NeverBarred}
use Rattle.wave_scheduler.proofs.SettledLemmas.{below_there, from_below}

module _ (P : Tables) (is : IsProgram P) (budget : ℕ) (S : Settled) (n : ℕ) (are : AreSettledBelow P budget S n)
    (c : ℕ) where
  own_at_hand : (d : ℕ) (r : Region) → below S n d ≡ Some r → (d == c || is_some (below S n d)) ≡ true
  own_at_hand d r at = rw at (or-true (d == c))

  region_known : (limit m d : ℕ) (r : Region) → m < limit → m < n → HasWave S d m → region_in S d ≡ Some r
      → KnowsRegion (names_at_hand (below S n) c) r
  region_known zero m d r small low at here = absurd (omega arith)
  region_known (suc limit) m d r small low at here =
      let (cost, settles, fits) = are d m r low at here in
      settled_known (program_of P) (table_is_lawful_lem P is) (below S m) d (names_at_hand (below S n) c)
      (record {
        own = λ k. own_at_hand d r (below_there S n d m r at here low);
        finals = λ g f s has final. (let (j, also, less, region) = from_below S m g s has in
            (region_known limit j g s (omega arith) (omega arith) also region).0 f);
        named = λ g k s has. (let (j, also, less, region) = from_below S m g s has in
            fixed_at-holds (names_at_hand (below S n) c) (program_of P) Named s.pool k
            (region_known limit j g s (omega arith) (omega arith) also region).1);
      })
      cost r settles

  closed : IsClosed (program_of P) (IsUse P c) (below S n) c
  closed = record {
    finals = λ d f r used at final. (known d r at).0 f;
    named = λ d k r at.
        fixed_at-holds (names_at_hand (below S n) c) (program_of P) Named r.pool k (known d r at).1;
  }
    where
      known : (d : ℕ) (r : Region) → below S n d ≡ Some r → KnowsRegion (names_at_hand (below S n) c) r
      known d r at =
          let (m, has, less, region) = from_below S n d r at in
          region_known (suc m) m d r (omega arith) less has region

pub never_barred_lem : NeverBarred
never_barred_lem P budget S n is fits within are c low unmarked some stop stopped =
    stops_by_code_lem P is fits within (below S n) c low (λ mark barring has. unmarked mark has) some
    (closed P is budget S n are c) budget stop stopped
