-- The regions of accepted classes of lower waves refer to objects of such classes alone; a class's parents are uses.
use Rattle.std.proofs.Common.{◌≡◌, inl, ℕ, true, ◌||◌, ◌==◌, Some, List, arith}
use Rattle.std.proofs.Math.Bool.{or-true}
use Rattle.std.specs.Option.{is_some}
use Rattle.vm_state.specs.SharedState.{Region}
use Rattle.semantics.specs.Rows.{Named}
use Rattle.semantics.specs.Programs.{Program}
use Rattle.semantics.specs.Quiet.{Environment}
use Rattle.semantics.specs.Lawful.{IsLawful}
use Rattle.semantics.specs.Acceptance.{Analysis, IsLower, Accepted, Accepts}
use Rattle.semantics.specs.Soundness.{names_at_hand, HasLower, LowerIsClosed, ParentsAreUsed}
use Rattle.semantics.proofs.PoolsLemmas.{fixed_at-holds}
use Rattle.semantics.proofs.WavesLemmas.{wave_once}
use Rattle.semantics.proofs.WithinNamesLemmas.{KnowsRegion, settled_known}

pub lower_still : (uses : ℕ → List ℕ) (e d c : ℕ) → IsLower uses e d → IsLower uses d c → IsLower uses e c
lower_still uses e d c (m, n, of_e, of_d, less) (k, l, still_d, of_c, more) =
    (m, l, of_e, of_c, omega (arith, wave_once of_d still_d))

module _ (P : Program) (A : Analysis) (lawful : IsLawful P) (env : Environment) (c : ℕ) (has : HasLower P A env c) where
  own_at_hand : (d : ℕ) (r : Region) → env d ≡ Some r → (d == c || is_some (env d)) ≡ true
  own_at_hand d r at = rw at (or-true (d == c))

  accepted_known : {d : ℕ} {r : Region} → Accepted P A d r → IsLower A.uses d c → KnowsRegion (names_at_hand env c) r
  accepted_known {d = d} {r = r} (Accepts e region other n one allowed some lower known settles within) down =
      settled_known P lawful other d (names_at_hand env c)
      (record {
        own = λ k. own_at_hand d r ((has d r).1
            (Accepts e region other n one allowed some lower known settles within, down));
        finals = λ g f s at final. (accepted_known (known g s at)
            (lower_still A.uses g d c (lower g s at) down)).0 f;
        named = λ g k s at. fixed_at-holds (names_at_hand env c) P Named s.pool k
            (accepted_known (known g s at) (lower_still A.uses g d c (lower g s at) down)).1;
      })
      n region settles

pub lower_is_closed_lem : LowerIsClosed
lower_is_closed_lem P A lawful env c has = record {
  finals = λ d f r each at final. (known d r at).0 f;
  named = λ d n r at. fixed_at-holds (names_at_hand env c) P Named r.pool n (known d r at).1;
}
  where
    known : (d : ℕ) (r : Region) → env d ≡ Some r → KnowsRegion (names_at_hand env c) r
    known d r at = let found = (has d r).0 at in accepted_known P A lawful env c has found.0 found.1

pub parents_are_used_lem : ParentsAreUsed
parents_are_used_lem P B A finds apart c p low is = (finds c p low).1 (apart c p low is, inl is)
