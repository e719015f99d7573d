-- The wave of a class is one number, it is above the waves of the class's uses, and each accepted class has one.
use Rattle.std.proofs.Common.{◌≡◌, ℕ, zero, suc, max, ◌<◌, List, [], ◌∷◌, Contains, refl, ap₂, ap, arith}
use Rattle.vm_state.specs.SharedState.{Region}
use Rattle.semantics.specs.Programs.{Program}
use Rattle.semantics.specs.Acceptance.{Analysis, above, IsWave, Over, IsLower, Accepted, Accepts}
use Rattle.semantics.proofs.BranchesLemmas.{value_in}

-- ---- lists of classes

pub Contains-nil : (c : ℕ) → Contains [] c → ⊥
Contains-nil c (k, within, is) = omega arith

pub Contains-first : (c : ℕ) (cs : List ℕ) → Contains (c ∷ cs) c
Contains-first c cs = (0, omega arith, refl)

pub Contains-later : (c d : ℕ) (cs : List ℕ) → Contains cs d → Contains (c ∷ cs) d
Contains-later c d cs (k, within, is) = (suc k, omega arith, is)

above-same : (first second : ℕ → ℕ) (cs : List ℕ) → ((d : ℕ) → Contains cs d → first d ≡ second d)
    → above first cs ≡ above second cs
above-same first second [] same = refl
above-same first second (c ∷ cs) same =
    ap₂ max (ap suc (same c (Contains-first c cs)))
    (above-same first second cs (λ d is. same d (Contains-later c d cs is)))

lt-above : (wave : ℕ → ℕ) (d : ℕ) (cs : List ℕ) → Contains cs d → wave d < above wave cs
lt-above wave d [] is = absurd (Contains-nil d is)
lt-above wave d (c ∷ cs) (zero, within, is) = omega (arith, ap wave is)
lt-above wave d (c ∷ cs) (suc k, within, is) = omega (arith, lt-above wave d cs (k, omega arith, is))

-- ---- waves

-- a class has one wave
pub wave_once : {uses : ℕ → List ℕ} {c m n : ℕ} → IsWave uses c m → IsWave uses c n → m ≡ n
wave_once {uses = uses} (Over c wave below) (Over d other under) =
    above-same wave other (uses c) (λ d is. wave_once (below d is) (under d is))

-- a use is of a lower wave
pub use_lower : {uses : ℕ → List ℕ} {c d m n : ℕ} → Contains (uses c) d → IsWave uses d m → IsWave uses c n → m < n
use_lower {uses = uses} {d = d} is lower (Over c wave below) =
    rw (wave_once lower (below d is)) (lt-above wave d (uses c) is)

-- an accepted class has a wave: it uses nothing, or its uses are of lower waves
pub accepted_wave : (P : Program) (A : Analysis) (c : ℕ) (r : Region) → Accepted P A c r → (n : ℕ) × IsWave A.uses c n
accepted_wave P A c r (Accepts d region env n one allowed some lower known settles within) = by_uses (A.uses c) refl
  where
    by_uses : (cs : List ℕ) → A.uses c ≡ cs → (n : ℕ) × IsWave A.uses c n
    by_uses [] none = (_, Over c (λ d. 0) (λ d is. absurd (Contains-nil d (rw none at is))))
    by_uses (d ∷ cs) are =
        let found = value_in (env d) (some d (rw are (Contains-first d cs))) in
        let below : IsLower A.uses d c = lower d found.0 found.1 in
        (below.1, below.3)
