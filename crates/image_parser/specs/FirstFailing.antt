-- One part after the other: the first of them that fails.
use Rattle.std.specs.Prelude.{zero, suc, ℕ, List, [], ◌∷◌, replicate}
use Rattle.classfile.specs.Faults.{Either}

-- so many times
abbrev pub times : ℕ → List (Unit {0})
times n = replicate n tt

-- the first of some parts that fails, each by what is wanted there
abbrev pub EachFails : {K X E : Type 0} → (K → X → List ℕ → Type 0) → (K → List ℕ → E → Type 0) → List K → List ℕ → E
    → Type 0
EachFails Spells Fails [] bytes fault = ⊥
EachFails Spells Fails (k ∷ ks) bytes fault =
    Either (Spells k) (Fails k) (λ x. EachFails Spells Fails ks) bytes fault

-- The first of so many that fails, where each is read by what the one before leads to.
abbrev pub ChainFails : {S X E : Type 0} → (S → X → List ℕ → Type 0) → (S → List ℕ → E → Type 0) → (X → S) → ℕ → S
    → List ℕ → E → Type 0
ChainFails Spells Fails next zero s bytes fault = ⊥
ChainFails Spells Fails next (suc n) s bytes fault =
    Either (Spells s) (Fails s) (λ x. ChainFails Spells Fails next n (next x)) bytes fault
