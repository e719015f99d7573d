-- What the answer to a thread that asks for a class says of the class's state.
use Rattle.std.proofs.Common.{◌≡◌, ℕ, false, ◌⊎◌, inl, inr, ◌==◌, refl, sym, ap, eqb-true, eq-eqb}
use Rattle.vm_state.specs.declared.classes.ClassState.{ClassState}
use Rattle.vm_state.specs.declared.classes.ClassState.TheVariants.{Uninitialized, InProgress, Initialized, Erroneous}
use Rattle.vm_state.specs.declared.classes.Usability.{Usability}
use Rattle.vm_state.specs.declared.classes.Usability.TheVariants.{Ready, Fresh, Busy, Broken}
use Rattle.vm_state.specs.Statics.{usable}
use Rattle.vm_state.proofs.ListLemmas.{tested}

-- an answer, with its equation
pub used : (u : Usability) → (u ≡ Ready) ⊎ ((u ≡ Fresh) ⊎ ((u ≡ Busy) ⊎ (u ≡ Broken)))
used Ready = inl refl
used Fresh = inr (inl refl)
used Busy = inr (inr (inl refl))
used Broken = inr (inr (inr refl))

pub usable_fresh : (t : ℕ) (s : ClassState) → usable t s ≡ Fresh → s ≡ Uninitialized
usable_fresh t Uninitialized h = refl
usable_fresh t (InProgress u) h = elim (tested (t == u)) [
  | inl e ↦ (let k : Ready ≡ Fresh = rw e at h in cc)
  | inr e ↦ (let k : Busy ≡ Fresh = rw e at h in cc)
]
usable_fresh t Initialized h = cc
usable_fresh t Erroneous h = cc

pub usable_busy : (t : ℕ) (s : ClassState) → usable t s ≡ Busy → (u : ℕ) × (s ≡ InProgress u) × ((t == u) ≡ false)
usable_busy t Uninitialized h = cc
usable_busy t (InProgress u) h = elim (tested (t == u)) [
  | inl e ↦ (let k : Ready ≡ Busy = rw e at h in cc)
  | inr e ↦ (u, refl, e)
]
usable_busy t Initialized h = cc
usable_busy t Erroneous h = cc

pub usable_broken : (t : ℕ) (s : ClassState) → usable t s ≡ Broken → s ≡ Erroneous
usable_broken t Uninitialized h = cc
usable_broken t (InProgress u) h = elim (tested (t == u)) [
  | inl e ↦ (let k : Ready ≡ Broken = rw e at h in cc)
  | inr e ↦ (let k : Busy ≡ Broken = rw e at h in cc)
]
usable_broken t Initialized h = cc
usable_broken t Erroneous h = refl

pub usable_ready : (t : ℕ) (s : ClassState) → usable t s ≡ Ready → (s ≡ Initialized) ⊎ (s ≡ InProgress t)
usable_ready t Uninitialized h = cc
usable_ready t (InProgress u) h = elim (tested (t == u)) [
  | inl e ↦ inr (ap InProgress (sym (eqb-true t u e)))
  | inr e ↦ (let k : Busy ≡ Ready = rw e at h in cc)
]
usable_ready t Initialized h = inl refl
usable_ready t Erroneous h = cc

pub usable_own : (t : ℕ) → usable t (InProgress t) ≡ Ready
usable_own t = rw (eq-eqb t t refl)
