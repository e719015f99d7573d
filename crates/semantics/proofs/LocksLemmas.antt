-- What a monitor answers, by cases.
use Rattle.std.proofs.Common.{◌≡◌, Bool, ◌⊎◌, inl, inr, refl}
use Rattle.vm_state.specs.declared.object.Monitor.{Monitor}
use Rattle.semantics.specs.Rows.{Lock, Blocked, Answered}

pub locked : (l : Lock) → (l ≡ Blocked) ⊎ ((done : Bool) × (m : Monitor) × (l ≡ Answered done m))
locked Blocked = inl refl
locked (Answered done m) = inr (done, m, refl)
