-- Which way a quiet instruction went.
use Rattle.std.proofs.Common.{◌≡◌, ◌⊎◌, Bool, true, false, cond, inl, inr, Option, Some, None, refl}
use Rattle.semantics.specs.Quiet.{QuietMove, Conduct, Leaves, at_hand}

pub branch : (b : Bool) {x y : Conduct} {m : QuietMove} → cond b x y ≡ Leaves m
    → ((b ≡ true) × (x ≡ Leaves m)) ⊎ ((b ≡ false) × (y ≡ Leaves m))
branch true h = inl (refl, h)
branch false h = inr (refl, h)

pub at_hand_some : {A : Type 0} (o : Option A) {go : A → Conduct} {m : QuietMove} → at_hand o go ≡ Leaves m
    → (a : A) × (o ≡ Some a) × (go a ≡ Leaves m)
at_hand_some None h = absurd cc
at_hand_some (Some a) h = (a, refl, h)
