-- What a test by `and`, or one that chooses, says of its parts.
use Rattle.std.proofs.Common.{◌≡◌, ◌⊎◌, Bool, true, false, cond, ◌&&◌, refl, inl, inr}

-- the second is looked at only where the first holds
pub and_false_where : (a b : Bool) → (a ≡ true → b ≡ false) → (a && b) ≡ false
and_false_where true b h = h refl
and_false_where false b h = refl

pub and_false_first : (a b : Bool) → b ≡ true → (a && b) ≡ false → a ≡ false
and_false_first true b h e = absurd cc
and_false_first false b h e = refl

pub and_false_second : (a b : Bool) → (a && b) ≡ false → a ≡ true → b ≡ false
and_false_second true b e h = e
and_false_second false b e h = absurd cc

-- which of the two was chosen
pub cond_cases : {A : Type 0} (b : Bool) (x y z : A) → cond b x y ≡ z → ((b ≡ true) × (x ≡ z)) ⊎ ((b ≡ false) × (y ≡ z))
cond_cases true x y z e = inl (refl, e)
cond_cases false x y z e = inr (refl, e)
