-- Lists seen as functions of indices, with a value past the end.
use Rattle.std.proofs.Common.{◌≡◌, ◌≢◌, ℕ, ◌<◌, ◌⊎◌, inl, inr, Bool, true, false, List, length, get_or, slice_set, refl}
use Rattle.std.proofs.Common.{sym, ◌∙◌, ◌==◌, eqb-true, eq-eqb, if◌then◌else◌, get_or-set_same, get_or-set_other}

pub tested : (b : Bool) → (b ≡ true) ⊎ (b ≡ false)
tested true = inl refl
tested false = inr refl

pub unequal : (i j : ℕ) → (i == j) ≡ false → i ≢ j
unequal i j e q = let clash : false ≡ true = sym e ∙ eq-eqb i j q in cc

-- an item written
pub get_or-slice_set : {X : Type 0} (xs : List X) (i j : ℕ) (x d : X) → i < length xs
    → get_or (slice_set xs i x) j d ≡ (if j == i then x else get_or xs j d)
get_or-slice_set xs i j x d h = elim (tested (j == i)) [
  | inl e ↦ let same : j ≡ i = eqb-true j i e in rw (e, same) (get_or-set_same xs i x d h)
  | inr e ↦ rw e (get_or-set_other xs i j x d (unequal j i e))
]
