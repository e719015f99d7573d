-- A descriptor that went wrong stays wrong.
use Rattle.std.proofs.Common.{◌≡◌, ℕ, false, List, [], ◌∷◌, refl}
use Rattle.classfile.specs.declared.descriptor.ScanState.TheVariants as states
use Rattle.classfile.specs.reading.Descriptors.{step, scan}

pub bad_stays_bad : (bytes : List ℕ) → scan states.Bad bytes ≡ false
unfolding step
bad_stays_bad [] = refl
bad_stays_bad (b ∷ bs) = bad_stays_bad bs
