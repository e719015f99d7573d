-- Flags of the classes that are initialized.
use Rattle.std.proofs.Common.{◌≡◌, ℕ, ◌<◌, List, Bool, true, slice_get, length}
use Rattle.thread_runner.specs.Unshared.{is_flagged}

-- the first n classes are flagged, where they are so
abbrev pub AreFlags : (ℕ → Type 0) → List Bool → ℕ → Type 0
AreFlags S ms n = (length ms ≡ n) × ((c : ℕ) → is_flagged (slice_get ms c) ≡ true → S c)
    × ((c : ℕ) → c < n → S c → is_flagged (slice_get ms c) ≡ true)
