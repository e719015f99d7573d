-- What has gone out where a text did not go out whole.
use Rattle.std.specs.Prelude.{◌≡◌, ◌≢◌, ℕ, ◌≤◌, List, length, take, Option}
use Rattle.std.specs.Io.KnownBytes.{Appends}
use Rattle.sinks.specs.declared.sending.WriteFault.{WriteFault}
use Rattle.sinks.specs.declared.sending.WriteFault.TheVariants as faults

abbrev pub sent_of : WriteFault → ℕ
sent_of (faults.Memory sent) = sent
sent_of (faults.Device sent) = sent

-- The first bytes of a text, as many as the fault says, have gone out to a sink that had got what it had before.
pub record IsBegun (text : List ℕ) (before after : Option (List ℕ)) (fault : WriteFault) : Type 0 where
  pub within : sent_of fault ≤ length text
  pub got : Appends before after (take (sent_of fault) text)

-- the sink's number of failures changed, where the sink is blamed; where memory is, it is the same, and nothing has
-- gone out
abbrev pub HasFailed : ℕ → ℕ → WriteFault → Type 0
HasFailed before after (faults.Memory sent) = (sent ≡ 0) × (after ≡ before)
HasFailed before after (faults.Device sent) = after ≢ before

-- the sink is blamed, and not memory
abbrev pub IsOfDevice : WriteFault → Type 0
IsOfDevice (faults.Memory sent) = ⊥
IsOfDevice (faults.Device sent) = Unit {0}
