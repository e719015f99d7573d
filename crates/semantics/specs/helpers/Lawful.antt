-- What the frames of a whole stack know and own.
use Rattle.std.specs.Prelude.{ℕ, Bool, List}
use Rattle.std.specs.List.{AllByRecursion}
use Rattle.vm_state.specs.declared.frame.Frame.{Frame}
use Rattle.semantics.specs.Programs.{Program}
use Rattle.semantics.specs.Lawful.{Names, KnowsFrame, OwnsFrame}

abbrev pub KnowsFrames : Names → List Frame → Type 0
KnowsFrames known fs = AllByRecursion (KnowsFrame known) fs

abbrev pub Owns : Program → (ℕ → Bool) → List Frame → Type 0
Owns P own fs = AllByRecursion (OwnsFrame P own) fs
