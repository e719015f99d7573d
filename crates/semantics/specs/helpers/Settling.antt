-- Initializers that are refused.
use Rattle.std.specs.Prelude.{ℕ}
use Rattle.semantics.specs.Programs.{Program}
use Rattle.semantics.specs.Quiet.{Environment, Refusal, Refused}
use Rattle.semantics.specs.Settling.{StoppedBy}

-- It is refused for this reason, within this budget. It is said of classes without a reason that is seen in their
-- code.
abbrev pub RefusedBy : Program → Environment → ℕ → ℕ → Refusal → Type 0
RefusedBy P env c budget why = StoppedBy P env c budget (Refused why)
