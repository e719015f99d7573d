use Rattle.std.proofs.Common.{◌≡◌, ◌≢◌, ℕ, take}
use Rattle.std.specs.List.{All}
use Rattle.journal.proofs.line.cut.Given as goal

abbrev pub invariant-loop-place : goal.invariant-loop-place
invariant-loop-place l = All (λ b. b ≢ l.mark) (take l.place l.bytes)
