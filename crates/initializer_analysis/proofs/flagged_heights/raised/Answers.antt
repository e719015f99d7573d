use Rattle.std.proofs.Common.{ℕ, slice_index, subst}
use Rattle.graph.specs.Rows.{successors_of}
use Rattle.initializer_analysis.specs.steps.Raised.{IsHighest}
use Rattle.initializer_analysis.proofs.flagged_heights.raised.Goals as goal

pub returns-clause-highest : goal.returns-clause-highest
returns-clause-highest c =
    subst (λ (n : ℕ). IsHighest c.args.components.now.numbers (successors_of c.args.graph.now c.args.vertex)
    c.args.heights.now c.args.flagged.now n (slice_index c.args.heights.now n) c.highest.result)
    c.number-number.ensures (rw c.successors-row.ensures.value at c.highest.ensures)
