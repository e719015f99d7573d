use Rattle.std.proofs.Common.{ℕ, max, arith, sym, ap, ◌∙◌}
use Rattle.initializer_analysis.specs.steps.Raised.{top_of}
use Rattle.initializer_analysis.proofs.RaisedLemmas.{highest_same, highest_other}
use Rattle.initializer_analysis.proofs.flagged_heights.highest.Goals as goal
use Rattle.initializer_analysis.proofs.flagged_heights.highest.Goals.{then-other-number, else-other-number}

pub loop-vertex-preserved : goal.loop-vertex-preserved
loop-vertex-preserved c =
    let numbers = c.args.components.now.numbers in
    let heights = c.args.heights.now in
    let flagged = c.args.flagged.now in
    let i = c.loop-vertex.vertex-index in
    elim c.if-other-number.branch [
      | then-other-number w ↦ rw w.highest-is
          (highest_other numbers c.args.row.now heights flagged c.args.number c.args.start c.loop-vertex.highest i
          w.max-highest.result (omega arith) (λ e. w.if-other-number.true (c.number-other.ensures ∙ e))
          (w.max-highest.ensures ∙ ap (λ (t : ℕ). max c.loop-vertex.highest t)
          (w.top.ensures ∙ ap (λ (n : ℕ). top_of heights flagged n) c.number-other.ensures))
          c.loop-vertex.invariant)
      | else-other-number w ↦ rw w.highest-is
          (highest_same numbers c.args.row.now heights flagged c.args.number c.args.start c.loop-vertex.highest i
          (omega arith) (sym c.number-other.ensures ∙ w.if-other-number.false) c.loop-vertex.invariant)
    ]
