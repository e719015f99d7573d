use Rattle.std.proofs.Common.{◌≢◌, ◌<◌, ◌≤◌, ◌+◌, ℕ, length, get_or, set, sym, subst, arith, inl, inr, ◌∙◌}
use Rattle.std.proofs.lemmas.Bool.{cases_eq}
use Rattle.std.proofs.lemmas.List.{get_or-set_same, get_or-set_other, length-set}
use Rattle.hierarchy.specs.steps.Answers.{IsAnswer}
use Rattle.hierarchy.specs.declared.answers.Answer.{Answer}
use Rattle.hierarchy.proofs.answers.look.Goals as goal

pub look_at-requires-clause-told : goal.look_at-requires-clause-told
look_at-requires-clause-told c = λ n e name small at numbers.
    c.requires.told n e name _ small at numbers (c.loop-index.invariant.rest c.loop-index.index _ (omega arith)
    (omega (arith, c.loop-index-test.true, c.loop-index.invariant.len))).within

pub loop-index-preserved : goal.loop-index-preserved
loop-index-preserved c =
    let h = c.args.hierarchy.now in
    let declared = c.args.declared.now in
    let answers = c.loop-index.answers in
    let index = c.loop-index.index in
    let answer : Answer = c.look_at.result in
    let small : index < length answers = omega (arith, c.loop-index-test.true, c.loop-index.invariant.len) in
    record {
      len = length-set answers index answer ∙ c.loop-index.invariant.len;
      mask = c.changed_to-mask.ensures.mask;
      done = λ i d low. elim (cases_eq i index) [
        | inl same ↦
            subst (λ (j : ℕ). IsAnswer h c.args.wanted declared (c.args.start + 64)
            (get_or (set answers index answer) j d))
            (sym same)
            (subst (IsAnswer h c.args.wanted declared (c.args.start + 64))
            (sym (get_or-set_same answers index answer d small)) c.look_at.ensures)
        | inr other ↦
            subst (IsAnswer h c.args.wanted declared (c.args.start + 64))
            (sym (get_or-set_other answers index i answer d other))
            (c.loop-index.invariant.done i d (below i index other low))
      ];
      rest = λ i d high within.
          subst (IsAnswer h c.args.wanted declared c.args.start)
          (sym (get_or-set_other answers index i answer d (above i index high)))
          (c.loop-index.invariant.rest i d (omega (arith, high))
          (omega (arith, within, length-set answers index answer)));
    }
  where
    below : (i index : ℕ) → i ≢ index → i < index + 1 → i < index
    below i index other low = omega (arith, other, low)

    above : (i index : ℕ) → index + 1 ≤ i → i ≢ index
    above i index high same = omega (arith, high, same)
