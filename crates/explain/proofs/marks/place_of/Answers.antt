use Rattle.std.proofs.Common.{ℕ, subst, inl, inr, arith}
use Rattle.std.proofs.lemmas.Option.{slice_get_within}
use Rattle.explain.specs.steps.Callers.{StandsAt}
use Rattle.explain.proofs.MarkingLemmas.{below_or}
use Rattle.explain.proofs.marks.place_of.Goals as goal

pub loop-place-preserved : goal.loop-place-preserved
loop-place-preserved c = λ p low stands. elim (below_or p c.loop-place.place low) [
  | inl less ↦ c.loop-place.invariant p less stands
  | inr same ↦
      (let yes = c.stands_at.ensures.1
      (subst (λ (n : ℕ). StandsAt c.args.uses.now.methods c.args.search.now.seen.items n c.args.method) same stands) in
      let no = c.if-stands_at.false in
      cc)
]

pub returns : goal.returns
returns c = λ place (v, at, is).
    let low = slice_get_within c.args.search.now.seen.items place v at in
    c.loop-place.invariant place (omega (arith, low, c.len-place-end.ensures.value)) (v, at, is)
