use Rattle.std.proofs.Common.{◌≡◌, ℕ, length, map, refl, subst, arith}
use Rattle.std.proofs.lemmas.List.{length-map}
use Rattle.wave_scheduler.specs.Outcomes.{outcome_of}
use Rattle.wave_scheduler.specs.steps.Finding.{GivesFirstBelow}
use Rattle.wave_scheduler.proofs.FindingLemmas.{tells_more}
use Rattle.wave_scheduler.proofs.refused.give_each_first.Goals as goal

pub loop-class-preserved : goal.loop-class-preserved
loop-class-preserved c =
    let now = length-map c.loop-class.verdicts outcome_of in
    let first = length-map c.args.verdicts.now outcome_of in
    tells_more c.args.first.now c.loop-class.class (map outcome_of c.args.verdicts.now) c.loop-class.verdicts
    c.put.new.self c.dependent_verdict-verdict.result _ _ (omega (arith, c.loop-class.invariant.count)) refl
    c.loop-class.invariant (rw c.as_slice.ensures at c.dependent_verdict-verdict.ensures) c.put.ensures

pub returns : goal.returns
returns c =
    let same : c.loop-class.class ≡ length (map outcome_of c.args.verdicts.now) =
    omega (arith, length-map c.args.verdicts.now outcome_of) in
    subst (λ (n : ℕ). GivesFirstBelow c.args.first.now n (map outcome_of c.args.verdicts.now)
    (map outcome_of c.loop-class.verdicts)) same c.loop-class.invariant
