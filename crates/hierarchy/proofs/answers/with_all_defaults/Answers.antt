use Rattle.std.proofs.Common.{◌+◌, ℕ, take, subst, arith}
use Rattle.hierarchy.specs.MemberLookup.{IsDefault}
use Rattle.hierarchy.specs.steps.Answers.{classes_with}
use Rattle.hierarchy.specs.steps.Defaults.{AreFound}
use Rattle.hierarchy.proofs.AmongLemmas.{read_at}
use Rattle.hierarchy.proofs.AnswersLemmas.{set_there, unset_there, past_there}
use Rattle.hierarchy.proofs.MaskLemmas.{lost_at}
use Rattle.hierarchy.proofs.answers.with_all_defaults.Goals as goal
use Rattle.hierarchy.proofs.answers.with_all_defaults.Goals.{in-Some+then-has_bit, in-Some+else-has_bit, in_default}

pub loop-bit-preserved : goal.loop-bit-preserved
loop-bit-preserved c = λ family name d key bits are.
    let declared = c.args.declared.now in
    let start = c.args.start in
    let bit = c.loop-bit.bit in
    let Is : ℕ → ℕ → Type 0 = IsDefault family name d in
    let before = c.loop-bit.invariant family name d key bits are in
    elim c.match-get.branch [
      | in-Some+then-has_bit w ↦
          rw w.found-is (rw w.and-found.ensures
          (set_there Is declared start key c.args.word bits bit c.loop-bit-test.true c.loop-bit.found before
          w.in-Some.declaration.now
          (read_at declared (start + bit) c.get.result w.in-Some.declaration c.get.ensures.lookup.1
          c.get.ensures.lookup.0 w.in-Some.is)
          (w.has_bit.ensures.0 w.if-has_bit.true)))
      | in-Some+else-has_bit w ↦
          rw w.found-is
          (unset_there Is declared start key c.args.word bits bit c.loop-bit-test.true c.loop-bit.found before
          w.in-Some.declaration.now
          (read_at declared (start + bit) c.get.result w.in-Some.declaration c.get.ensures.lookup.1
          c.get.ensures.lookup.0 w.in-Some.is)
          (λ has. (let clash = w.has_bit.ensures.1 has in let off = w.if-has_bit.false in cc)))
      | in_default w ↦
          rw w.found-is
          (past_there Is declared start key c.args.word bits bit c.loop-bit-test.true c.loop-bit.found before
          (lost_at declared (start + bit) c.get.result c.get.ensures.lookup.0 w.in_default.not-Some))
    ]

pub returns : goal.returns
returns c = λ family name d key bits are.
    subst (λ (m : ℕ). AreFound (IsDefault family name d) (classes_with key (take m c.args.declared.now))
    c.loop-bit.found) (omega (arith, c.loop-bit-test.false, c.loop-bit.auto.bit-end))
    (c.loop-bit.invariant family name d key bits are)
