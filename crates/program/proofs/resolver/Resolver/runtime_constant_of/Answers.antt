use Rattle.std.proofs.Common.{ℕ, List, [], ◌∷◌, Some, ap, subst, ◌∙◌}
use Rattle.program.specs.RuntimePool.{IsRuntimeConstant}
use Rattle.program.specs.steps.GrowingStrings.{Adds}
use Rattle.program.proofs.StringsLemmas.{adds_text}
use Rattle.program.proofs.resolver.Resolver.runtime_constant_of.Goals as goal

pub returns-clause-held : goal.returns-clause-held
returns-clause-held c =
    rw c.in-String.is (IsRuntimeConstant.string (c.in_ok-number.ensures.number ∙ ap Some c.text_at.ensures))

pub returns-clause-gains : goal.returns-clause-gains
returns-clause-gains c =
    let old = c.args.strings.now in
    let added = adds_text old c.add.new.self c.text_at.result.now c.in_ok-number.ensures.same
    c.in_ok-number.ensures.last in
    rw c.in-String.is (record {
      keeps = c.in_ok-number.ensures.keeps;
      distinct = λ apart. c.in_ok-number.ensures.distinct;
      adds = subst (λ (x : List ℕ). Adds old (x ∷ []) c.add.new.self) c.text_at.ensures added;
    })
