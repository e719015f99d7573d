use Rattle.std.proofs.Common.{◌≡◌, ◌∙◌, ℕ, length, Some, None, true, false, sym, ap, arith}
use Rattle.hierarchy.specs.declared.member.Method.TheVariants as method
use Rattle.explain.proofs.SelectedLemmas.{own_selected, same_given}
use Rattle.explain.proofs.calls.is_selected.Goals as goal

pub returns-then-method-classes : goal.returns-then-method-classes
returns-then-method-classes c = (
  λ yes. absurd (let no : false ≡ true = yes in cc),
  λ may. absurd (let (low, own) =
      own_selected c.args.program.now.family c.args.selected c.args.method.class c.args.method.index may in
      let size = ap length c.classes.ensures.value in
      let also = ap length c.family.ensures in
      omega (arith, low, size, also)),
)

pub returns-in-Some-Given : goal.returns-in-Some-Given
returns-in-Some-Given c =
    let found = c.in-Some-Given.is ∙ ap Some c.in-Some-Given.field-0-is in (
      λ yes. (
        c.args.method.class,
        (let size = ap length c.classes.ensures.value in
            let also = ap length c.family.ensures in
            omega (arith, size, also)),
        (let (of, at) = c.is_same.ensures.0 yes in
            sym c.select.ensures.value ∙ found
            ∙ ap (λ (n : ℕ). Some (method.Given n c.in-Some-Given.index)) of
            ∙ ap (λ (n : ℕ). Some (method.Given c.args.method.class n)) at),
      ),
      λ may.
          let (low, own) =
          own_selected c.args.program.now.family c.args.selected c.args.method.class c.args.method.index may in
          c.is_same.ensures.1 (same_given c.select.result c.in-Some-Given.class c.in-Some-Given.index
          c.args.method.class c.args.method.index found (c.select.ensures.value ∙ own)),
    )

pub returns-in-Some-BuiltIn : goal.returns-in-Some-BuiltIn
returns-in-Some-BuiltIn c = (
  λ yes. absurd (let no : false ≡ true = yes in cc),
  λ may. absurd (let (low, own) =
      own_selected c.args.program.now.family c.args.selected c.args.method.class c.args.method.index may in
      let two : Some (method.BuiltIn c.in-Some-BuiltIn.field-0-0)
      ≡ Some (method.Given c.args.method.class c.args.method.index) =
      sym (c.in-Some-BuiltIn.is ∙ ap Some c.in-Some-BuiltIn.field-0-is) ∙ c.select.ensures.value ∙ own in
      cc),
)

pub returns-in-None : goal.returns-in-None
returns-in-None c = (
  λ yes. absurd (let no : false ≡ true = yes in cc),
  λ may. absurd (let (low, own) =
      own_selected c.args.program.now.family c.args.selected c.args.method.class c.args.method.index may in
      let two : None ≡ Some (method.Given c.args.method.class c.args.method.index) =
      sym c.in-None.is ∙ c.select.ensures.value ∙ own in
      cc),
)
