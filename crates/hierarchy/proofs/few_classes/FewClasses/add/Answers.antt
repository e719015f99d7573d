use Rattle.std.proofs.Common.{◌<◌, length, true, ap, ◌∙◌, List, ℕ, ◌++◌, ◌∷◌, [], arith}
use Rattle.std.proofs.lemmas.List.{take_more_set}
use Rattle.hierarchy.proofs.ClassSetLemmas.{adds_one}
use Rattle.hierarchy.proofs.few_classes.FewClasses.add.Goals as goal

pub returns : goal.returns
returns c = λ _.
    let own = c.self.inside in
    let room : own.count < length own.members = omega (arith, c.self.invariant) in
    adds_one true c.args.self.now _ c.args.class (
      λ has. (let yes = c.has.ensures.1 has in let no = c.if-has.false in cc),
      take_more_set own.members own.count c.args.class room
          ∙ ap (λ (xs : List ℕ). xs ++ c.args.class ∷ []) c.self.view_is,
    )
