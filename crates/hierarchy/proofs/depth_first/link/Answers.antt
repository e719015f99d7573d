use Rattle.std.proofs.Common.{ap, ◌∙◌, [], ◌∷◌, ◌≡◌, subst, option_to_list, arith}
use Rattle.std.specs.List.{All, Contains}
use Rattle.loading.specs.Families.{superclasses_in}
use Rattle.hierarchy.proofs.DepthFirstLemmas.{holds_behind, holds_first}
use Rattle.hierarchy.proofs.depth_first.link.Goals as goal

pub returns-in-Some-clause-holds : goal.returns-in-Some-clause-holds
returns-in-Some-clause-holds c = λ placed out came holds.
    let family = c.args.family.now in
    let is : superclasses_in family c.args.class ≡ c.in-Some.above ∷ [] =
    c.given_superclass.ensures.value ∙ ap option_to_list c.in-Some.is in
    let above : Contains placed c.in-Some.above =
    subst (All (Contains placed)) is came 0 0 (omega arith) in
    holds_behind family placed c.args.row.now.first c.args.row.now.behind.items c.args.class holds out
    c.put_behind.new.self.first c.put_behind.new.self.behind.items c.in-Some.above is above c.put_behind.ensures.row

pub returns-in-None-clause-holds : goal.returns-in-None-clause-holds
returns-in-None-clause-holds c = λ placed out came holds.
    let family = c.args.family.now in
    let is : superclasses_in family c.args.class ≡ [] =
    c.given_superclass.ensures.value ∙ ap option_to_list c.in-None.is in
    holds_first family placed c.args.row.now.first c.args.row.now.behind.items c.args.class holds out
    c.put_first.new.self.first c.put_first.new.self.behind.items is c.put_first.ensures.row
