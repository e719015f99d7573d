use Rattle.std.proofs.Common.{◌≢◌, ◌≡◌, List, MatchOption, subst}
use Rattle.std.specs.List.{All, Contains}
use Rattle.built_in.specs.Keys.{NameAndType}
use Rattle.built_in.specs.Methods.{HasMember, members_of, key_of_member}
use Rattle.built_in.specs.declared.method.BuiltInMethod.{BuiltInMethod}
use Rattle.built_in.proofs.MethodsLemmas.{answer_from_list, all_listed, is_listed}
use Rattle.built_in.proofs.method.BuiltInMethod.of_class.Goals as goal

pub returns : goal.returns
returns c =
    let key : NameAndType = record { name = c.args.name.now; descriptor = c.args.descriptor.now } in
    answer_from_list (HasMember c.args.class) (members_of c.args.class) key c.first_named.result
    (all_listed c.args.class) (λ m has. is_listed has)
    (subst (λ (l : List BuiltInMethod). MatchOption c.first_named.result (All (λ m. key_of_member m ≢ key) l)
    (λ m. Contains l m × (key_of_member m ≡ key)))
    c.members_of.ensures c.first_named.ensures)
