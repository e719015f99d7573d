use Rattle.std.proofs.Common.{◌≡◌, ◌≢◌, true, false, subst}
use Rattle.std.specs.List.{All}
use Rattle.std.proofs.lemmas.List.{take_all}
use Rattle.std.proofs.lemmas.List.Elements.{All-more}
use Rattle.built_in.specs.Keys.{NameAndType}
use Rattle.built_in.specs.Methods.{key_of_member}
use Rattle.built_in.specs.declared.method.BuiltInMethod.{BuiltInMethod}
use Rattle.built_in.specs.declared.method.BuiltInMethod.TheVariants.{NewObject}
use Rattle.built_in.proofs.method.first_named.Goals as goal

pub loop-member-preserved : goal.loop-member-preserved
loop-member-preserved c =
    let key : NameAndType = record { name = c.args.name.now; descriptor = c.args.descriptor.now } in
    All-more (λ (m : BuiltInMethod). key_of_member m ≢ key) c.args.members.now c.loop-member.member-index NewObject
    c.loop-member-test.true c.loop-member.invariant
    (λ same. let clash : false ≡ true = c.if-is_named.ensures.1 same in cc)

pub returns : goal.returns
returns c =
    let key : NameAndType = record { name = c.args.name.now; descriptor = c.args.descriptor.now } in
    subst (All (λ (m : BuiltInMethod). key_of_member m ≢ key))
    (take_all c.loop-member.member-index c.args.members.now c.loop-member-test.false)
    c.loop-member.invariant
