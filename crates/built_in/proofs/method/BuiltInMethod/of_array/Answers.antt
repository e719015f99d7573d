use Rattle.built_in.specs.Keys.{NameAndType}
use Rattle.built_in.specs.Methods.{HasArrayMember}
use Rattle.built_in.proofs.MethodsLemmas.{answer_from_list, array_listed, array_is_listed, of_arrays}
use Rattle.built_in.proofs.method.BuiltInMethod.of_array.Goals as goal

pub returns : goal.returns
returns c =
    let key : NameAndType = record { name = c.args.name.now; descriptor = c.args.descriptor.now } in
    answer_from_list HasArrayMember of_arrays key c.first_named.result array_listed (λ m has. array_is_listed has)
    c.first_named.ensures
