use Rattle.std.proofs.Common.{◌≡◌, ◌≢◌, rules, tests}
use Rattle.std.proofs.lemmas.Iterator.{YieldsList-from_slice, first_from_find}
use Rattle.built_in.specs.declared.class_id.TheConstants.{ALL}
use Rattle.built_in.specs.ClassNames.{name_of_built_in}
use Rattle.built_in.proofs.ClassNameLemmas.{named_from}
use Rattle.built_in.proofs.class_id.BuiltIn.named.Goals as goal

pub returns : goal.returns
returns c =
    let name = c.args.name.now in
    rw c.copied.ensures (named_from name c.find.result
    (first_from_find _ _ c.find.result (λ k. name_of_built_in k ≡ name) (λ k. name_of_built_in k ≢ name)
    c.find.ensures.ran (YieldsList-from_slice ALL cc)
    (λ x q k. search (rules, tests)) (λ x q k. search (rules, tests))))
