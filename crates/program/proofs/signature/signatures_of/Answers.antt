use Rattle.std.proofs.Common.{◌≡◌, ◌+◌, ◌<◌, ◌≤◌, length, subst, arith}
use Rattle.std.specs.List.{AllZip}
use Rattle.std.proofs.lemmas.List.{take_all}
use Rattle.program.specs.steps.ParsedSignatures.{IsEntry}
use Rattle.program.specs.steps.Sparse.{entries}
use Rattle.program.proofs.SignatureLemmas.{are_signatures}
use Rattle.program.proofs.ZipLemmas.{one_more}
use Rattle.program.proofs.signature.signatures_of.Goals as goal

pub loop-constant-preserved : goal.loop-constant-preserved
loop-constant-preserved c =
    let old = c.loop-constant.signatures in
    let new = c.add.new.self in
    let within : c.loop-constant.constant-index < length c.constants-constants.result.now =
    omega (arith, c.loop-constant-test.true) in
    record {
      places = c.in_ok-add.ensures.places;
      count = omega (arith, c.in_ok-add.ensures.count, c.loop-constant.invariant.count);
      each = one_more IsEntry c.constants-constants.result.now (entries old.places.items old.items.items)
          (entries new.places.items new.items.items) c.loop-constant.constant-index c.constant-item.result
          c.in_ok-signature_in.field-0 within c.constant-item.is c.loop-constant.invariant.each
          c.in_ok-signature_in.ensures c.in_ok-add.ensures.entries;
    }

pub returns : goal.returns
returns c =
    let constants = c.constants-constants.result.now in
    let signatures = c.loop-constant.signatures in
    let each = entries signatures.places.items signatures.items.items in
    let whole : length constants ≤ c.loop-constant.constant-index = omega arith in
    let all : AllZip IsEntry constants each =
    rw (take_all c.loop-constant.constant-index constants whole) at c.loop-constant.invariant.each in
    are_signatures c.args.file.now each
    (subst (λ xs. AllZip IsEntry xs each) c.constants-constants.ensures.value all)
