use Rattle.loading.proofs.ClassIdsLemmas.{split_at, no_array, named_by_parts}
use Rattle.loading.proofs.naming.array_named.Goals as goal

pub returns-in_err-dimensions : goal.returns-in_err-dimensions
returns-in_err-dimensions c =
    let name = c.args.name.now in
    let parts = c.leading_brackets-count in
    rw c.from_residual.ensures
    (no_array c.args.family.now name parts.result _
    (split_at name parts.result parts.ensures.brackets parts.ensures.whole)
    (λ low high e. absurd (c.in_err-dimensions.ensures (low, high))))

pub returns-in_err-element : goal.returns-in_err-element
returns-in_err-element c =
    let name = c.args.name.now in
    let parts = c.leading_brackets-count in
    rw c.from_residual-in_err-element.ensures
    (no_array c.args.family.now name parts.result _
    (split_at name parts.result parts.ensures.brackets parts.ensures.whole)
    (λ low high e. c.in_err-element.ensures e))

pub returns : goal.returns
returns c =
    let name = c.args.name.now in
    let parts = c.leading_brackets-count in
    named_by_parts c.args.family.now name parts.result _
    (split_at name parts.result parts.ensures.brackets parts.ensures.whole) _
    c.in_ok-dimensions.ensures c.in_ok-element.ensures
