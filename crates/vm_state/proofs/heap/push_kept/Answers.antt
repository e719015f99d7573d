use Rattle.std.proofs.Common.{◌≡◌, length, rules}
use Rattle.vm_state.proofs.KeptLemmas.{kept_first}
use Rattle.vm_state.proofs.ShareLemmas.{if_done}
use Rattle.vm_state.proofs.heap.push_kept.Goals as goal

pub returns-then-number-len-clause-ok : goal.returns-then-number-len-clause-ok
returns-then-number-len-clause-ok c =
    let later = c.args.later.now.items in
    let kept = c.args.kept.now.items in
    let none : length later ≡ 0 = search rules in
    let number : c.args.number ≡ length kept = search rules in
    if_done c.push_object.result c.push_object.ensures.ok (λ is.
    kept_first later kept c.push_object.new.kept.items c.args.number c.args.object none number is)
