use Rattle.std.proofs.Common.{◌≡◌, ◌⊎◌, inr, arith}
use Rattle.std.proofs.lemmas.Result.{IfOk-weaker, IfErr-weaker}
use Rattle.loading.specs.declared.fault.LinkFault.{LinkFault}
use Rattle.loading.specs.declared.fault.LinkFault.TheVariants.{Memory}
use Rattle.loading.specs.Families.{Family, IsFamilyOf}
use Rattle.loading.specs.Files.{Links, LinkFails, limit}
use Rattle.loading.proofs.FilesMovedLemmas.{moved_back, fault_moved, links_moved, family_moved}
use Rattle.loading.proofs.LinkingFileLemmas.{only_links, only_fault}
use Rattle.loading.proofs.linking.family_of.Goals as goal

pub returns-then-len-gt-LIMIT-clause-fault : goal.returns-then-len-gt-LIMIT-clause-fault
returns-then-len-gt-LIMIT-clause-fault c = inr (limit (λ few. omega arith))

pub returns-clause-ok : goal.returns-clause-ok
returns-clause-ok c =
    let moved = moved_back c.args.files.items _ c.sort_by_name.ensures.permutation in
    IfOk-weaker c.family_of_sorted.result _ (IsFamilyOf c.args.files.items)
    (λ (family : Family) h. family_moved _ c.args.files.items family moved h) c.family_of_sorted.ensures.ok

pub returns-clause-links : goal.returns-clause-links
returns-clause-links c =
    let moved = moved_back c.args.files.items _ c.sort_by_name.ensures.permutation in
    IfOk-weaker c.family_of_sorted.result _ (λ _. Links c.args.files.items)
    (λ (family : Family) h. links_moved _ c.args.files.items moved h) c.family_of_sorted.ensures.links

pub returns-clause-fault : goal.returns-clause-fault
returns-clause-fault c =
    let moved = moved_back c.args.files.items _ c.sort_by_name.ensures.permutation in
    IfErr-weaker c.family_of_sorted.result _ (λ x. (x ≡ Memory) ⊎ LinkFails c.args.files.items x)
    (λ (x : LinkFault) h. fault_moved _ c.args.files.items x moved h) c.family_of_sorted.ensures.fault

pub returns-clause-only_links : goal.returns-clause-only_links
returns-clause-only_links c = only_links c.args.files.items c.family_of_sorted.result (returns-clause-fault c)

pub returns-clause-only_fault : goal.returns-clause-only_fault
returns-clause-only_fault c = only_fault c.args.files.items c.family_of_sorted.result (returns-clause-links c)
    (returns-clause-fault c)
