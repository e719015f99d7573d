use Rattle.std.proofs.Common.{rules, is_lt, nat_cmp}
use Rattle.std.specs.Cmp.Lexicographic.{slice_cmp}
use Rattle.std.proofs.lemmas.Cmp.{nat_list_cmp_total}
use Rattle.std.proofs.lemmas.List.Sorted.{answers_always, ranks_by}
use Rattle.options.specs.declared.sorted_names.DottedName.{DottedName}
use Rattle.options.proofs.sorted_names.sort.Goals as goal

pub returns-clause-sorted : goal.returns-clause-sorted
returns-clause-sorted c =
    c.sort_unstable_by.ensures.sorted
    (λ (a b : DottedName). is_lt (slice_cmp nat_cmp a.bytes.items b.bytes.items))
    (ranks_by nat_list_cmp_total (λ (n : DottedName). n.bytes.items)) (answers_always _ _ _ (λ f a r g h. search rules))
