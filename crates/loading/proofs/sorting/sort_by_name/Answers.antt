use Rattle.std.proofs.Common.{rules}
use Rattle.std.specs.Cmp.Lexicographic.{slice_cmp}
use Rattle.std.specs.Ordering.{is_lt, nat_cmp}
use Rattle.std.proofs.lemmas.Cmp.{nat_list_cmp_total}
use Rattle.std.proofs.lemmas.List.Sorted.{answers_always, ranks_by}
use Rattle.loading.specs.Names.{name_of}
use Rattle.loading.proofs.LinkingPlaceLemmas.{sorted_files}
use Rattle.loading.proofs.sorting.sort_by_name.Goals as goal

pub returns-clause-sorted : goal.returns-clause-sorted
returns-clause-sorted c =
    sorted_files _ (c.sort_unstable_by.ensures.sorted (λ a b. is_lt (slice_cmp nat_cmp (name_of a) (name_of b)))
    (ranks_by nat_list_cmp_total name_of)
    (answers_always _ _ _ (λ f a r g h. search rules)))
