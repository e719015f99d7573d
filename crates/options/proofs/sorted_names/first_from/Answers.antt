use Rattle.std.proofs.Common.{rules, is_lt, nat_cmp}
use Rattle.std.specs.Cmp.Lexicographic.{slice_cmp}
use Rattle.std.proofs.lemmas.List.Sorted.{IsPartitionPoint-from_clause}
use Rattle.options.specs.declared.sorted_names.DottedName.{DottedName}
use Rattle.options.proofs.SortedNamesLemmas.{first_is, parted}
use Rattle.options.proofs.sorted_names.first_from.Goals as goal

pub returns : goal.returns
returns c =
    let bound = c.args.bound.now in
    first_is c.args.names.now bound c.partition_point.result c.partition_point.ensures.bound
    (IsPartitionPoint-from_clause (λ (n : DottedName). is_lt (slice_cmp nat_cmp n.bytes.items bound)) _ _
    c.partition_point.ensures.partitioned (parted c.args.names.now bound c.requires) (λ a r q k. search rules))
