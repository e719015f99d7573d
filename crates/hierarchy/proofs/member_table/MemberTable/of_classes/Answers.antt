use Rattle.hierarchy.proofs.MemberTablesLemmas.{no_pools}
use Rattle.hierarchy.proofs.member_table.MemberTable.of_classes.Goals as goal

pub add_classes-requires : goal.add_classes-requires
add_classes-requires c =
    no_pools c.in_ok-texts.texts c.new-pools.result.items c.in_ok-texts.ensures.distinct c.in_ok-texts.ensures.first
    c.in_ok-texts.ensures.built_in c.new-pools.ensures.items
