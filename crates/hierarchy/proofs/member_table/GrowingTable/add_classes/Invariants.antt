use Rattle.std.proofs.Common.{take}
use Rattle.hierarchy.specs.steps.MemberTables.{HavePools}
use Rattle.hierarchy.proofs.member_table.GrowingTable.add_classes.Given as goal

abbrev pub invariant-loop-given : goal.invariant-loop-given
invariant-loop-given l = HavePools (take l.given-index l.classes) l.self.texts l.self.pools.items
