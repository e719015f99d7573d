use Rattle.std.proofs.Common.{refl}
use Rattle.hierarchy.proofs.MemberTablesLemmas.{text_or_none}
use Rattle.hierarchy.proofs.member_table.MemberTable.text.Goals as goal

pub returns : goal.returns
returns c = text_or_none c.args.self.now.texts c.args.number c.text.result _ _ c.text.ensures c.unwrap_or.ensures refl
