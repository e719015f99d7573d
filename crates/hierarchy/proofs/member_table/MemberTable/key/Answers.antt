use Rattle.hierarchy.proofs.MemberTablesLemmas.{numbers_there, numbers_nowhere}
use Rattle.hierarchy.proofs.member_table.MemberTable.key.Goals as goal

pub returns-in-Some : goal.returns-in-Some
returns-in-Some c = λ family fits.
    numbers_there family c.args.self.now c.args.member fits c.in-Some.pool.now c.key.result c.in-Some.ensures
    c.key.ensures

pub returns-in-None : goal.returns-in-None
returns-in-None c = λ family fits. numbers_nowhere family c.args.self.now c.args.member fits c.in-None.ensures
