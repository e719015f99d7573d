use Rattle.hierarchy.proofs.MemberTablesLemmas.{pools_with}
use Rattle.hierarchy.proofs.member_table.GrowingTable.add_class.Goals as goal

pub returns : goal.returns
returns c = λ family have.
    pools_with c.args.self.now.texts c.of_file.new.texts family c.args.given.now c.args.self.now.pools.items
    c.push.new.self.items c.in_ok-pool.pool c.in_ok-pool.ensures.keeps (c.in_ok-pool.ensures.distinct have.distinct)
    c.in_ok-pool.ensures.numbers c.in_ok-push.ensures.items have
