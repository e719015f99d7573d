use Rattle.std.proofs.Common.{rules}
use Rattle.vm_state.proofs.ListLemmas.{item_at}
use Rattle.init_engine.proofs.WorldSteps.{exchanged_world}
use Rattle.init_engine.proofs.world.World.exchange.Goals as goal

pub returns-clause-exchanged : goal.returns-clause-exchanged
returns-clause-exchanged c =
    let threads = c.self.inside.threads.items in
    let at = item_at threads c.args.thread c.index_mut.result.now (search rules) c.index_mut.ensures.value in
    rw (← c.self.view_is)
    (exchanged_world threads c.self.inside.shared c.self.inside.printed c.args.thread c.index_mut.result.now
    c.exchange_in.new.thread c.args.frames.now c.exchange_in.new.frames at c.exchange_in.ensures.exchanged)

pub returns-clause-number : goal.returns-clause-number
returns-clause-number c =
    let threads = c.self.inside.threads.items in
    let at = item_at threads c.args.thread c.index_mut.result.now (search rules) c.index_mut.ensures.value in
    (c.exchange_in.ensures.number c.args.thread (c.self.invariant.0 c.args.thread c.index_mut.result.now at)
    c.requires.number).1
