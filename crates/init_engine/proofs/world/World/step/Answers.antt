use Rattle.std.proofs.Common.{◌∙◌, ap, rules}
use Rattle.machine.specs.Linked.{program_of}
use Rattle.vm_state.proofs.ListLemmas.{item_at}
use Rattle.vm_state.proofs.ShareLemmas.{if_refused}
use Rattle.vm_state.specs.Shares.{shared_of}
use Rattle.init_engine.specs.steps.Threads.{view_of}
use Rattle.init_engine.proofs.WorldSteps.{turn_of_world, stays_same, number_set}
use Rattle.init_engine.proofs.world.World.step.Goals as goal

pub returns-clause-ok : goal.returns-clause-ok
returns-clause-ok c =
    let threads = c.self.inside.threads.items in
    let at = item_at threads c.args.thread _ (search rules) c.index_mut-stepping.ensures.value in
    rw (← c.self.view_is)
    (turn_of_world (program_of c.args.program.now) threads c.args.thread _ _ _ at
    c.in_ok-turn.ensures.turn)

pub returns-in_err-turn-clause-err : goal.returns-in_err-turn-clause-err
returns-in_err-turn-clause-err c =
    let threads = c.self.inside.threads.items in
    let at = item_at threads c.args.thread _ (search rules) c.index_mut-stepping.ensures.value in
    let shared = c.in_err-turn.ensures.shared c.take_turn.new.printed
    ∙ ap (shared_of c.self.inside.shared) c.in_err-turn.ensures.printed in
    if_refused c.from_residual.result (rw (← c.self.view_is)
    (stays_same threads c.args.thread (view_of _ c.self.inside.shared c.self.inside.printed)
    (view_of c.take_turn.new.thread c.take_turn.new.shared c.take_turn.new.printed) at
    c.in_err-turn.ensures.thread shared))

pub invariant_of-self-2 : goal.invariant_of-self-2
invariant_of-self-2 c = (
  number_set c.self.inside.threads.items c.args.thread c.take_turn.new.thread c.self.invariant.0
      c.take_turn.ensures.number,
  search rules,
)
