use Rattle.std.proofs.Common.{◌∙◌, ℕ, ap}
use Rattle.vm_state.specs.declared.value.Maker.{Maker}
use Rattle.vm_state.specs.declared.value.Maker.TheVariants.{Class, Thread}
use Rattle.vm_state.specs.declared.object.Monitor.{Monitor}
use Rattle.vm_state.specs.SharedState.{Pool, SharedState, pool_of, set_pool, with_monitor}
use Rattle.vm_state.specs.SharedTables.{SharedTables}
use Rattle.vm_state.specs.Shares.{shared_of}
use Rattle.vm_state.proofs.ShareLemmas.{changed_by_class, changed_by_thread, if_done}
use Rattle.vm_state.proofs.shared.Shared.set_monitor.Goals as goal

abbrev monitor_changed : SharedState → Maker → ℕ → Monitor → SharedState
monitor_changed sh maker number monitor = set_pool sh maker (with_monitor (pool_of sh maker) number monitor)

pub returns-in-Class-clause-ok : goal.returns-in-Class-clause-ok
returns-in-Class-clause-ok c =
    let tables : SharedTables = record { classes = c.self.inside.classes; heap = c.self.inside.heap } in
    if_done c.set_monitor.result c.set_monitor.ensures.ok (λ is p.
    rw c.in-Class.is (changed_by_class tables c.set_monitor.new.self c.in-Class.class
    (λ (pool : Pool). with_monitor pool c.args.name.number c.args.monitor) is p
    ∙ ap (λ (s : SharedTables). monitor_changed (shared_of s p) (Class c.in-Class.class) c.args.name.number
    c.args.monitor) c.self.view_is))

pub returns-in-Thread-clause-ok : goal.returns-in-Thread-clause-ok
returns-in-Thread-clause-ok c =
    let tables : SharedTables = record { classes = c.self.inside.classes; heap = c.self.inside.heap } in
    if_done c.set_monitor-in-Thread.result c.set_monitor-in-Thread.ensures.ok (λ is p.
    rw c.in-Thread.is (changed_by_thread tables c.set_monitor-in-Thread.new.self c.in-Thread.thread
    (λ (pool : Pool). with_monitor pool c.args.name.number c.args.monitor) is p
    ∙ ap (λ (s : SharedTables). monitor_changed (shared_of s p) (Thread c.in-Thread.thread) c.args.name.number
    c.args.monitor) c.self.view_is))
