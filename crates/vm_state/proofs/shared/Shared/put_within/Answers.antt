use Rattle.std.proofs.Common.{◌∙◌, ap}
use Rattle.vm_state.specs.declared.value.Maker.{Maker}
use Rattle.vm_state.specs.declared.value.Maker.TheVariants.{Class, Thread}
use Rattle.vm_state.specs.SharedState.{Pool, SharedState, pool_of, set_pool, with_slot}
use Rattle.vm_state.specs.SharedTables.{SharedTables}
use Rattle.vm_state.specs.Shares.{shared_of}
use Rattle.vm_state.proofs.ShareLemmas.{changed_by_class, changed_by_thread, if_put}
use Rattle.vm_state.proofs.shared.Shared.put_within.Goals as goal

abbrev changed : SharedState → Maker → (Pool → Pool) → SharedState
changed sh maker change = set_pool sh maker (change (pool_of sh maker))

pub returns-in-Class-clause-some : goal.returns-in-Class-clause-some
returns-in-Class-clause-some c =
    let tables : SharedTables = record { classes = c.self.inside.classes; heap = c.self.inside.heap } in
    let change : Pool → Pool = λ pool. with_slot pool c.args.name.number c.args.slot c.args.value in
    if_put c.put_within.result c.put_within.ensures.some (λ is p.
    rw c.in-Class.is (changed_by_class tables c.put_within.new.self c.in-Class.class change is p
    ∙ ap (λ (s : SharedTables). changed (shared_of s p) (Class c.in-Class.class) change) c.self.view_is))

pub returns-in-Thread-clause-some : goal.returns-in-Thread-clause-some
returns-in-Thread-clause-some c =
    let tables : SharedTables = record { classes = c.self.inside.classes; heap = c.self.inside.heap } in
    let change : Pool → Pool = λ pool. with_slot pool c.args.name.number c.args.slot c.args.value in
    if_put c.put_within-in-Thread.result c.put_within-in-Thread.ensures.some (λ is p.
    rw c.in-Thread.is (changed_by_thread tables c.put_within-in-Thread.new.self c.in-Thread.thread change is p
    ∙ ap (λ (s : SharedTables). changed (shared_of s p) (Thread c.in-Thread.thread) change) c.self.view_is))
