use Rattle.std.proofs.Common.{subst, List}
use Rattle.vm_state.specs.declared.value.Value.{Value}
use Rattle.built_in.specs.declared.class_id.ClassId.TheVariants.{BuiltIn}
use Rattle.machine.specs.Objects.{new_object}
use Rattle.machine.specs.Accesses.{Gives}
use Rattle.machine.proofs.objects.new_built_in.Goals as goal

pub returns-clause-gives : goal.returns-clause-gives
returns-clause-gives g c =
    λ p. subst (λ (slots : List Value). Gives g.S.Store.stopped
    (g.S.Store.run c.args.by (g.S.Store.state c.args.store.now p))
    (g.S.Store.run c.args.by (g.S.Store.state c.new_object.new.store p))
    (new_object (BuiltIn c.args.class) slots c.args.frame.now) c.new_object.new.frame c.new_object.result)
    c.none.ensures (c.new_object.ensures.gives p)
