use Rattle.std.proofs.Common.{List, length, ap, sym, ◌∙◌}
use Rattle.std.specs.Prelude.{option_map}
use Rattle.vm_state.specs.declared.value.Value.{Value}
use Rattle.vm_state.specs.Shares.{shared_of}
use Rattle.semantics.specs.Rows.{int_length}
use Rattle.machine.specs.Sharing.{run_shared}
use Rattle.machine.proofs.ObjectPartsLemmas.{slots_counted, mapped_twice}
use Rattle.machine.proofs.sharing.SharedStore.size.Goals as goal

pub returns : goal.returns
returns c =
    λ p next. slots_counted c.args._by (shared_of c.args.self.now p) c.args.object
    (option_map (λ s. s.now) c.slots.result) next (sym (c.slots.ensures p))
    ∙ ap (λ n. run_shared c.args._by (shared_of c.args.self.now p) (next n))
    (mapped_twice (λ (vs : List Value). int_length (length vs)) (λ s. s.now) c.slots.result ∙ sym c.length_of.ensures)
