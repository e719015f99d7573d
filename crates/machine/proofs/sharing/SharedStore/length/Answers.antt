use Rattle.std.proofs.Common.{◌≡◌, Bor, Option, Some, None, List, length, ap, refl, sym, ◌∙◌}
use Rattle.std.specs.Prelude.{option_map, option_copied}
use Rattle.vm_state.specs.declared.value.Value.{Value}
use Rattle.vm_state.specs.Shares.{shared_of}
use Rattle.semantics.specs.Rows.{int_length}
use Rattle.machine.specs.Sharing.{run_shared}
use Rattle.machine.proofs.ObjectPartsLemmas.{length_asked, mapped_twice}
use Rattle.machine.proofs.sharing.SharedStore.length.Goals as goal

copied : (slots : Option (Bor (List Value))) → option_copied slots ≡ option_map (λ s. s.now) slots
copied None = refl
copied (Some slots) = refl

pub returns : goal.returns
returns c =
    λ p next. length_asked c.args._by (shared_of c.args.self.now p) c.args.object
    (option_map (λ s. s.now) c.slots.result) next (sym (c.slots.ensures p) ∙ copied c.slots.result)
    ∙ ap (λ n. run_shared c.args._by (shared_of c.args.self.now p) (next n))
    (mapped_twice (λ (vs : List Value). int_length (length vs)) (λ s. s.now) c.slots.result ∙ sym c.length_of.ensures)
