use Rattle.std.proofs.Common.{sym, ◌∙◌}
use Rattle.vm_state.proofs.ListLemmas.{reverse_same}
use Rattle.vm_state.proofs.initialization.ParentsLeft.is_same.Goals as goal

pub returns-clause-no : goal.returns-clause-no
returns-clause-no c =
    λ no same. c.same_items.ensures.no no (reverse_same c.self.inside.reversed.items c.other.inside.reversed.items
    (c.self.view_is ∙ (same ∙ sym c.other.view_is)))
