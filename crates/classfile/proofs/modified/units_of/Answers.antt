use Rattle.std.proofs.Common.{◌++◌, List, ℕ, sym, ap, ◌∙◌}
use Rattle.std.proofs.lemmas.List.{append-nil}
use Rattle.classfile.proofs.modified.units_of.Goals as goal

pub returns : goal.returns
returns c =
    sym (append-nil c.loop-unit.units.items)
    ∙ ap (λ (z : List ℕ). c.loop-unit.units.items ++ z) (sym c.in_default.ensures.read)
    ∙ c.loop-unit.invariant
