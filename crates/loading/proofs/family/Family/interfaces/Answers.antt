use Rattle.std.proofs.Common.{◌≡◌, ◌<◌, ◌≤◌, ℕ, List, length, sym, ap, subst, ◌∙◌}
use Rattle.std.specs.List.{All}
use Rattle.loading.specs.Families.{Family, interfaces_in, interfaces_if}
use Rattle.loading.proofs.FamiliesParentLemmas.{interfaces_within, no_interfaces, class_at}
use Rattle.loading.proofs.family.Family.interfaces.Goals as goal

pub returns-in-Some-clause-within : goal.returns-in-Some-clause-within
returns-in-Some-clause-within c =
    let found = c.in-Some.ensures.lookup in
    let at = class_at c.classes.result.now c.args.class c.in-Some.class.now found.3.0 found.1 in
    let is : interfaces_in c.args.self.now c.args.class ≡ c.as_slice.result.now =
    ap (λ (family : Family). interfaces_in family c.args.class) (sym c.classes.ensures.value) ∙ ap interfaces_if at
    ∙ sym c.as_slice.ensures in
    subst (λ (is : List ℕ). All (λ i. i < length c.args.self.now) is) is
    (interfaces_within c.args.self.now c.args.class c.classes.ensures.within)

pub returns-in-None-clause-value : goal.returns-in-None-clause-value
returns-in-None-clause-value c =
    let past : length c.args.self.now ≤ c.args.class = rw c.classes.ensures.value at c.in-None.ensures.lookup.3 in
    sym (no_interfaces c.args.self.now c.args.class past)
