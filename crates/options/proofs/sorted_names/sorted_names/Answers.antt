use Rattle.std.proofs.Common.{length, subst}
use Rattle.loading.specs.Families.{Family}
use Rattle.options.specs.steps.Names.{AreNames}
use Rattle.options.proofs.SortedNamesLemmas.{names_moved}
use Rattle.options.proofs.sorted_names.sorted_names.Goals as goal

pub returns-in-Ok-clause-names : goal.returns-in-Ok-clause-names
returns-in-Ok-clause-names c =
    names_moved c.args.family.now _ c.add_names.new.names.items c.sort.new.names.items c.sort.ensures.permutation
    (subst (λ (family : Family). AreNames family (length family) c.add_names.new.names.items)
    c.classes.ensures.value c.in-Ok.ensures)
