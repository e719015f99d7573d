use Rattle.std.proofs.Common.{List, sym, subst}
use Rattle.hierarchy.specs.steps.Declarations.{AreWhole}
use Rattle.hierarchy.specs.declared.declarations.Declaration.{Declaration}
use Rattle.hierarchy.proofs.hierarchy.Hierarchy.look_through.Goals as goal

pub look_at_all-requires-clause-wholes : goal.look_at_all-requires-clause-wholes
look_at_all-requires-clause-wholes c =
    subst (λ (l : List Declaration). AreWhole c.args.self.now c.args.wanted l) (sym c.deref.ensures.value)
    c.requires.group.wholes
