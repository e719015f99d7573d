use Rattle.std.proofs.Common.{sym, subst}
use Rattle.loading.specs.Families.{Family}
use Rattle.program.specs.steps.Frames.{AreTried, AreWhole, CanImplementAll}
use Rattle.program.proofs.FramesLemmas.{all_ready, bare_length, whole_classes}
use Rattle.program.proofs.assembly.implemented_by.Goals as goal

pub implement_by-requires-clause-many : goal.implement_by-requires-clause-many
implement_by-requires-clause-many g c κs lives =
    rw (c.family.ensures) (bare_length c.args.frame.hierarchy.family c.args.frame.tables.strings
    c.args.frame.tables.classes.items c.requires.frame.classes)

pub implement_by-requires-clause-ready : goal.implement_by-requires-clause-ready
implement_by-requires-clause-ready g c κs lives =
    let P : Family → Type 0 = λ z. CanImplementAll z c.args.frame.tables.classes.items in
    subst P (sym c.family.ensures) (all_ready c.args.frame.hierarchy.family c.args.frame.tables.strings
    c.args.frame.tables.classes.items c.requires.frame.classes)

pub joined-requires-clause-classes : goal.joined-requires-clause-classes
joined-requires-clause-classes g c =
    let old = c.args.frame.tables.classes.items in
    let new = c.implement_by.new.classes.items in
    let P : Family → Type 0 = λ z. AreTried z old new in
    let Q : Family → Type 0 = λ z. AreWhole z new in
    whole_classes c.args.frame.hierarchy.family c.args.frame.tables.strings old new c.requires.frame.classes
    (subst P c.family.ensures c.implement_by.ensures.tried)
    (subst Q c.family.ensures (c.implement_by.ensures.whole c.if-implement_by.true))
