use Rattle.hierarchy.specs.declared.wanted.Wanted.TheVariants as wanted
use Rattle.hierarchy.proofs.UpClassesLemmas.{all_told}
use Rattle.hierarchy.proofs.nearest.Reaches.note.Goals as goal

pub note-requires-clause-empty : goal.note-requires-clause-empty
note-requires-clause-empty c = c.requires.empty wanted.Field

pub note-requires-2-clause-empty : goal.note-requires-2-clause-empty
note-requires-2-clause-empty c = c.requires.empty wanted.InterfaceField

pub note-requires-3-clause-empty : goal.note-requires-3-clause-empty
note-requires-3-clause-empty c = c.requires.empty wanted.Method

pub note-requires-4-clause-empty : goal.note-requires-4-clause-empty
note-requires-4-clause-empty c = c.requires.empty wanted.InstanceMethod

pub note-requires-5-clause-empty : goal.note-requires-5-clause-empty
note-requires-5-clause-empty c = c.requires.empty wanted.InterfaceMethod

pub returns : goal.returns
returns c =
    all_told c.args.classes.now.family.now c.args.classes.now.table.now c.args.classes.now.order.now _
    c.in_ok-note.ensures c.in_ok-note-2.ensures c.in_ok-note-3.ensures c.in_ok-note-4.ensures c.in_ok-note-5.ensures
