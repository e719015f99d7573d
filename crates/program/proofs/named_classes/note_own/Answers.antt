use Rattle.std.proofs.Common.{◌≡◌, Some, slice_get, sym, ap, ◌∙◌}
use Rattle.classfile.specs.declared.constant.Constant.TheVariants as constants
use Rattle.program.proofs.NamedClassesLemmas.{named_more, own_name}
use Rattle.program.proofs.named_classes.note_own.Goals as goal

pub returns : goal.returns
returns c =
    let f = c.args.file.now in
    let name = c.in-Some-Class.name in
    let at : slice_get f.constants c.this_class.result ≡ Some (constants.Class name) =
    sym c.in-Some-Class.ensures ∙ ap Some c.in-Some-Class.field-0-is in
    rw c.set.ensures (named_more c.args.family.now f c.args.classes.now.items name _ c.requires.named
    (own_name c.args.family.now f c.args.number c.this_class.result name c.requires.number c.this_class.ensures at))
