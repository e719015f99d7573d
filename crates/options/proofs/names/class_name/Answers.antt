use Rattle.std.proofs.Common.{◌≡◌, ◌<◌, ◌∙◌, List, length, Some, ap, sym, subst}
use Rattle.std.proofs.lemmas.Result.{IfOk-weaker}
use Rattle.classfile.specs.Units.{units_text}
use Rattle.loading.specs.Families.{name_in}
use Rattle.loading.specs.Names.{name_of}
use Rattle.loading.specs.declared.given.GivenClass.{GivenClass}
use Rattle.options.proofs.NamesLemmas.{named_at}
use Rattle.options.proofs.names.class_name.Goals as goal

pub returns : goal.returns
returns c =
    let family = c.args.family.now in
    let read = c.name_of.result.now in
    let small = subst (λ (f : List GivenClass). c.args.class < length f) (sym c.classes-classes.ensures.value)
    c.requires in
    let given = c.index-classes-class.result in
    let named = c.name_of.ensures.value ∙ ap (λ (g : GivenClass). name_of g.file) (sym c.index-classes-class.is) in
    IfOk-weaker c.from_modified_utf8.result (λ name. units_text name ≡ read)
    (λ name. name_in family c.args.class ≡ Some (units_text name))
    (λ name text. named_at family c.classes-classes.result.now c.args.class given name read
    c.classes-classes.ensures.value small c.index-classes-class.is named text)
    (c.from_modified_utf8.ensures c.name_of.ensures.modified)
