use Rattle.std.proofs.Common.{◌≡◌, ◌∙◌, ◌++◌, ◌<◌, ◌^◌, ℕ, List, sym, ap, subst, arith}
use Rattle.std.specs.List.{All}
use Rattle.std.proofs.lemmas.List.Elements.{All-from_get_or}
use Rattle.std.proofs.lemmas.Result.{on_ok_weaker}
use Rattle.classfile.specs.Printing.{units_of}
use Rattle.classfile.specs.Spelling.{u1}
use Rattle.classfile.specs.Units.{units_text}
use Rattle.image_format.specs.Texts.{units_text as spelled}
use Rattle.image_format.specs.Told.{units_in}
use Rattle.image_writer.proofs.TextLemmas.{two_parts}
use Rattle.program.specs.Strings.{IsText}
use Rattle.image_writer.proofs.FilesLemmas.{text_fits, units_are, units_few}
use Rattle.image_writer.proofs.values.push_text.Goals as goal

pub push_units-requires : goal.push_units-requires
push_units-requires c =
    let short : IsText c.string_of.result.now =
    subst IsText (sym c.string_of.ensures) (text_fits c.args.program.now c.requires c.args.number) in
    let each : All (λ unit. unit < 2 ^ 16) c.units-units.result.now =
    All-from_get_or (λ unit. unit < 2 ^ 16) c.units-units.result.now 0 (λ i lt. omega (arith, c.type_inv.units i)) in
    units_few c.string_of.result.now c.units-units.result.now short each
    (ap units_text c.units-units.ensures ∙ c.in_ok-name.ensures short.modified)

pub returns : goal.returns
returns c =
    let short : IsText c.string_of.result.now =
    subst IsText (sym c.string_of.ensures) (text_fits c.args.program.now c.requires c.args.number) in
    let is : c.units-units.result.now ≡ units_in c.args.program.now.strings c.args.number =
    units_are c.string_of.result.now c.units-units.result.now c.push_units.ensures.units
    (ap units_text c.units-units.ensures ∙ c.in_ok-name.ensures short.modified)
    ∙ ap units_of c.string_of.ensures in
    on_ok_weaker c.push_units.result
    (λ e. two_parts c.args.out.now.items c.push_u8.new.out.items c.push_units.new.out.items (u1 3)
    (spelled c.units-units.result.now) c.in_ok-push_u8.ensures e
    ∙ ap (λ (us : List ℕ). c.args.out.now.items ++ (u1 3 ++ spelled us)) is)
    c.push_units.ensures.text
