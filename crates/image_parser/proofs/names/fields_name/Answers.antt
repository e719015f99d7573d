use Rattle.vm_state.specs.Statics.{field_in}
use Rattle.std.proofs.Common.{arith, subst, sym}
use Rattle.image_parser.specs.reading.Named.{NamesThere}
use Rattle.image_parser.proofs.NamesLemmas.{all_below, misses_below, more_below}
use Rattle.image_parser.proofs.names.fields_name.Goals as goal

pub loop-field-init : goal.loop-field-init
loop-field-init c = λ k low. absurd (omega (arith, low))

pub loop-field-preserved : goal.loop-field-preserved
loop-field-preserved c =
    more_below (λ k. NamesThere c.args.regions.now (field_in c.args.fields.now k)) c.loop-field.field
    c.loop-field.invariant
    (subst (NamesThere c.args.regions.now) c.get.ensures
    (c.names_there.ensures.0 (let on = c.if-not-names_there.false in cc)))

pub returns-then-not-names_there : goal.returns-then-not-names_there
returns-then-not-names_there c =
    misses_below (λ k. NamesThere c.args.regions.now (field_in c.args.fields.now k)) _ c.loop-field.field (omega arith)
    (λ h.
    let on = c.names_there.ensures.1 (subst (NamesThere c.args.regions.now) (sym c.get.ensures) h) in
    let off = c.if-not-names_there.true in cc)

pub returns : goal.returns
returns c = all_below (λ k. NamesThere c.args.regions.now (field_in c.args.fields.now k)) _ c.loop-field.field
    (omega arith) c.loop-field.invariant
