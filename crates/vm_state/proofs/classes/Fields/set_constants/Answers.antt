use Rattle.std.proofs.Common.{◌≡◌, ap, ◌∙◌, length, refl, arith}
use Rattle.vm_state.specs.Statics.{field_in}
use Rattle.vm_state.proofs.StaticLemmas.{constants_below, constants_below-none, constants_below-all}
use Rattle.vm_state.proofs.StaticLemmas.{constants_below-next}
use Rattle.vm_state.proofs.classes.Fields.set_constants.Goals as goal

pub loop-field-init : goal.loop-field-init
loop-field-init c = (constants_below-none c.args.statics.now (field_in c.args.self.now), refl)

pub set_constant-requires : goal.set_constant-requires
set_constant-requires c =
    let places = c.loop-field.invariant.1 in
    omega (arith, places, c.requires, c.loop-field-test.true)

pub loop-field-preserved : goal.loop-field-preserved
loop-field-preserved c = (
  constants_below-next c.args.statics.now (field_in c.args.self.now) _ _ c.loop-field.field _ c.loop-field-test.true
      c.loop-field.invariant.0 c.set_constant.ensures.fields,
  c.set_constant.ensures.places ∙ c.loop-field.invariant.1,
)

pub returns : goal.returns
returns c =
    let all : c.loop-field.field ≡ length c.args.statics.now = omega arith in
    c.loop-field.invariant.0
    ∙ (ap (constants_below c.args.statics.now (field_in c.args.self.now)) all
    ∙ constants_below-all c.args.statics.now (field_in c.args.self.now))
