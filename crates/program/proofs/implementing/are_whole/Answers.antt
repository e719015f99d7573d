use Rattle.std.proofs.Common.{◌≡◌, ℕ, ◌<◌, ◌≤◌, ◌+◌, List, Some, length, slice_get, get_or, ap, sym, subst, ◌∙◌, arith}
use Rattle.classfile.specs.ClassFile.{ClassFile}
use Rattle.loading.specs.declared.given.GivenClass.{GivenClass}
use Rattle.loading.specs.Families.{file_in}
use Rattle.program.specs.declared.class.Class.{Class}
use Rattle.program.proofs.FramesLemmas.{file_below, place_of, up_to}
use Rattle.program.proofs.implementing.are_whole.Goals as goal

pub returns : goal.returns
returns c = λ done j f at.
    let whole : length c.args.family.now ≤ c.loop-number.number =
    omega (arith, ap length c.classes-given-items.ensures.value) in
    let within : j < length c.args.family.now = file_below c.args.family.now j f at in
    c.loop-number.invariant j (omega (arith, within, whole)) f at

pub loop-number-preserved : goal.loop-number-preserved
loop-number-preserved c =
    let family = c.args.family.now in
    let i = c.loop-number.number in
    let within : i < length family = omega (arith, ap length c.classes-given-items.ensures.value) in
    let item : c.given-item.result ≡ get_or family i c.given-item.result =
    c.given-item.is ∙ ap (λ (xs : List GivenClass). get_or xs i c.given-item.result) c.classes-given-items.ensures.value
    in
    let classes = c.args.classes.now in
    let class = c.in-Some.class.now in
    let found = c.in-Some.ensures.lookup in
    let here : slice_get classes i ≡ Some class = place_of classes i class found.3.0 ∙ ap Some (sym found.1) in
    up_to family classes i c.loop-number.invariant c.given-item.result class within item here (sym c.count.ensures ∙ c.if-count-methods.false ∙ ap length c.methods.ensures.value)
