use Rattle.std.proofs.Common.{◌≡◌, ◌<◌, ◌≤◌, List, Some, length, take, get_or, slice_get, refl, ap, subst, ◌∙◌, arith}
use Rattle.std.proofs.lemmas.List.{take_all}
use Rattle.program.specs.declared.class.Class.{Class}
use Rattle.loading.specs.declared.given.GivenClass.{GivenClass}
use Rattle.program.specs.steps.Frames.{IsBareClass}
use Rattle.program.proofs.RuntimePoolGrowthLemmas.{bare_classes_kept}
use Rattle.program.specs.Strings.{strings_of}
use Rattle.program.proofs.StringsLemmas.{gains_next, gains_nothing}
use Rattle.loading.specs.Families.{file_of}
use Rattle.program.proofs.ZipLemmas.{item_at, one_more}
use Rattle.program.proofs.assembly.add_classes.Goals as goal

pub loop-number-preserved : goal.loop-number-preserved
loop-number-preserved c =
    let family = c.args.linker.now.hierarchy.now.family in
    let i = c.loop-number.number in
    let given = c.index-family-number.result in
    let strings = c.add_class.new.strings in
    let within : i < length family =
    omega (arith, ap length (c.classes-family.ensures.value ∙ c.family.ensures)) in
    let item : given ≡ get_or family i given =
    c.index-family-number.is
    ∙ ap (λ (xs : List GivenClass). get_or xs i given) (c.classes-family.ensures.value ∙ c.family.ensures) in
    let added = c.in_ok-add_class.ensures.class in
    record {
      members = c.in_ok-add_class.ensures.kept ∙ c.loop-number.invariant.members;
      classes = one_more (λ (given : GivenClass) (class : Class). IsBareClass family strings given.file class) family
          c.loop-number.classes.items
          c.add_class.new.classes.items i given added.0 within item
          (bare_classes_kept family c.loop-number.strings strings c.in_ok-add_class.ensures.gains.keeps
          (take i family) c.loop-number.classes.items c.loop-number.invariant.classes)
          added.1 added.2;
      gains = gains_next (λ (given : GivenClass). strings_of given.file) family i given c.args.strings.now
          c.loop-number.strings strings within item c.loop-number.invariant.gains c.in_ok-add_class.ensures.gains;
    }

pub loop-number-init : goal.loop-number-init
loop-number-init c = record {
  members = refl;
  classes = rw c.requires.empty tt;
  gains = gains_nothing c.args.strings.now;
}

pub returns-clause-classes : goal.returns-clause-classes
returns-clause-classes c =
    let family = c.args.linker.now.hierarchy.now.family in
    let whole : length family ≤ c.loop-number.number =
    omega (arith, ap length (c.classes-family.ensures.value ∙ c.family.ensures)) in
    rw (take_all c.loop-number.number family whole) at c.loop-number.invariant.classes

pub returns-clause-gains : goal.returns-clause-gains
returns-clause-gains c =
    let family = c.args.linker.now.hierarchy.now.family in
    let whole : length family ≤ c.loop-number.number =
    omega (arith, ap length (c.classes-family.ensures.value ∙ c.family.ensures)) in
    rw (take_all c.loop-number.number family whole) at c.loop-number.invariant.gains

pub add_class-requires-clause-file : goal.add_class-requires-clause-file
add_class-requires-clause-file c =
    let family = c.args.linker.now.hierarchy.now.family in
    let given = c.index-family-number.result in
    let is : c.classes-family.result.now ≡ family = c.classes-family.ensures.value ∙ c.family.ensures in
    let at : slice_get family c.loop-number.number ≡ Some given =
    subst (λ (xs : List GivenClass). slice_get xs c.loop-number.number ≡ Some given) is
    (item_at c.classes-family.result.now c.loop-number.number given (omega arith) c.index-family-number.is) in
    ap file_of at
