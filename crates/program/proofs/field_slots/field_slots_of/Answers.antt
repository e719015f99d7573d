use Rattle.std.proofs.Common.{◌≡◌, List, Some, length, slice_get, ap, subst, arith}
use Rattle.std.proofs.lemmas.List.{length_push, length-append}
use Rattle.loading.specs.declared.given.GivenClass.{GivenClass}
use Rattle.loading.specs.Families.{file_in, file_of}
use Rattle.program.specs.InstanceFields.{own_kinds_if, slots_before}
use Rattle.program.specs.steps.Slots.{AreFieldSlots}
use Rattle.program.proofs.FieldSlotsLemmas.{class_slots_all, class_slots_next}
use Rattle.program.proofs.SlotsLemmas.{slots_whole}
use Rattle.program.proofs.ZipLemmas.{item_at}
use Rattle.program.proofs.field_slots.field_slots_of.Goals as goal

pub of_class-requires : goal.of_class-requires
of_class-requires c =
    let family = c.args.family.now in
    let i = c.loop-number.number in
    let given = c.index-classes-number.result in
    let file : file_in family i ≡ Some given.file =
    subst (λ (xs : List GivenClass). file_of (slice_get xs i) ≡ Some given.file) c.classes-classes.ensures.value
    (ap file_of (item_at c.classes-classes.result.now i given (omega arith) c.index-classes-number.is)) in
    omega (
      arith,
      c.before-first.ensures.value,
      c.before-first.ensures.few,
      ap length (slots_whole family i),
      length-append (slots_before family i) (own_kinds_if (file_in family i)),
      ap (λ o. length (own_kinds_if o)) file,
    )

pub loop-number-preserved : goal.loop-number-preserved
loop-number-preserved c =
    let family = c.args.family.now in
    let i = c.loop-number.number in
    let given = c.index-classes-number.result in
    let file : file_in family i ≡ Some given.file =
    subst (λ (xs : List GivenClass). file_of (slice_get xs i) ≡ Some given.file) c.classes-classes.ensures.value
    (ap file_of (item_at c.classes-classes.result.now i given (omega arith) c.index-classes-number.is)) in
    record {
      count = omega (
        arith,
        ap length c.in_ok-push.ensures.items,
        length_push c.loop-number.rows.items c.in_ok-of_class.field-0,
        c.loop-number.invariant.count,
      );
      rows = class_slots_next family c.loop-number.rows.items c.push.new.self.items i c.in_ok-of_class.field-0
          given.file c.loop-number.invariant.count file
          (subst (λ n. AreFieldSlots n given.file c.in_ok-of_class.field-0) c.before-first.ensures.value
          c.in_ok-of_class.ensures) c.loop-number.invariant.rows c.in_ok-push.ensures.items;
    }

pub returns : goal.returns
returns c =
    let whole : length c.args.family.now ≡ c.loop-number.number =
    omega (arith, ap length c.classes-classes.ensures.value) in
    class_slots_all c.args.family.now c.loop-number.rows.items (omega (arith, c.loop-number.invariant.count, whole))
    (λ d small. c.loop-number.invariant.rows d (omega (arith, small, whole)))
