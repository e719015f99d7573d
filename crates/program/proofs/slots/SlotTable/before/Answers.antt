use Rattle.std.proofs.Common.{ap, length, arith}
use Rattle.program.specs.InstanceFields.{built_in_kinds}
use Rattle.program.proofs.SlotsLemmas.{before_length, whole_few}
use Rattle.program.proofs.slots.SlotTable.before.Goals as goal

pub returns-clause-value : goal.returns-clause-value
returns-clause-value c =
    omega (
      arith,
      c.above-above.ensures.count,
      c.built_in_count.ensures,
      ap (λ s. length (built_in_kinds s)) c.superclass.ensures.value,
      before_length c.args.family.now c.classes-classes.ensures.fits c.classes-classes.ensures.within
          c.args.self.now.added c.requires.added c.classes-classes.ensures.few c.args.class,
    )

pub returns-clause-few : goal.returns-clause-few
returns-clause-few c =
    whole_few c.args.family.now c.classes-classes.ensures.fits c.classes-classes.ensures.within
    c.args.self.now.added c.requires.added c.classes-classes.ensures.few c.args.class
