use Rattle.std.proofs.Common.{◌+◌, ap, sym, ◌∙◌, arith}
use Rattle.program.proofs.SlotsLemmas.{added_room, chain_kept, chain_more}
use Rattle.program.proofs.slots.chain_of.Goals as goal

pub returns-then-more-eq0 : goal.returns-then-more-eq0
returns-then-more-eq0 c =
    chain_kept c.args.family.now c.classes-classes.ensures.fits c.classes-classes.ensures.within c.args.class
    c.chain_above-above.result c.chain_above-above.ensures (sym c.added_count-more.ensures ∙ c.if-more-eq0.true)

pub overflow_add-result : goal.overflow_add-result
overflow_add-result c =
    omega (
      arith,
      c.chain_above-above.ensures.count,
      c.added_count-more.ensures,
      added_room c.args.family.now c.classes-classes.ensures.fits c.classes-classes.ensures.within c.args.added.now
          c.requires.added c.classes-classes.ensures.few c.args.class,
    )

pub returns : goal.returns
returns c =
    chain_more c.args.family.now c.classes-classes.ensures.fits c.classes-classes.ensures.within c.args.class
    _ c.chain_above-above.result c.chain_above-above.ensures (omega (arith, c.added_count-more.ensures))
    (ap (λ n. c.chain_above-above.result.count + n) c.added_count-more.ensures)
