use Rattle.std.proofs.Common.{length, get_or}
use Rattle.classfile.specs.Spelling.{u2}
use Rattle.std.proofs.lemmas.List.{get_or_default}
use Rattle.classfile.proofs.TextLemmas.{text_one_more}
use Rattle.image_writer.proofs.numbers.push_units.Goals as goal

pub loop-unit-preserved : goal.loop-unit-preserved
loop-unit-preserved c =
    text_one_more u2 c.args.units.now c.loop-unit.unit-index
    (get_or c.args.units.now c.loop-unit.unit-index 0) _ _ c.args.out.now.items
    (u2 (length c.args.units.now)) c.loop-unit-test.true
    (get_or_default c.args.units.now c.loop-unit.unit-index 0 _ c.loop-unit-test.true)
    c.loop-unit.invariant c.in_ok-push_u16-2.ensures
