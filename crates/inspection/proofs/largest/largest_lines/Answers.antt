use Rattle.std.proofs.Common.{string_bytes}
use Rattle.std.proofs.lemmas.List.{get_or_default}
use Rattle.inspection.specs.Texts.{largest_line}
use Rattle.inspection.proofs.TextsLemmas.{piece_more}
use Rattle.inspection.proofs.largest.largest_lines.Goals as goal

pub loop-class-preserved : goal.loop-class-preserved
loop-class-preserved c =
    piece_more (largest_line c.args.image.now) c.args.classes.now c.loop-class.class-index _
    (string_bytes c.loop-class.text) (string_bytes c.add_line.new.text) c.loop-class-test.true
    (get_or_default c.args.classes.now c.loop-class.class-index _ _ c.loop-class-test.true) c.loop-class.invariant
    c.in_ok-add_line.ensures
