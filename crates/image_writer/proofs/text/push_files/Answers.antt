use Rattle.image_format.specs.Texts.{given_text}
use Rattle.image_writer.proofs.TextLemmas.{items_one_more}
use Rattle.image_writer.proofs.text.push_files.Goals as goal

pub loop-given-preserved : goal.loop-given-preserved
loop-given-preserved c =
    items_one_more given_text c.args.classes.now c.loop-given.given-index c.given-item.result _ _
    c.args.out.now.items c.loop-given-test.true c.given-item.is c.loop-given.invariant
    c.in_ok-push_file.ensures
