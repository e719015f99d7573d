use Rattle.std.proofs.Common.{string_bytes}
use Rattle.cli.specs.Totals.{left_text}
use Rattle.cli.proofs.ListLemmas.{made_more}
use Rattle.cli.proofs.totals.left_texts.Goals as goal

pub loop-word-preserved : goal.loop-word-preserved
loop-word-preserved c =
    made_more (left_text c.args.verdicts.now) c.args.words.now c.loop-word.word-index _ (string_bytes c.loop-word.text)
    (string_bytes c.add_left.new.text) c.loop-word-test.true c.loop-word.invariant c.in_ok-add_left.ensures
