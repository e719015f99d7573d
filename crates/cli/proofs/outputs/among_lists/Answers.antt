use Rattle.std.proofs.Common.{◌∙◌}
use Rattle.cli.proofs.ListLemmas.{words_more}
use Rattle.cli.proofs.outputs.among_lists.Goals as goal

pub loop-word-preserved : goal.loop-word-preserved
loop-word-preserved g c = record {
  apart = words_more c.args.output.now c.args.words.now c.loop-word.word-index _ c.is_list.result
      c.loop-word-test.true c.is_list.ensures.same_name c.if-is_list.false c.loop-word.invariant.apart;
  same = c.is_list.ensures.same ∙ c.loop-word.invariant.same;
}
