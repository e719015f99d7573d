use Rattle.std.proofs.Common.{◌∙◌}
use Rattle.cli.proofs.OutputLemmas.{inputs_more}
use Rattle.cli.proofs.outputs.among.Goals as goal

pub loop-input-preserved : goal.loop-input-preserved
loop-input-preserved g c = record {
  apart = inputs_more c.args.output.now c.args.inputs.now c.loop-input.input-index _ c.are_one.result
      c.loop-input-test.true c.are_one.ensures.same_name c.if-are_one.false c.loop-input.invariant.apart;
  same = c.are_one.ensures.same ∙ c.loop-input.invariant.same;
}
