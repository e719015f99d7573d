use Rattle.std.proofs.Common.{refl, ◌∙◌}
use Rattle.graph.proofs.RowsLemmas.{row_read}
use Rattle.wave_scheduler.proofs.waves.nth_wave.Goals as goal

pub returns : goal.returns
returns c = record {
  terms = refl;
  number = refl;
  classes = c.as_slice.ensures.value
      ∙ row_read c.args.waves.now c.args.number c.index-waves-number.result c.requires c.index-waves-number.is;
}
