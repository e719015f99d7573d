use Rattle.report_page.proofs.CountsLemmas.{wave_added}
use Rattle.report_page.proofs.counts.add_wave.Goals as goal

pub returns : goal.returns
returns c =
    wave_added c.args.verdicts.now c.args.wave _ _ _ _ c.requires c.in_ok-label.ensures.ok c.wave_count-count.ensures
    c.in_ok-add.ensures
