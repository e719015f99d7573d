use Rattle.report_page.proofs.CountsLemmas.{later_added}
use Rattle.report_page.proofs.counts.add_later.Goals as goal

pub returns : goal.returns
returns c =
    later_added c.args.verdicts.now c.args.wave _ _ _ _ c.requires c.in_ok-label.ensures.ok c.later_count-count.ensures
    c.in_ok-add.ensures
