use Rattle.std.proofs.Common.{sym, ◌∙◌}
use Rattle.std.proofs.lemmas.List.{length-map}
use Rattle.wave_scheduler.specs.Outcomes.{outcome_of, settled_of}
use Rattle.wave_scheduler.proofs.JudgedLemmas.{followers_are_settled_lem}
use Rattle.wave_scheduler.proofs.settling.settle_all.Goals as goal

pub returns-in-Ok-clause-settled : goal.returns-in-Ok-clause-settled
returns-in-Ok-clause-settled g c = λ forced are.
    followers_are_settled_lem c.args.program.now forced c.args.budget c.args.verdicts (settled_of c.in-Ok.settled) are
    (rw c.as_slice.ensures at c.in-Ok.ensures)

pub returns-in-Ok-clause-count : goal.returns-in-Ok-clause-count
returns-in-Ok-clause-count g c = sym (length-map c.in-Ok.settled.verdicts outcome_of) ∙ c.in-Ok.ensures.count
