use Rattle.options.proofs.CoveringLemmas.{matched_more, known_by_run, of_unknown}
use Rattle.options.proofs.matching.cover_known.Goals as goal

pub returns-then-run-clause-covers : goal.returns-then-run-clause-covers
returns-then-run-clause-covers c =
    matched_more c.args.names.now c.args.pattern.now c.in_ok-run.run' c.args.ends.now c.cover.new.ends c.requires.len
    c.in_ok-run.ensures c.cover.ensures

pub returns-then-run-clause-known : goal.returns-then-run-clause-known
returns-then-run-clause-known c =
    known_by_run c.args.names.now c.args.pattern.now c.in_ok-run.run' c.in_ok-run.ensures c.if-run.true

pub returns-clause-fault : goal.returns-clause-fault
returns-clause-fault c =
    of_unknown c.args.names.now c.args.pattern.now c.in_ok-run.run' c.unknown.result c.in_ok-run.ensures
    c.if-run.false c.unknown.ensures
