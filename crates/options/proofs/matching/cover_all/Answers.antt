use Rattle.std.proofs.Common.{map}
use Rattle.std.specs.String.{string_bytes}
use Rattle.std.proofs.lemmas.List.{length-map}
use Rattle.std.proofs.lemmas.Result.{err_from_is_err_and}
use Rattle.options.proofs.CoveringLemmas.{by_one_more, first_unknown, all_known, by_all}
use Rattle.options.proofs.MatchedLemmas.{text_read}
use Rattle.options.proofs.matching.cover_all.Goals as goal

pub loop-pattern-preserved : goal.loop-pattern-preserved
loop-pattern-preserved c =
    let at = text_read c.args.patterns.now c.loop-pattern.pattern-index c.pattern-item.result c.deref.result.now
    c.loop-pattern-test.true c.pattern-item.is c.deref.ensures in
    by_one_more c.args.names.now (map string_bytes c.args.patterns.now) c.args.ends.now c.loop-pattern.ends
    c.cover_known.new.ends c.loop-pattern.pattern-index c.deref.result.now at c.loop-pattern.invariant
    c.in_ok-cover_known.ensures.covers c.in_ok-cover_known.ensures.known

pub returns-in_err-cover_known-clause-fault : goal.returns-in_err-cover_known-clause-fault
returns-in_err-cover_known-clause-fault c =
    let p = err_from_is_err_and c.from_residual.result c.from_residual.ensures.1 in
    let at = text_read c.args.patterns.now c.loop-pattern.pattern-index c.pattern-item.result c.deref.result.now
    c.loop-pattern-test.true c.pattern-item.is c.deref.ensures in
    rw (p.1, p.2)
    (first_unknown c.args.names.now (map string_bytes c.args.patterns.now) c.loop-pattern.pattern-index
    c.deref.result.now _ at c.loop-pattern.invariant.known c.in_err-cover_known.ensures.fault)

pub returns-clause-known : goal.returns-clause-known
returns-clause-known c =
    all_known c.args.names.now (map string_bytes c.args.patterns.now) c.args.ends.now c.loop-pattern.ends
    c.loop-pattern.pattern-index (rw length-map c.loop-pattern-test.false) c.loop-pattern.invariant

pub returns-clause-covers : goal.returns-clause-covers
returns-clause-covers c =
    by_all c.args.names.now (map string_bytes c.args.patterns.now) c.args.ends.now c.loop-pattern.ends
    c.loop-pattern.pattern-index (rw length-map c.loop-pattern-test.false) c.loop-pattern.invariant
