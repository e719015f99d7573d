use Rattle.std.proofs.Common.{length, refl}
use Rattle.std.proofs.lemmas.Option.{slice_get_read}
use Rattle.std.proofs.lemmas.Result.{err_from_is_err_and}
use Rattle.init_engine.specs.Starts.{IsEntry}
use Rattle.init_engine.proofs.EntryLemmas.{first_at_fault, pairs_more}
use Rattle.init_engine.proofs.starting.find_classes.Goals as goal

pub loop-place-preserved : goal.loop-place-preserved
loop-place-preserved c =
    pairs_more (IsEntry c.args.program.now) c.args.entries.now c.loop-place.place _ c.index-entries-place.result _
    c.loop-place.classes.items _ c.loop-place-test.true c.index-entries-place.is c.in_ok-push.ensures.items
    c.in_ok-entry_class.ensures.entry c.loop-place.invariant

pub returns-in_err-entry_class-clause-fault : goal.returns-in_err-entry_class-clause-fault
returns-in_err-entry_class-clause-fault c =
    let p = err_from_is_err_and c.from_residual.result
    c.from_residual.ensures.1 in
    let names = c.args.entries.now in
    let here = slice_get_read names (length names) c.loop-place.place c.index-entries-place.result refl
    c.loop-place-test.true c.index-entries-place.is in
    rw (p.1, p.2) (first_at_fault c.args.program.now names c.loop-place.place c.index-entries-place.result
    c.loop-place.classes.items _ here c.loop-place.invariant c.in_err-entry_class.ensures.fault)
