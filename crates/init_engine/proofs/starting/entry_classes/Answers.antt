use Rattle.std.proofs.Common.{arith}
use Rattle.std.proofs.lemmas.Result.{err_from_is_err_and}
use Rattle.loading.proofs.ZipLemmas.{pairs_length}
use Rattle.init_engine.specs.Starts.{IsEntry}
use Rattle.init_engine.proofs.EntryLemmas.{count_fails, entries_fail}
use Rattle.init_engine.proofs.starting.entry_classes.Goals as goal

pub returns-in_err-check_count-clause-fault : goal.returns-in_err-check_count-clause-fault
returns-in_err-check_count-clause-fault c =
    let p = err_from_is_err_and c.from_residual.result c.from_residual.ensures.1 in
    rw (p.1, p.2) (count_fails c.args.program.now c.args.entries.now _ c.in_err-check_count.ensures.fault)

pub returns-in_err-classes-clause-fault : goal.returns-in_err-classes-clause-fault
returns-in_err-classes-clause-fault c =
    let p = err_from_is_err_and c.from_residual-in_err-classes.result c.from_residual-in_err-classes.ensures.1 in
    rw (p.1, p.2) (entries_fail c.args.program.now c.args.entries.now _ c.in_ok-check_count.ensures.ok
    c.in_err-classes.ensures.fault)

pub returns-clause-few : goal.returns-clause-few
returns-clause-few c =
    omega (
      arith,
      c.in_ok-check_count.ensures.ok,
      pairs_length (IsEntry c.args.program.now) c.args.entries.now c.in_ok-classes.classes.items
          c.in_ok-classes.ensures.entries,
    )
