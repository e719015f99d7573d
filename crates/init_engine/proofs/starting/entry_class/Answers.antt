use Rattle.std.proofs.Common.{inr}
use Rattle.init_engine.proofs.EntryLemmas.{unknown_at, no_main_at}
use Rattle.init_engine.proofs.starting.entry_class.Goals as goal

pub returns-in_default-clause-fault : goal.returns-in_default-clause-fault
returns-in_default-clause-fault c =
    inr (unknown_at c.args.program.now c.args.name.now c.args.place c.in_ok-class.field-0 c.in_ok-class.ensures
    c.in_default.not-Some)

pub returns-then-is_none-clause-fault : goal.returns-then-is_none-clause-fault
returns-then-is_none-clause-fault c =
    inr (no_main_at c.args.program.now c.args.name.now c.args.place c.in_ok-class.field-0 c.main.result c.in-Some.class
    c.in_ok-class.ensures c.in-Some.is c.main.ensures c.if-is_none.ensures)
