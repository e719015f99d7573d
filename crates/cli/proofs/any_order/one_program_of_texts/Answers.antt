use Rattle.cli.proofs.AnyOrderLemmas.{one_program, still_program}
use Rattle.cli.proofs.any_order.one_program_of_texts.Goals as goal

pub returns-clause-same : goal.returns-clause-same
returns-clause-same c = still_program

pub returns-clause-one : goal.returns-clause-one
returns-clause-one c = one_program
