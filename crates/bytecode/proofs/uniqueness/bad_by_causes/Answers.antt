use Rattle.bytecode.proofs.CausesLemmas.{cause_is_bad}
use Rattle.bytecode.proofs.AllCausesLemmas.{bad_has_cause}
use Rattle.bytecode.proofs.uniqueness.bad_by_causes.Goals as goal

pub returns : goal.returns
returns c = record { only = cause_is_bad; all = bad_has_cause }
