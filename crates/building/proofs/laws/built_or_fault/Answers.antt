use Rattle.building.proofs.BuiltOrFaultLemmas.{built_or_fault_lem as proof}
use Rattle.building.proofs.laws.built_or_fault.Goals as goal

pub returns : goal.returns
returns c = proof
