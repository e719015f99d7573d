use Rattle.program.proofs.OneProgramLemmas.{one_class}
use Rattle.program.proofs.laws.one_class.Goals as goal

pub returns : goal.returns
returns c = one_class
