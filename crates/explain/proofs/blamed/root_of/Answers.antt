use Rattle.explain.proofs.RootsLemmas.{leads_self}
use Rattle.explain.proofs.blamed.root_of.Goals as goal

pub returns-in-None : goal.returns-in-None
returns-in-None c = λ verdicts are. leads_self verdicts c.args.class
