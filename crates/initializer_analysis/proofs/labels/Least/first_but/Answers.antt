use Rattle.initializer_analysis.proofs.LeastLemmas.{IsFirst-but_one}
use Rattle.initializer_analysis.proofs.labels.Least.first_but.Goals as goal

pub returns : goal.returns
returns c = IsFirst-but_one c.args.self c.args.label c.but.result c.but.ensures
