use Rattle.initializer_analysis.proofs.LeastLemmas.{AreLeast-more}
use Rattle.initializer_analysis.proofs.labels.Least.add.Goals as goal

pub returns : goal.returns
returns c = AreLeast-more c.args.self c.one.result c.join.result c.args.label c.one.ensures c.join.ensures
