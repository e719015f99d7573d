use Rattle.initializer_analysis.proofs.LeastLemmas.{IsFirst-but}
use Rattle.initializer_analysis.proofs.labels.Least.but.Goals as goal

pub returns : goal.returns
returns c = IsFirst-but c.args.self c.args.other c.unless.result c.unless-2.result c.lesser.result c.unless.ensures
    c.unless-2.ensures c.lesser.ensures
