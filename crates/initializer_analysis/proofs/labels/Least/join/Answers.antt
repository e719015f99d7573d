use Rattle.initializer_analysis.proofs.LeastLemmas.{AreLeast-joined}
use Rattle.initializer_analysis.proofs.labels.Least.join.Goals as goal

pub returns : goal.returns
returns c =
    AreLeast-joined c.args.self c.args.other c.lesser-first.result c.lesser-second.result c.lesser.result
    c.lesser-2.result c.but.result c.but-2.result c.lesser.ensures c.lesser-2.ensures c.lesser-first.ensures
    c.but.ensures c.but-2.ensures c.lesser-second.ensures
