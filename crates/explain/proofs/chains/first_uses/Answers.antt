use Rattle.std.proofs.Common.{◌∙◌}
use Rattle.explain.proofs.ChainsLemmas.{first_uses}
use Rattle.explain.proofs.chains.first_uses.Goals as goal

pub returns : goal.returns
returns c =
    first_uses c.args.program.now c.args.verdicts.now c.requires.verdicts c.deref.result.now
    c.in_ok-first.first.items (c.deref.ensures.value ∙ c.in_ok-refused.ensures) c.in_ok-first.ensures
