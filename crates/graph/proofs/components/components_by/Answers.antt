use Rattle.std.proofs.lemmas.Result.{IfOk-weaker}
use Rattle.graph.specs.Components.{Parts, AreComponents}
use Rattle.graph.specs.steps.Numbering.{AreNumbered}
use Rattle.graph.proofs.ReverseLemmas.{finishing_turned}
use Rattle.graph.proofs.NumberedLemmas.{numbered_all}
use Rattle.graph.proofs.components.components_by.Goals as goal

pub numbered-requires : goal.numbered-requires
numbered-requires c =
    finishing_turned c.args.graph.now c.in_ok-back.back c.args.order.now c.in_ok-back.ensures c.requires

pub returns : goal.returns
returns c =
    IfOk-weaker c.numbered.result (λ (parts : Parts). AreNumbered c.in_ok-back.back parts)
    (λ (parts : Parts). AreComponents c.args.graph.now parts)
    (λ parts s. numbered_all c.args.graph.now c.in_ok-back.back parts c.in_ok-back.ensures s)
    c.numbered.ensures
