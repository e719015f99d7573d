use Rattle.std.proofs.Common.{◌∙◌}
use Rattle.std.proofs.lemmas.Result.{IfOk-weaker}
use Rattle.use_graph.specs.steps.Bodies.{AreUsesOf, AreBodyUses}
use Rattle.use_graph.proofs.BodiesLemmas.{are_body_uses}
use Rattle.use_graph.proofs.body.body_uses.Goals as goal

pub returns-in-Ok-clause-uses : goal.returns-in-Ok-clause-uses
returns-in-Ok-clause-uses c =
    IfOk-weaker c.uses_of.result (AreUsesOf c.args.program.now c.deref.result.now)
    (AreBodyUses c.args.program.now c.args.method)
    (λ uses are. are_body_uses c.args.program.now c.args.method c.deref.result.now uses
    (c.deref.ensures.value ∙ c.in-Ok.ensures) are) c.uses_of.ensures.uses
