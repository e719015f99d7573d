use Rattle.std.proofs.Common.{subst, sym, ◌∙◌, ap}
use Rattle.program.specs.References.{ResolvesMethodOf}
use Rattle.program.specs.steps.PoolFields.{pool_method}
use Rattle.program.proofs.PoolFieldsLemmas.{method_answered}
use Rattle.program.proofs.linked_program.Program.resolve_method.Goals as goal

pub returns : goal.returns
returns c =
    let program = c.args.self.now in
    subst (ResolvesMethodOf program.family c.args.class c.args.index)
    (sym (c.pool_method.ensures ∙ ap pool_method c.constant.ensures))
    (method_answered program c.classes-classes.ensures.fits c.args.class c.args.index)
