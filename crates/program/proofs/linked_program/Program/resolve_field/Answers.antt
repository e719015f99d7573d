use Rattle.std.proofs.Common.{subst, sym, ◌∙◌, ap}
use Rattle.program.specs.References.{ResolvesFieldOf}
use Rattle.program.specs.steps.PoolFields.{pool_field}
use Rattle.program.proofs.PoolFieldsLemmas.{field_answered}
use Rattle.program.proofs.linked_program.Program.resolve_field.Goals as goal

pub returns : goal.returns
returns c =
    let program = c.args.self.now in
    subst (ResolvesFieldOf program.family c.args.class c.args.index)
    (sym (c.pool_field.ensures ∙ ap pool_field c.constant.ensures))
    (field_answered program c.classes-classes.ensures.fits c.args.class c.args.index)
