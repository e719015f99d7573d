use Rattle.program.proofs.resolver.Resolver.field_at.Goals as goal

pub returns-in-Ok-clause-target : goal.returns-in-Ok-clause-target
returns-in-Ok-clause-target c = (c.in-Ok.field, c.in-Ok.ensures.field, c.targeted.ensures)
