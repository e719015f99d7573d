use Rattle.program.specs.Handlers.{IsCaught}
use Rattle.program.proofs.linked_file.LinkedFile.catches_of.Goals as goal

pub returns-then-catch_type-eq0 : goal.returns-then-catch_type-eq0
returns-then-catch_type-eq0 c = rw c.if-catch_type-eq0.true IsCaught.anything

pub returns-else-catch_type-eq0 : goal.returns-else-catch_type-eq0
returns-else-catch_type-eq0 c = IsCaught.class c.if-catch_type-eq0.false c.class_at.ensures
