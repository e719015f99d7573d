use Rattle.std.proofs.lemmas.Option.{same_Some}
use Rattle.loading.specs.ClassIds.{IsNamed}
use Rattle.loading.proofs.naming.class_named.Goals as goal

pub returns-in-Some-Given : goal.returns-in-Some-Given
returns-in-Some-Given c = IsNamed.given (rw c.in-Some-Given.field-0-is at c.in-Some-Given.ensures)

pub returns-in-Some-BuiltIn : goal.returns-in-Some-BuiltIn
returns-in-Some-BuiltIn c =
    IsNamed.built_in (same_Some _ _ (rw c.in-Some-BuiltIn.field-0-is at c.in-Some-BuiltIn.ensures))
