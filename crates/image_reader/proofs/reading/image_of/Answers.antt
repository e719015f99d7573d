use Rattle.std.proofs.Common.{refl}
use Rattle.image_reader.proofs.reading.image_of.Goals as goal

pub returns-in-One-clause-told : goal.returns-in-One-clause-told
returns-in-One-clause-told c = rw c.in-One.is c.renewed.ensures.told

pub returns-in-Two-clause-told : goal.returns-in-Two-clause-told
returns-in-Two-clause-told c = rw (c.in-Two.is, c.reached_image.ensures) refl

pub returns-in-Two-clause-family : goal.returns-in-Two-clause-family
returns-in-Two-clause-family c = rw c.reached_image.ensures refl

pub returns-in-Two-clause-program : goal.returns-in-Two-clause-program
returns-in-Two-clause-program c = rw c.reached_image.ensures c.requires.program

pub returns-in-Two-clause-files : goal.returns-in-Two-clause-files
returns-in-Two-clause-files c = rw c.reached_image.ensures c.requires.files
