use Rattle.std.proofs.Common.{inr, refl}
use Rattle.image_parser.specs.reading.Flagged.IsIdleFault.{idle}
use Rattle.image_parser.proofs.regions.used.Goals as goal

pub returns-in-Some-clause-idle : goal.returns-in-Some-clause-idle
returns-in-Some-clause-idle c = inr (idle refl (rw c.in-Some.is at c.in_ok-class.ensures))

pub returns-in-None-clause-used : goal.returns-in-None-clause-used
returns-in-None-clause-used c = (refl, rw c.in-None.is at c.in_ok-class.ensures)
