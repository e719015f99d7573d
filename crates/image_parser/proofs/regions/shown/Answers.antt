use Rattle.std.proofs.Common.{refl, subst, sym}
use Rattle.image_format.specs.declared.version.Version.{Version}
use Rattle.image_parser.specs.reading.Flagged.{NeedsReached}
use Rattle.image_parser.proofs.regions.shown.Goals as goal

pub returns-in-One-clause-shown : goal.returns-in-One-clause-shown
returns-in-One-clause-shown c = (
  refl,
  subst (λ (v : Version). NeedsReached v c.args.program.now c.args.regions) (sym c.in-One.is) tt,
)

pub returns-in-Two-clause-shown : goal.returns-in-Two-clause-shown
returns-in-Two-clause-shown c = rw c.in-Two.is c.used.ensures.used

pub returns-in-Two-clause-idle : goal.returns-in-Two-clause-idle
returns-in-Two-clause-idle c = rw c.in-Two.is c.used.ensures.idle
