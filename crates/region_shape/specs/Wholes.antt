-- Regions that an image may hold.
use Rattle.semantics.specs.Quiet.{Environment}
use Rattle.program.specs.Tables.{Tables}
use Rattle.region_shape.specs.Counts.{AreClosed}
use Rattle.region_shape.specs.Laws.{HaveShape}
use Rattle.region_shape.specs.Texts.{HaveTexts}

-- Each region has shape, names objects alone that there are (each maker has its region, and that holds the object), and
-- strings of the program alone.
pub record AreWhole (P : Tables) (env : Environment) : Type 0 where
  pub shape : HaveShape P env
  pub closed : AreClosed env
  pub texts : HaveTexts P env
