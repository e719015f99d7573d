-- What is made of the regions of settled classes.
use Rattle.std.specs.Prelude.{◌≡◌}
use Rattle.program.specs.Tables.{Tables}
use Rattle.region_shape.specs.Regions.{environment_of}
use Rattle.wave_scheduler.specs.declared.outcome.Settled.{Settled}
use Rattle.object_graph.specs.Cuts.{IsCutOf}
use Rattle.building.specs.declared.build.Built.{Built}

-- the image of these regions, without the objects that no static field reaches, with the verdicts
pub record IsGathered (P : Tables) (settled : Settled) (built : Built) : Type 0 where
  pub program : built.image.program ≡ P
  pub cut : IsCutOf P (environment_of settled.regions) (environment_of built.image.regions)
  pub verdicts : built.verdicts ≡ settled.verdicts
