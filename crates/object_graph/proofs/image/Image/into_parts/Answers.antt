use Rattle.std.proofs.Common.{subst}
use Rattle.region_shape.specs.Regions.{environment_of}
use Rattle.object_graph.specs.Cuts.{AreReached}
use Rattle.object_graph.specs.Images.{ImageTables}
use Rattle.object_graph.proofs.image.Image.into_parts.Goals as goal

pub returns-clause-reached : goal.returns-clause-reached
returns-clause-reached c =
    subst (λ (I : ImageTables). AreReached I.program (environment_of I.regions)) c.self.view_is c.self.invariant.2
