use Rattle.std.proofs.Common.{◌∙◌}
use Rattle.region_shape.specs.Regions.{environment_of}
use Rattle.object_graph.proofs.ProgramsLemmas.{class_count}
use Rattle.image_parser.proofs.FlagReadsLemmas.{all_fail, all_read}
use Rattle.image_parser.proofs.flags.flags_at.Goals as goal

pub returns-in-Ok : goal.returns-in-Ok
returns-in-Ok c =
    all_read c.args.version c.args.program.now c.push_flags_at.new.program c.given_count-count.result
    (environment_of c.push_flags_at.new.regions) c.args.bytes.now c.in-Ok.rest.now
    (c.given_count-count.ensures.value ∙ class_count c.args.program.now c.classes-classes.ensures.fits) c.in-Ok.ensures

pub returns : goal.returns
returns c = (
  all_fail c.args.version c.args.program.now c.given_count-count.result c.in-Err.fault c.args.bytes.now
      (c.given_count-count.ensures.value ∙ class_count c.args.program.now c.classes-classes.ensures.fits)
      c.in-Err.ensures.0,
  c.in-Err.ensures.1,
)
