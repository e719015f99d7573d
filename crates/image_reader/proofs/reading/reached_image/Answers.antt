use Rattle.region_shape.specs.Regions.{environment_of}
use Rattle.image_reader.proofs.ImagesLemmas.{reached, small, whole}
use Rattle.image_reader.proofs.reading.reached_image.Goals as goal

pub of_reached-requires : goal.of_reached-requires
of_reached-requires c =
    let P = c.args.parsed.program in
    let env = environment_of c.args.parsed.regions in
    let holds = c.requires.files.holds.holds in
    record {
      whole = whole c.args.parsed.version P c.requires.program env c.requires.fits holds;
      small = small c.args.parsed.version P c.requires.program env c.requires.fits holds;
      reached = reached c.args.parsed.version P c.requires.program env c.requires.fits holds c.requires.version;
    }
