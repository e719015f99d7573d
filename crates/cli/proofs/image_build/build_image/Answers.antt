use Rattle.std.proofs.Common.{lit<}
use Rattle.cli.specs.Runs.{texts_of}
use Rattle.cli.proofs.ImageBuildLemmas.{are_short}
use Rattle.cli.proofs.image_build.build_image.Goals as goal

pub image_bytes-requires : goal.image_bytes-requires
image_bytes-requires g c =
    are_short (texts_of c.args.files.now) 4294967295 c.in-Ok.built.image.program (lit< tt) c.requires
    c.in-Ok.ensures.build.program

pub returns-in-Ok-image_bytes-clause-image : goal.returns-in-Ok-image_bytes-clause-image
returns-in-Ok-image_bytes-clause-image g c =
    c.in-Ok-image_bytes.ensures.built (texts_of c.args.files.now) c.args.options.now c.in-Ok.ensures.build
