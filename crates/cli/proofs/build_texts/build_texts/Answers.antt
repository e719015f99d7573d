use Rattle.std.proofs.Common.{lit<}
use Rattle.cli.specs.Runs.{texts_of}
use Rattle.cli.proofs.ImageBuildLemmas.{are_short}
use Rattle.cli.proofs.build_texts.build_texts.Goals as goal

pub texts_of_watched-requires : goal.texts_of_watched-requires
texts_of_watched-requires g c = record {
  short = are_short (texts_of c.args.files.now) 4294967295 c.in-Ok.built.image.program (lit< tt) c.requires
      c.in-Ok.ensures.build.program;
  waves = c.in-Ok.ensures.build.waves;
}

pub returns-in-Ok-texts_of_watched : goal.returns-in-Ok-texts_of_watched
returns-in-Ok-texts_of_watched g c =
    c.in-Ok-texts_of_watched.ensures (texts_of c.args.files.now) c.in-Ok.ensures.build
