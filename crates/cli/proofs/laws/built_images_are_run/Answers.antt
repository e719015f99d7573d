use Rattle.cli.proofs.BuiltRunLemmas.{built_images as proof}
use Rattle.cli.proofs.laws.built_images_are_run.Goals as goal

pub returns : goal.returns
returns c = proof
