use Rattle.cli.proofs.NotRunLemmas.{refused_files, refused_images}
use Rattle.cli.proofs.laws.refused_are_not_run.Goals as goal

pub returns-clause-files : goal.returns-clause-files
returns-clause-files c = refused_files

pub returns-clause-images : goal.returns-clause-images
returns-clause-images c = refused_images
