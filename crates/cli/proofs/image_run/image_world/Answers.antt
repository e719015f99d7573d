use Rattle.cli.proofs.ImageRunLemmas.{refused_image, refused_entry_of}
use Rattle.cli.proofs.ReadBackLemmas.{read_as_built}
use Rattle.cli.proofs.image_run.image_world.Goals as goal

pub returns-in-Err-world-clause-refusal : goal.returns-in-Err-world-clause-refusal
returns-in-Err-world-clause-refusal c = λ counted.
    refused_entry_of c.args.bytes.now c.args.entries.now c.in-Ok.image c.in-Err-world.fault c.of_entry.result
    counted (rw c.program.ensures at c.classes-classes.ensures.fits) c.in-Ok.ensures.text c.in-Err-world.ensures.fault
    c.of_entry.ensures.memory c.of_entry.ensures.other

pub returns-in-Err-clause-refusal : goal.returns-in-Err-clause-refusal
returns-in-Err-clause-refusal c = λ counted.
    refused_image c.args.bytes.now c.args.entries.now c.in-Err.fault c.of_image.result counted c.in-Err.ensures.fault
    c.of_image.ensures.memory c.of_image.ensures.other

pub returns-in-Ok-world-clause-built : goal.returns-in-Ok-world-clause-built
returns-in-Ok-world-clause-built c = read_as_built c.args.bytes.now c.in-Ok.image c.in-Ok.ensures.same

pub returns-in-Ok-world-clause-image : goal.returns-in-Ok-world-clause-image
returns-in-Ok-world-clause-image c = c.in-Ok.ensures.text
