use Rattle.image_parser.proofs.ImageLemmas.{fails_in}
use Rattle.image_parser.proofs.image.of_linked.Goals as goal

pub returns-in-Err-clause-fault : goal.returns-in-Err-clause-fault
returns-in-Err-clause-fault c =
    fails_in c.args.version c.args.parts.now c.in-Err.fault (rw c.in-Err.is at c.requires.fault)
