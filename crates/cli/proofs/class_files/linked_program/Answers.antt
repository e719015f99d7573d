use Rattle.cli.specs.Runs.{texts_of}
use Rattle.cli.proofs.class_files.linked_program.Goals as goal

pub returns-clause-program : goal.returns-clause-program
returns-clause-program c =
    let texts = texts_of c.args.files.now in
    (c.linked_if_read.ensures texts c.class_files.ensures.files c.class_files.ensures.refusal).program

pub returns-clause-refusal : goal.returns-clause-refusal
returns-clause-refusal c =
    let texts = texts_of c.args.files.now in
    (c.linked_if_read.ensures texts c.class_files.ensures.files c.class_files.ensures.refusal).refusal
