use Rattle.cli.specs.Runs.{texts_of}
use Rattle.cli.proofs.class_files.program_of_texts.Goals as goal

pub returns-clause-program : goal.returns-clause-program
returns-clause-program c =
    let texts = texts_of c.args.files.items in
    (c.linked_if_read.ensures texts c.class_files_of.ensures.files c.class_files_of.ensures.refusal).program

pub returns-clause-refusal : goal.returns-clause-refusal
returns-clause-refusal c =
    let texts = texts_of c.args.files.items in
    (c.linked_if_read.ensures texts c.class_files_of.ensures.files c.class_files_of.ensures.refusal).refusal
