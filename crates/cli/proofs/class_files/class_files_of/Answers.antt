use Rattle.cli.proofs.class_files.class_files_of.Goals as goal

pub returns-clause-files : goal.returns-clause-files
returns-clause-files c = rw c.as_slice.ensures.value at c.class_files.ensures.files

pub returns-clause-refusal : goal.returns-clause-refusal
returns-clause-refusal c = rw c.as_slice.ensures.value at c.class_files.ensures.refusal
