use Rattle.cli.proofs.RefusalLemmas.{bad_at}
use Rattle.cli.proofs.class_files.class_file.Goals as goal

pub returns-in-Err-clause-refusal : goal.returns-in-Err-clause-refusal
returns-in-Err-clause-refusal c =
    bad_at c.args.place c.args.bytes.now c.in-Err.fault c.of_class.result c.in-Err.ensures.fault
    c.of_class.ensures.memory c.of_class.ensures.other
