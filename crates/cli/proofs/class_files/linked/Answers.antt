use Rattle.cli.proofs.RefusalLemmas.{unlinkable_by}
use Rattle.cli.proofs.class_files.linked.Goals as goal

pub returns-in-Err-clause-refusal : goal.returns-in-Err-clause-refusal
returns-in-Err-clause-refusal c =
    unlinkable_by c.args.classes.items c.in-Err.fault c.of_link.result c.in-Err.ensures.fault
    c.of_link.ensures.memory c.of_link.ensures.other
