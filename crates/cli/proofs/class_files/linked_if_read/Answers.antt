use Rattle.cli.proofs.RefusalLemmas.{linked_or_not, not_read}
use Rattle.cli.proofs.class_files.linked_if_read.Goals as goal

pub returns-in-Ok : goal.returns-in-Ok
returns-in-Ok c = λ texts are no.
    linked_or_not texts c.in-Ok.classes.items c.linked.result (rw c.in-Ok.is at are) c.linked.ensures.links
    c.linked.ensures.program c.linked.ensures.own_strings c.linked.ensures.refusal

pub returns-in-Err : goal.returns-in-Err
returns-in-Err c = λ texts are no. not_read texts c.in-Err.refusal (rw c.in-Err.is at no)
