use Rattle.cli.proofs.RefusalLemmas.{refused_by}
use Rattle.cli.proofs.lazy.started.Goals as goal

pub returns-in-Err-clause-refusal : goal.returns-in-Err-clause-refusal
returns-in-Err-clause-refusal c =
    refused_by c.args.program c.args.entries.now c.in-Err.fault c.of_entry.result c.in-Err.ensures.fault
    c.of_entry.ensures.memory c.of_entry.ensures.other
