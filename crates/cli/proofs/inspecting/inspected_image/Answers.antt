use Rattle.cli.proofs.RenewedLemmas.{refused_renewal}
use Rattle.cli.proofs.inspecting.inspected_image.Goals as goal

pub returns-clause-refusal : goal.returns-clause-refusal
returns-clause-refusal c =
    refused_renewal c.args.bytes.now c.in-Err.fault c.of_image.result c.in-Err.ensures.fault
    c.of_image.ensures.memory c.of_image.ensures.other
