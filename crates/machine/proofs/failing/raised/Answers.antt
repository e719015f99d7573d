use Rattle.vm_state.specs.Shares.{shared_of}
use Rattle.machine.proofs.FailuresLemmas.{by_parent}
use Rattle.machine.proofs.failing.raised.Goals as goal

pub returns-in-Ok-clause-row : goal.returns-in-Ok-clause-row
returns-in-Ok-clause-row c =
    λ t p. by_parent c.args.program.now t c.args.maker (shared_of c.args.shared.now p) c.args.cause _ c.in_default.is
    (c.in-Ok.ensures.row t p)
