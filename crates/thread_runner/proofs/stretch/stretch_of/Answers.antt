use Rattle.std.proofs.Common.{◌≡◌, Some, subst}
use Rattle.vm_state.specs.declared.initialization.Frames.{Frames}
use Rattle.program.specs.Tables.{Tables}
use Rattle.machine.specs.Effects.{going}
use Rattle.thread_runner.specs.Local.{local_steps}
use Rattle.thread_runner.proofs.LocalLemmas.{leads}
use Rattle.thread_runner.proofs.stretch.stretch_of.Goals as goal

pub returns-in-Ok-clause-leads : goal.returns-in-Ok-clause-leads
returns-in-Ok-clause-leads g c =
    let last = going c.run_local.new.frames in
    let steps = subst (λ (P : Tables). local_steps P c.args.done c.in-Ok.count (going c.args.copy) ≡ Some last)
    c.requires.program c.in-Ok.ensures.steps in
    leads g.O.Origin.program
    (record { from = c.args.frames; done = c.args.done; count = c.in-Ok.count; to = c.run_local.new.frames })
    (subst (λ (s : Frames). local_steps g.O.Origin.program c.args.done c.in-Ok.count (going s) ≡ Some last)
    c.requires.copy steps)
