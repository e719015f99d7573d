use Rattle.std.proofs.Common.{◌≡◌, rules}
use Rattle.frame_instructions.specs.Completion.{completed}
use Rattle.machine.proofs.TableLocalLemmas.{next_local, next_other, local_activity}
use Rattle.machine.proofs.execute.execute_next.Goals as goal

pub returns-in-None-clause-gives : goal.returns-in-None-clause-gives
returns-in-None-clause-gives g c =
    λ p. rw (
      next_other c.args.given.program.now c.args.class c.args.method c.args.frame.now c.in-Some.instruction.now
          (search rules) (search rules),
      ← c.resolved_operation-resolved.ensures,
      ← c.in-None.ensures.none,
    )
    (c.execute_resolved.ensures.gives p)

pub returns-in-Some-execute_local-clause-gives : goal.returns-in-Some-execute_local-clause-gives
returns-in-Some-execute_local-clause-gives g c =
    λ p. rw (next_local c.args.given.program.now c.args.class c.args.method c.args.frame.now c.in-Some.instruction.now
    (search rules)
    (completed c.in-Some-execute_local.went c.execute_local.new.frame)
    (search rules)) (c.end.ensures.gives p)

pub returns-in-Some-execute_local-clause-kept : goal.returns-in-Some-execute_local-clause-kept
returns-in-Some-execute_local-clause-kept g c =
    let activity : c.execute_local.new.frame.activity ≡ c.args.frame.now.activity =
    local_activity c.args.frame.now c.execute_local.new.frame c.in-Some.instruction.now c.in-Some-execute_local.went
    (search rules) (search rules) in
    record { same = search rules; frame = search rules; activity = activity }
