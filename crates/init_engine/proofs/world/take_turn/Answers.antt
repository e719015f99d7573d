use Rattle.std.proofs.Common.{rules}
use Rattle.machine.specs.Linked.{program_of}
use Rattle.init_engine.proofs.ThreadLemmas.{turn_moved, turn_printed, turn_ended, turn_waits}
use Rattle.init_engine.proofs.world.take_turn.Goals as goal

pub returns-in-Moved-clause-turn : goal.returns-in-Moved-clause-turn
returns-in-Moved-clause-turn c =
    rw (c.in-Going.is, rw c.in-Moved.is at c.in_ok-step_thread.ensures.printed)
    (turn_moved (program_of c.args.program.now) c.args.number c.in-Going.frames c.step_thread.new.frames
    c.args.shared.now
    c.step_thread.new.shared c.args.printed.now (search rules)
    (rw c.in-Moved.is at c.in_ok-step_thread.ensures.steps))

pub returns-in-Printed-clause-turn : goal.returns-in-Printed-clause-turn
returns-in-Printed-clause-turn c =
    rw c.in-Going.is
    (turn_printed (program_of c.args.program.now) c.args.number c.in-Going.frames c.step_thread.new.frames
    c.args.shared.now
    c.step_thread.new.shared c.args.printed.now (search rules) _ _
    (rw c.in-Printed.is at c.in_ok-step_thread.ensures.steps)
    (rw c.in-Printed.is at c.in_ok-step_thread.ensures.printed))

pub returns-in-Ended-clause-turn : goal.returns-in-Ended-clause-turn
returns-in-Ended-clause-turn c =
    rw (c.in-Going.is, rw c.in-Ended.is at c.in_ok-step_thread.ensures.printed)
    (turn_ended (program_of c.args.program.now) c.args.number c.in-Going.frames c.step_thread.new.frames
    c.args.shared.now
    c.step_thread.new.shared c.args.printed.now (search rules) c.in-Ended.end
    (rw c.in-Ended.is at c.in_ok-step_thread.ensures.steps))

pub returns-in-Waits-clause-turn : goal.returns-in-Waits-clause-turn
returns-in-Waits-clause-turn c =
    rw c.in-Going.is
    (turn_waits (program_of c.args.program.now) c.args.number c.in-Going.frames c.step_thread.new.frames
    c.args.shared.now
    c.step_thread.new.shared c.args.printed.now (search rules) _
    (rw c.in-Waits.is at c.in_ok-step_thread.ensures.steps) (rw c.in-Waits.is at c.in_ok-step_thread.ensures.stays)
    (rw c.in-Waits.is at c.in_ok-step_thread.ensures.printed))
