use Rattle.std.proofs.Common.{[], ◌∙◌, sym}
use Rattle.machine.specs.Linked.{program_of}
use Rattle.vm_state.specs.Segments.{frames_of}
use Rattle.semantics.specs.Quiet.{quiet_step, QuietMove, Refused, Raised, Faulted, Barred}
use Rattle.evaluator.specs.Outcomes.{stop_of}
use Rattle.region_shape.specs.Regions.{region_of, environment_of}
use Rattle.evaluator.specs.steps.Builds.{stopped_build}
use Rattle.evaluator.specs.steps.Within.{capped}
use Rattle.evaluator.proofs.StepsLemmas.{step_on, step_full, step_stops, heard}
use Rattle.evaluator.proofs.step.take_step.Goals as goal
use Rattle.evaluator.proofs.step.take_step.Goals.{in-Stands, in-Nothing, in-Prints, in-Raises, in-NoRoom, in-Halts}

pub returns-in-Err : goal.returns-in-Err
returns-in-Err c =
    let P = program_of c.args.given.program.now in
    let env = environment_of c.args.given.regions.now in
    let own = region_of c.args.store.now.own in
    let f = c.args.segment.now.innermost in
    step_stops P env c.args.given.class c.args.most f c.args.segment.now.callers own
    (stop_of c.in_ok-halted-in-Err.field-0)
    (heard c.in-Err.stop (capped c.args.most (quiet_step P env c.args.given.class f own))
    (stopped_build c.in-Err.stop)
    c.in_ok-halted-in-Err.ensures.other c.in-Err.ensures.performs ∙ c.in_ok-halted-in-Err.ensures.ok)

pub returns : goal.returns
returns c =
    let P = program_of c.args.given.program.now in
    let env = environment_of c.args.given.regions.now in
    let k = c.args.given.class in
    let most = c.args.most in
    let f = c.args.segment.now.innermost in
    let fs = c.args.segment.now.callers in
    let own = region_of c.args.store.now.own in
    let is = c.in-Ok.ensures.performs in
    let same = sym c.in-Ok.ensures.activity in
    let kept = c.in-Ok.ensures.frame in
    let after = c.perform.new.store in
    let left = c.in_ok-conclude.ensures.ok in
    elim c.match-branch-3.branch [
      | in-Stands w ↦
          let l = (rw w.in-Stands.is at left) f same kept in
          let m : QuietMove = record { move = l.0; region = region_of after.own; elements = after.made } in
          rw w.result-is (step_on P env k most f fs (frames_of c.conclude.new.segment) own m (rw l.1 at is) l.2)
      | in-Nothing w ↦
          let l = ((rw w.in-Nothing.is at left) f same kept).0 in
          let m : QuietMove = record { move = l.0; region = region_of after.own; elements = after.made } in
          rw w.result-is (step_on P env k most f fs [] own m (rw l.1 at is) l.2)
      | in-NoRoom w ↦
          let l = ((rw w.in-NoRoom.is at left) f same kept).0 in
          let m : QuietMove = record { move = l.0; region = region_of after.own; elements = after.made } in
          rw w.result-is (step_full P env k most f fs own m (rw l.1 at is) l.2)
      | in-Prints w ↦
          rw w.result-is (step_stops P env k most f fs own Barred (rw (rw w.in-Prints.is at left).0 at is))
      | in-Raises w ↦
          rw w.result-is (step_stops P env k most f fs own (Refused Raised) (rw (rw w.in-Raises.is at left).0 at is))
      | in-Halts w ↦
          rw w.result-is (step_stops P env k most f fs own (Refused Faulted) (rw (rw w.in-Halts.is at left).0 at is))
    ]
