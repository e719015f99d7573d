use Rattle.std.proofs.Common.{◌∙◌, sym}
use Rattle.init_engine.specs.Schedules.{schedule_of}
use Rattle.init_engine.specs.Turns.{world_of}
use Rattle.cli.specs.CommandFault.{refusal_status}
use Rattle.cli.proofs.JournaledLemmas.{cut_if_refused, ended_with_journal, journaled_cut_at_end}
use Rattle.cli.proofs.LeftLemmas.{run_left, written_if_over}
use Rattle.cli.proofs.run.run_and_tell.Goals as goal

pub returns-in-Ok-clause-refused : goal.returns-in-Ok-clause-refused
returns-in-Ok-clause-refused g c = λ refused.
    journaled_cut_at_end c.args.words.now.turns c.args.words.now.limit c.args.start.program
    (world_of c.args.start.world) (g.W.Write.contents c.args.out)
    (g.W.Write.contents c.run_as_said-outcome.result.1) c.in-Ok.ran
    (rw c.in-Ok.is at c.run_as_said-outcome.ensures)

pub returns-in-Ok-clause-left : goal.returns-in-Ok-clause-left
returns-in-Ok-clause-left g c =
    run_left (g.F.Files.holds c.args.files.now) (g.F.Files.holds c.tell_run_and_stacks-status.new.files)
    c.args.words.now c.args.start.program (world_of c.args.start.world) (g.W.Write.contents c.args.out)
    (g.W.Write.contents c.run_as_said-outcome.result.1) c.in-Ok.ran c.tell_run_and_stacks-status.result
    (rw c.in-Ok.is at c.run_as_said-outcome.ensures) c.tell_run_and_stacks-status.ensures.journal

pub returns-in-Ok-clause-done : goal.returns-in-Ok-clause-done
returns-in-Ok-clause-done g c = λ over.
    let old = g.F.Files.holds c.args.files.now in
    let new = g.F.Files.holds c.tell_run_and_stacks-status.new.files in
    ended_with_journal old new c.args.words.now c.args.start.program (world_of c.args.start.world)
    (g.W.Write.contents c.args.out) (g.W.Write.contents c.run_as_said-outcome.result.1) c.in-Ok.ran
    c.tell_run_and_stacks-status.result (rw c.in-Ok.is at c.run_as_said-outcome.ensures)
    (c.tell_run_and_stacks-status.ensures.told over)
    (written_if_over old new c.args.words.now.journal (schedule_of c.in-Ok.ran.journal)
    c.tell_run_and_stacks-status.result over c.tell_run_and_stacks-status.ensures.journal)

pub returns-in-Err-clause-refused : goal.returns-in-Err-clause-refused
returns-in-Err-clause-refused g c = λ refused.
    cut_if_refused c.args.start.program (world_of c.args.start.world) (g.W.Write.contents c.args.out)
    (g.W.Write.contents c.run_as_said-outcome.result.1) (refusal_status c.in-Err.refusal)
    (rw c.in-Err.is at c.run_as_said-outcome.ensures) (sym c.refuse.ensures ∙ refused)
