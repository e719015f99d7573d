use Rattle.std.proofs.Common.{inl, inr}
use Rattle.command_line.specs.declared.request.Request.{Request}
use Rattle.cli.specs.Done.{IsDone}
use Rattle.cli.specs.Outputs.{IsApart}
use Rattle.cli.specs.Running.{IsOfRun}
use Rattle.cli.proofs.DoneLemmas.{with_lists}
use Rattle.cli.specs.Left.{HasLeft}
use Rattle.cli.proofs.run.do_listed.Goals as goal

pub returns-in-Ok-clause-refused : goal.returns-in-Ok-clause-refused
returns-in-Ok-clause-refused g c = λ refused.
    let holds = g.F.Files.holds c.args.files.now in
    let before = g.W.Write.contents c.args.out in
    let after = g.W.Write.contents c.do_given.result.2 in
    elim (c.do_given.ensures.refused refused) [
      | inl same ↦ inl same
      | inr run ↦ inr (with_lists holds c.args.listed.asked c.in-Ok.names c.args.listed.given.now
          (λ (request : Request). IsOfRun holds request before after) c.with_files-request.result c.requires
          c.in-Ok.ensures c.with_files-request.ensures run)
    ]

pub returns-in-Ok-clause-done : goal.returns-in-Ok-clause-done
returns-in-Ok-clause-done g c = λ over.
    let holds = g.F.Files.holds c.args.files.now in
    let new = g.F.Files.holds c.do_given.new.files in
    let before = g.W.Write.contents c.args.out in
    let after = g.W.Write.contents c.do_given.result.2 in
    with_lists holds c.args.listed.asked c.in-Ok.names c.args.listed.given.now
    (λ (request : Request). IsApart request × IsDone holds new before after request c.do_given.result.0)
    c.with_files-request.result c.requires c.in-Ok.ensures c.with_files-request.ensures
    (c.do_given.ensures.done over)

pub returns-in-Ok-clause-left : goal.returns-in-Ok-clause-left
returns-in-Ok-clause-left g c =
    let holds = g.F.Files.holds c.args.files.now in
    let new = g.F.Files.holds c.do_given.new.files in
    inr (with_lists holds c.args.listed.asked c.in-Ok.names c.args.listed.given.now
    (λ (request : Request). HasLeft holds new request c.do_given.result.0) c.with_files-request.result c.requires
    c.in-Ok.ensures c.with_files-request.ensures c.do_given.ensures.left)
