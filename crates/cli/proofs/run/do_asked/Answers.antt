use Rattle.std.proofs.Common.{inl, inr, subst}
use Rattle.command_line.specs.declared.request.Request.{Request}
use Rattle.cli.specs.Done.{IsDone}
use Rattle.cli.specs.Files.{Contents}
use Rattle.cli.specs.Outputs.{IsApart}
use Rattle.cli.specs.Running.{IsOfRun}
use Rattle.cli.specs.Status.{IsOver}
use Rattle.cli.proofs.DoneLemmas.{held_before, refused_is_not_over}
use Rattle.std.proofs.Common.{◌∙◌}
use Rattle.cli.specs.Left.{HasLeft}
use Rattle.cli.proofs.run.do_asked.Goals as goal

pub returns-in-Ok-clause-refused : goal.returns-in-Ok-clause-refused
returns-in-Ok-clause-refused g c = λ refused.
    let before = g.W.Write.contents c.args.out in
    let after = g.W.Write.contents c.do_listed.result.2 in
    elim (c.do_listed.ensures.refused refused) [
      | inl same ↦ inl same
      | inr run ↦ inr (held_before (g.F.Files.holds c.args.files.now) (g.F.Files.holds c.words_given.new.files)
          c.args.asked (λ (holds : Contents) (request : Request). IsOfRun holds request before after)
          c.words_given.ensures.same run)
    ]

pub returns-in-Ok-clause-done : goal.returns-in-Ok-clause-done
returns-in-Ok-clause-done g c = λ over.
    let new = g.F.Files.holds c.do_listed.new.files in
    let before = g.W.Write.contents c.args.out in
    let after = g.W.Write.contents c.do_listed.result.2 in
    held_before (g.F.Files.holds c.args.files.now) (g.F.Files.holds c.words_given.new.files) c.args.asked
    (λ (holds : Contents) (request : Request).
    IsApart request × IsDone holds new before after request c.do_listed.result.0)
    c.words_given.ensures.same (c.do_listed.ensures.done over)

pub returns-in-Err-clause-done : goal.returns-in-Err-clause-done
returns-in-Err-clause-done g c = λ over.
    absurd (refused_is_not_over c.in-Err.refusal (subst IsOver c.refuse_asked.ensures over))

pub returns-in-Ok-clause-words : goal.returns-in-Ok-clause-words
returns-in-Ok-clause-words g c = λ words.
    let told = c.do_listed.ensures.words words in (told.0, told.1 ∙ c.words_given.ensures.same)

pub returns-in-Ok-clause-left : goal.returns-in-Ok-clause-left
returns-in-Ok-clause-left g c =
    let new = g.F.Files.holds c.do_listed.new.files in
    elim c.do_listed.ensures.left [
      | inl same ↦ inl (same ∙ c.words_given.ensures.same)
      | inr left ↦ inr (held_before (g.F.Files.holds c.args.files.now) (g.F.Files.holds c.words_given.new.files)
          c.args.asked (λ (holds : Contents) (request : Request). HasLeft holds new request c.do_listed.result.0)
          c.words_given.ensures.same left)
    ]
