use Rattle.std.proofs.Common.{◌∙◌, inl, inr, refl}
use Rattle.cli.specs.Files.{Contents}
use Rattle.cli.specs.Done.{IsDone}
use Rattle.cli.specs.Outputs.{IsApart}
use Rattle.cli.specs.Running.{IsOfRun}
use Rattle.command_line.specs.Requests.{texts}
use Rattle.command_line.specs.declared.request.Request.{Request}
use Rattle.cli.proofs.DoneLemmas.{asked_for, help_if_over}
use Rattle.cli.specs.Left.{HasLeft}
use Rattle.cli.proofs.run.do_words.Goals as goal

pub returns-in-None-clause-refused : goal.returns-in-None-clause-refused
returns-in-None-clause-refused g c = λ refused.
    let before = g.W.Write.contents c.args.out in
    let after = g.W.Write.contents c.do_asked.result.2 in
    elim (c.do_asked.ensures.refused refused) [
      | inl same ↦ inl same
      | inr run ↦ inr (asked_for (texts c.args.words.now) (g.F.Files.holds c.args.files.now)
          (g.F.Files.holds c.overwritten_list.new.files) c.in-Ok.asked
          (λ (holds : Contents) (request : Request). IsOfRun holds request before after) c.in-Ok.ensures
          (c.overwritten_list.ensures.apart c.in-None.is) c.overwritten_list.ensures.same run)
    ]

pub returns-in-None-clause-done : goal.returns-in-None-clause-done
returns-in-None-clause-done g c = λ over.
    let before = g.W.Write.contents c.args.out in
    let after = g.W.Write.contents c.do_asked.result.2 in
    let new = g.F.Files.holds c.do_asked.new.files in
    inr (asked_for (texts c.args.words.now) (g.F.Files.holds c.args.files.now)
    (g.F.Files.holds c.overwritten_list.new.files) c.in-Ok.asked
    (λ (holds : Contents) (request : Request).
    IsApart request × IsDone holds new before after request c.do_asked.result.0) c.in-Ok.ensures
    (c.overwritten_list.ensures.apart c.in-None.is) c.overwritten_list.ensures.same (c.do_asked.ensures.done over))

pub returns-in-None-clause-words : goal.returns-in-None-clause-words
returns-in-None-clause-words g c = λ words.
    let told = c.do_asked.ensures.words words in (told.0, told.1 ∙ c.overwritten_list.ensures.same)

pub returns-in-None-clause-left : goal.returns-in-None-clause-left
returns-in-None-clause-left g c =
    let new = g.F.Files.holds c.do_asked.new.files in
    elim c.do_asked.ensures.left [
      | inl same ↦ inl (same ∙ c.overwritten_list.ensures.same)
      | inr left ↦ inr (asked_for (texts c.args.words.now) (g.F.Files.holds c.args.files.now)
          (g.F.Files.holds c.overwritten_list.new.files) c.in-Ok.asked
          (λ (holds : Contents) (request : Request). HasLeft holds new request c.do_asked.result.0) c.in-Ok.ensures
          (c.overwritten_list.ensures.apart c.in-None.is) c.overwritten_list.ensures.same left)
    ]

pub returns-in-None-clause-asked : goal.returns-in-None-clause-asked
returns-in-None-clause-asked g c = inl (c.in-Ok.asked, c.in-Ok.ensures)

pub returns-in-Some-clause-asked : goal.returns-in-Some-clause-asked
returns-in-Some-clause-asked g c = inl (c.in-Ok.asked, c.in-Ok.ensures)

pub returns-in-Err-clause-asked : goal.returns-in-Err-clause-asked
returns-in-Err-clause-asked g c = inr (c.tell_words.ensures.asked (texts c.args.words.now) c.in-Err.ensures)

pub returns-in-Err-clause-done : goal.returns-in-Err-clause-done
returns-in-Err-clause-done g c = λ over.
    inl (
      refl,
      help_if_over (texts c.args.words.now) c.tell_words.result over
          (c.tell_words.ensures.asked (texts c.args.words.now) c.in-Err.ensures),
      c.tell_words.ensures.done over,
    )
