use Rattle.std.proofs.Common.{◌≡◌, ◌∙◌, sym, subst}
use Rattle.command_line.specs.Requests.{texts}
use Rattle.cli.specs.declared.status.Status.{Status}
use Rattle.cli.specs.Done.{DidWords, IsAsked}
use Rattle.cli.specs.Left.{WordsHaveLeft}
use Rattle.cli.specs.Status.{IsOver}
use Rattle.cli.proofs.DoneLemmas.{one_status}
use Rattle.cli.proofs.run.command_holding.Goals as goal

pub returns-clause-asked : goal.returns-clause-asked
returns-clause-asked g c = λ status same.
    subst (IsAsked (texts c.args.words.now))
    (one_status c.do_words-status.result.0 status (sym c.code.ensures.code ∙ same)) c.do_words-status.ensures.asked

pub returns-clause-left : goal.returns-clause-left
returns-clause-left g c = λ status same.
    let old = g.F.Files.holds c.args.files.now in
    let new = g.F.Files.holds c.do_words-status.new.files in
    let is : c.do_words-status.result.0 ≡ status =
    one_status c.do_words-status.result.0 status (sym c.code.ensures.code ∙ same) in
    subst (WordsHaveLeft (texts c.args.words.now) old new) is c.do_words-status.ensures.left

pub returns-clause-done : goal.returns-clause-done
returns-clause-done g c = λ status same over.
    let old = g.F.Files.holds c.args.files.now in
    let new = g.F.Files.holds c.do_words-status.new.files in
    let before = g.W.Write.contents c.args.out in
    let after = g.W.Write.contents c.do_words-status.result.2 in
    let is : c.do_words-status.result.0 ≡ status =
    one_status c.do_words-status.result.0 status (sym c.code.ensures.code ∙ same) in
    subst (λ (s : Status). IsOver s → DidWords (texts c.args.words.now) old new before after s) is
    c.do_words-status.ensures.done over
