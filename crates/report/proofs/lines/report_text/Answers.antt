use Rattle.std.proofs.Common.{◌≡◌, ◌∙◌, ◌<◌, length, sym, ap, arith, string_bytes}
use Rattle.std.proofs.lemmas.List.{get_or_default}
use Rattle.program.specs.Tables.{Tables}
use Rattle.report.proofs.LinesLemmas.{report_more}
use Rattle.report.proofs.lines.report_text.Goals as goal

pub loop-class-preserved : goal.loop-class-preserved
loop-class-preserved c =
    let many : c.given_count-class-end.result ≡ length c.args.verdicts.now =
    c.given_count-class-end.ensures.value ∙ ap (λ (P : Tables). length P.classes) c.program.ensures ∙ sym c.requires in
    let low : c.loop-class.class < length c.args.verdicts.now = omega (arith, many, c.loop-class-test.true) in
    report_more c.args.image.now c.loop-class.class c.args.verdicts.now _ (string_bytes c.loop-class.text)
    (string_bytes c.add_line.new.text) low (get_or_default c.args.verdicts.now c.loop-class.class _ _ low)
    c.loop-class.invariant c.in_ok-add_line.ensures
