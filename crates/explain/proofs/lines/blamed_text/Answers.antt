use Rattle.std.proofs.Common.{◌∙◌, ℕ, List, ◌++◌, ap, arith, string_bytes}
use Rattle.explain.specs.Texts.{IsBlamedLine}
use Rattle.explain.proofs.TextsLemmas.{at_most_more, most_grown}
use Rattle.explain.proofs.lines.blamed_text.Goals as goal

pub loop-one-preserved : goal.loop-one-preserved
loop-one-preserved c =
    most_grown (IsBlamedLine c.args.family.now) c.loop-one.one-index (string_bytes c.loop-one.text)
    (string_bytes c.in_ok-line.line) (string_bytes c.push_str.new.self) c.loop-one.invariant
    (record { class = _; others = _; is = c.in_ok-line.ensures })
    (c.in_ok-push_str.ensures.bytes ∙ ap (λ (t : List ℕ). string_bytes c.loop-one.text ++ t) c.as_str.ensures.value)

pub returns : goal.returns
returns c =
    at_most_more (IsBlamedLine c.args.family.now) c.loop-one.one-index 10 (string_bytes c.loop-one.text)
    (omega (arith, c.requires)) c.loop-one.invariant
