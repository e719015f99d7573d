use Rattle.std.proofs.Common.{◌≡◌, take, string_bytes, codes}
use Rattle.std.specs.List.{flat_map}
use Rattle.initializer_analysis.specs.declared.verdict.Reason.TheVariants as reasons
use Rattle.explain.specs.Texts.{place_line}
use Rattle.explain.proofs.reason_lines.call_lines.Given as goal

abbrev pub invariant-loop-call : goal.invariant-loop-call
invariant-loop-call l = string_bytes l.text
    ≡ flat_map (λ call. place_line l.family l.class (reasons.Marked l.mark) (codes "in") call)
    (take l.call-index l.path)
