use Rattle.std.proofs.Common.{map, length}
use Rattle.std.specs.String.{string_bytes}
use Rattle.std.proofs.lemmas.Result.{IfOk-weaker}
use Rattle.options.specs.Classes.{AreClasses}
use Rattle.options.specs.steps.Covering.{IsCoveredClass, IsMatchedClass}
use Rattle.options.proofs.MatchedLemmas.{classes_covered}
use Rattle.options.proofs.matching.matched_among.Goals as goal

pub returns-in-Ok-clause-flags : goal.returns-in-Ok-clause-flags
returns-in-Ok-clause-flags c =
    let names = c.args.names.now in
    let patterns = map string_bytes c.args.patterns.now in
    IfOk-weaker c.flags_of.result (λ flags. AreClasses flags.items (IsCoveredClass names c.deref.result.now))
    (λ flags. AreClasses flags.items (IsMatchedClass names patterns))
    (λ flags are. classes_covered names patterns (length names) c.deref.result.now flags.items
    (rw c.deref.ensures.value c.in-Ok.ensures.covers) are) c.flags_of.ensures.flags
