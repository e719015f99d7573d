use Rattle.std.proofs.Common.{ℕ, List, [], subst}
use Rattle.program.specs.Strings.{all_strings, AreFirsts}
use Rattle.program.specs.steps.GrowingStrings.{Adds}
use Rattle.program.proofs.assembly.class_tables.Goals as goal

pub returns-in-Ok-clause-strings : goal.returns-in-Ok-clause-strings
returns-in-Ok-clause-strings c =
    let all = all_strings c.args.hierarchy.now.family in
    let added : Adds [] all c.classes_of.new.strings =
    subst (λ (old : List (List ℕ)). Adds old all c.classes_of.new.strings) c.new-strings.ensures
    c.in-Ok.ensures.gains.adds in
    added [] AreFirsts.none
