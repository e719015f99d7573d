use Rattle.std.proofs.Common.{sym, ◌∙◌}
use Rattle.classfile.proofs.PrintingLemmas.{last_at, pair_at, lone_at}
use Rattle.classfile.proofs.printing.first_character.Goals as goal

pub returns-in_default-clause-first : goal.returns-in_default-clause-first
returns-in_default-clause-first c =
    last_at _ _ _ _ c.in_ok-first.ensures.cases.0 c.in_default.ensures.cases c.character_alone.ensures

pub returns-in-Some-character_of_pair-clause-first : goal.returns-in-Some-character_of_pair-clause-first
returns-in-Some-character_of_pair-clause-first c =
    pair_at _ _ _ _ _ _ c.in_ok-first.ensures.cases.0 c.in-Some.ensures.cases.0
    (sym c.character_of_pair.ensures ∙ c.in-Some-character_of_pair.is)

pub returns-in-None-clause-first : goal.returns-in-None-clause-first
returns-in-None-clause-first c =
    lone_at _ _ _ _ _ _ c.in_ok-first.ensures.cases.0 c.in-Some.ensures.cases.0
    (sym c.character_of_pair.ensures ∙ c.in-None.is) c.character_alone-in-None.ensures
