use Rattle.std.proofs.Common.{◌≡◌, ◌∙◌, ℕ, List, length, sym, ap, subst, arith}
use Rattle.std.specs.List.{All, flat_map}
use Rattle.std.specs.Str.{chars}
use Rattle.std.proofs.lemmas.List.{take_all}
use Rattle.std.proofs.lemmas.Iterator.{YieldsList-from_chars}
use Rattle.std.proofs.lemmas.Iterator.Consumers.{YieldsList-turn, YieldsList-end}
use Rattle.report_page.specs.Escapes.{escape, escaped, IsPlain}
use Rattle.report_page.proofs.EscapesLemmas.{escaped_are_plain, one_more}
use Rattle.report_page.proofs.escaping.escaped.Goals as goal

pub loop-character-preserved : goal.loop-character-preserved
loop-character-preserved c =
    let turn = YieldsList-turn (YieldsList-from_chars c.args.text.now c.utf8.text cc) c.loop-character.yielded _
    c.loop-character.yielded_by _ _ c.in-Some.character c.in-Some.is c.next.ensures.steps in
    rw (c.in_ok-push_escaped.ensures, c.loop-character.invariant)
    (one_more escape (chars c.args.text.now) c.loop-character.yielded c.in-Some.character turn)

pub returns-clause-is : goal.returns-clause-is
returns-clause-is c =
    let end' = YieldsList-end (YieldsList-from_chars c.args.text.now c.utf8.text cc) c.loop-character.yielded _
    c.loop-character.yielded_by _ _ c.in-None.is c.next.ensures.steps in
    c.loop-character.invariant
    ∙ ap (λ (z : List ℕ). flat_map escape z)
    (take_all (length c.loop-character.yielded) (chars c.args.text.now) (omega (arith, end'.1)))

pub returns-clause-plain : goal.returns-clause-plain
returns-clause-plain c =
    subst (λ (bytes : List ℕ). All IsPlain bytes) (sym (returns-clause-is c)) (escaped_are_plain c.args.text.now)
