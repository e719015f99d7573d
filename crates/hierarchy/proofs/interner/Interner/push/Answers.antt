use Rattle.std.proofs.Common.{◌≡◌, ◌∙◌, ◌++◌, ◌∷◌, [], true, slice_get, nat_eq, sym, ap, subst}
use Rattle.std.specs.List.{Contains}
use Rattle.std.specs.Cmp.Lexicographic.{pointwise}
use Rattle.hierarchy.specs.steps.HeldTexts.{texts_of}
use Rattle.hierarchy.proofs.TextsLemmas.{keeps_push}
use Rattle.hierarchy.proofs.HeldTextsLemmas.{held_at, distinct, inserted}
use Rattle.hierarchy.proofs.interner.Interner.push.Goals as goal

pub returns-clause-number : goal.returns-clause-number
returns-clause-number c =
    let stored = c.in_ok-number.ensures.stored in
    held_at c.insert_full.new.self.keys c.in_ok-number.number stored.0 c.args.text.now stored.1
    (subst (λ t. pointwise nat_eq t stored.0.items ≡ true) c.in_ok-copy.ensures.items stored.2)

pub returns-clause-keeps : goal.returns-clause-keeps
returns-clause-keeps c = λ i t at.
    let old = c.self.inside.texts.keys in
    let text = c.args.text.now in
    let whole = inserted old c.insert_full.new.self.keys c.in_ok-copy.copy text c.in_ok-number.ensures.keys
    c.in_ok-copy.ensures.items (subst (λ ts. ¬ Contains ts text) (sym c.self.view_is) c.requires) in
    ap (λ ts. slice_get ts i) whole
    ∙ keeps_push (texts_of old) text i t (ap (λ ts. slice_get ts i) c.self.view_is ∙ at)

pub returns-clause-distinct : goal.returns-clause-distinct
returns-clause-distinct c = distinct c.insert_full.new.self.keys c.in_ok-number.ensures.unique

pub returns-clause-last : goal.returns-clause-last
returns-clause-last c =
    let old = c.self.inside.texts.keys in
    let text = c.args.text.now in
    let whole = inserted old c.insert_full.new.self.keys c.in_ok-copy.copy text c.in_ok-number.ensures.keys
    c.in_ok-copy.ensures.items (subst (λ ts. ¬ Contains ts text) (sym c.self.view_is) c.requires) in
    whole ∙ ap (λ ts. ts ++ text ∷ []) c.self.view_is
