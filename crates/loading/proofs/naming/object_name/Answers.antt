use Rattle.std.proofs.Common.{◌≡◌, ◌≢◌, ℕ, List, [], ◌∷◌, ◌++◌, Option, Some, None, MatchOption, Bor, ap, ◌∙◌}
use Rattle.std.proofs.lemmas.Bool.Decides.{Decides-eqb}
use Rattle.std.proofs.lemmas.Slice.Eq.{strip_prefix_is, strip_suffix_is}
use Rattle.loading.specs.ClassIds.{object_type}
use Rattle.loading.proofs.naming.object_name.Goals as goal

by_parts : (text rest : List ℕ) (o : Option (Bor (List ℕ))) → text ≡ 76 ∷ rest
    → MatchOption o ((front : List ℕ) → rest ≢ front ++ 59 ∷ []) (λ name. rest ≡ name.now ++ 59 ∷ [])
    → MatchOption o ((name : List ℕ) → text ≢ object_type name) (λ name. text ≡ object_type name.now)
by_parts text rest None e h = λ name is. let same : rest ≡ name ++ 59 ∷ [] = cc in h name same
by_parts text rest (Some name) e h = e ∙ ap (λ (t : List ℕ). 76 ∷ t) h

pub returns : goal.returns
returns c =
    let text = c.args.text.now in
    let rest = c.in_ok-strip_prefix.field-0 in
    let after_prefix = strip_prefix_is Decides-eqb text (76 ∷ []) (Some rest) c.in_ok-strip_prefix.ensures.cases in
    by_parts text rest.now c.strip_suffix.result after_prefix
    (strip_suffix_is Decides-eqb rest.now (59 ∷ []) c.strip_suffix.result c.strip_suffix.ensures.cases)
