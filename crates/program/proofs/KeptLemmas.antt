-- What a loop keeps of the items of a list that it looks at.
use Rattle.std.proofs.Common.{◌≡◌, ℕ, suc, ◌+◌, ◌<◌, Bool, List, [], ◌∷◌, ◌++◌, length, drop, get_or, map, sym, ap, ◌∙◌}
use Rattle.std.proofs.Common.{append_assoc, add-one, drop-cons}
use Rattle.std.specs.List.{filter}
use Rattle.std.proofs.lemmas.List.{map-append}
use Rattle.std.proofs.lemmas.List.Elements.{filter-append}

-- one more item of a list was looked at
pub kept_next : {A B : Type 0} (f : A → B) (p : A → Bool) (xs : List A) (i : ℕ) (x : A) (old new : List B)
    → i < length xs → x ≡ get_or xs i x
    → new ≡ old ++ map f (filter p (x ∷ []))
    → new ++ map f (filter p (drop (i + 1) xs)) ≡ old ++ map f (filter p (drop i xs))
kept_next {A = A} {B = B} f p xs i x old new within is added =
    let rest : List A = drop (suc i) xs in
    let here : drop i xs ≡ x ∷ rest = drop-cons xs i x within ∙ ap (λ (y : A). y ∷ rest) (sym is) in
    let parts : map f (filter p (x ∷ rest)) ≡ map f (filter p (x ∷ [])) ++ map f (filter p rest) =
    ap (map f) (filter-append p (x ∷ []) rest) ∙ map-append f (filter p (x ∷ [])) (filter p rest) in
    rw (add-one, added, here, parts) (append_assoc old (map f (filter p (x ∷ []))) (map f (filter p rest)))
