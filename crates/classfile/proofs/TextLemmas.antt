-- What a loop writes, item by item.
use Rattle.std.proofs.Common.{◌≡◌, ℕ, ◌+◌, ◌<◌, List, [], ◌∷◌, ◌++◌, length, get_or, take, sym, ap, ◌∙◌, append_assoc}
use Rattle.std.specs.List.{flat_map}
use Rattle.std.proofs.lemmas.List.{append-nil, take_more}
use Rattle.std.proofs.lemmas.List.Concat.{flat_map-append}

pub one_more : {X : Type 0} (text : X → List ℕ) (xs : List X) (i : ℕ) (x : X) → i < length xs → x ≡ get_or xs i x
    → flat_map text (take i xs) ++ text x ≡ flat_map text (take (i + 1) xs)
one_more {X} text xs i x lt is =
    let taken : take (i + 1) xs ≡ take i xs ++ get_or xs i x ∷ [] = take_more xs i x lt in
    let same : take i xs ++ get_or xs i x ∷ [] ≡ take i xs ++ x ∷ [] = ap (λ (z : X). take i xs ++ z ∷ []) (sym is) in
    let pieces : flat_map text (take i xs ++ x ∷ []) ≡ flat_map text (take i xs) ++ text x =
    flat_map-append text (take i xs) (x ∷ [])
    ∙ ap (λ (z : List ℕ). flat_map text (take i xs) ++ z) (append-nil (text x)) in
    sym pieces ∙ ap (λ (z : List X). flat_map text z) (sym (taken ∙ same))

-- what is after a head and the items so far, once the next item is text_one_more
pub text_one_more : {X : Type 0} (text : X → List ℕ) (xs : List X) (i : ℕ) (x : X) (before after front head : List ℕ)
    → i < length xs
    → x ≡ get_or xs i x → before ≡ front ++ (head ++ flat_map text (take i xs)) → after ≡ before ++ text x
    → after ≡ front ++ (head ++ flat_map text (take (i + 1) xs))
text_one_more text xs i x before after front head lt is so_far pushed =
    let items = flat_map text (take i xs) in
    let grouped : (front ++ (head ++ flat_map text (take i xs))) ++ text x
    ≡ front ++ (head ++ (flat_map text (take i xs) ++ text x))
    = simp append_assoc in
    pushed ∙ ap (λ (z : List ℕ). z ++ text x) so_far ∙ grouped
    ∙ ap (λ (z : List ℕ). front ++ (head ++ z)) (one_more text xs i x lt is)
