-- Texts, piece by piece.
use Rattle.std.proofs.Common.{◌≡◌, ◌∙◌, ℕ, ◌+◌, ◌<◌, List, ◌++◌, length, take, get_or, ap}
use Rattle.std.specs.List.{flat_map}
use Rattle.classfile.proofs.TextLemmas.{one_more}

-- what is there with the text of the next item
pub piece_more : {X : Type 0} (text : X → List ℕ) (xs : List X) (i : ℕ) (x : X) (old new : List ℕ) → i < length xs
    → x ≡ get_or xs i x → old ≡ flat_map text (take i xs) → new ≡ old ++ text x
    → new ≡ flat_map text (take (i + 1) xs)
piece_more text xs i x old new low is so_far added =
    added ∙ ap (λ (z : List ℕ). z ++ text x) so_far ∙ one_more text xs i x low is
