-- A loop that makes one element of each.
use Rattle.std.proofs.Common.{◌≡◌, ℕ, ◌+◌, ◌<◌, List, [], ◌∷◌, ◌++◌, length, take, map, get_or, sym, ◌∙◌}
use Rattle.std.proofs.lemmas.List.{map_more}

pub map_pushed : {X Y : Type 0} (f : X → Y) (xs : List X) (i : ℕ) (d : X) (done more : List Y) (y : Y) → i < length xs
    → done ≡ map f (take i xs) →
    more ≡ done ++ y ∷ [] → y ≡ f (get_or xs i d) → more ≡ map f (take (i + 1) xs)
map_pushed f xs i d done more y inside so after is = after ∙ rw (so, is) (sym (map_more f xs i d inside))
