-- Lists of which most entries hold nothing, kept as the places of their items.
use Rattle.std.specs.Prelude.{◌≡◌, ◌<◌, ◌≤◌, ◌⊎◌, ℕ, List, length, map, Option, Some, None, slice_get}
use Rattle.std.specs.List.{All}

-- an entry holds the item at its place, if one stands there
abbrev pub entries : {T : Type 0} → List ℕ → List T → List (Option T)
entries places items = map (slice_get items) places

-- Each place is that of an item, or 65,535, where none stands.
pub record ArePlaces {T : Type 0} (places : List ℕ) (items : List T) : Type 0 where
  pub few : length items ≤ length places
  pub each : All (λ place. (place < length items) ⊎ (place ≡ 65535)) places
