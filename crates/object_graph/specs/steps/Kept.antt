-- Rows without the objects whose places are not found.
use Rattle.std.specs.Prelude.{ℕ, ◌+◌, Bool, false, ◌&&◌, ◌||◌, ◌==◌, List, [], ◌∷◌, ◌++◌, Option, option_map}
use Rattle.std.specs.Prelude.{if◌then◌else◌}
use Rattle.vm_state.specs.declared.object.Object.{Object}
use Rattle.vm_state.specs.Objects.{HeldObjects}
use Rattle.place_set.specs.declared.set.Place.{Place}
use Rattle.region_shape.specs.declared.regions.Region.{Region as Held}

-- an object with its number, if it is wanted
abbrev pub only_if : Bool → ℕ × Object → List (ℕ × Object)
only_if wanted held = if wanted then held ∷ [] else []

abbrev pub is_same : Place → Place → Bool
is_same x y = (x.row == y.row) && (x.index == y.index)

-- whether a place is among these
abbrev pub is_among : List Place → Place → Bool
is_among [] x = false
is_among (y ∷ ys) x = is_same x y || is_among ys x

-- those of the objects of a class, from an index on, whose places are found
abbrev pub kept_from : List Place → ℕ → ℕ → List (ℕ × Object) → List (ℕ × Object)
kept_from found c i [] = []
kept_from found c i (held ∷ more) =
    only_if (is_among found (record { row = c; index = i })) held ++ kept_from found c (i + 1) more

abbrev pub kept_pool : List Place → ℕ → HeldObjects → HeldObjects
kept_pool found c row = record { count = row.count; objects = kept_from found c 0 row.objects }

abbrev pub kept_in : List Place → ℕ → Held → Held
kept_in found c region = record { fields = region.fields; objects = kept_pool found c region.objects }

abbrev pub kept_region : List Place → ℕ → Option Held → Option Held
kept_region found c region = option_map (kept_in found c) region
