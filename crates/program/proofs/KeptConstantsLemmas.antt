-- Constants of a run-time constant pool as they are kept.
use Rattle.std.proofs.Common.{◌≡◌, ℕ, List, [], ◌∷◌, ◌++◌, map, Option, Some, None, slice_get, refl}
use Rattle.std.proofs.Common.{ap, ◌∙◌}
use Rattle.std.specs.Prelude.{option_map}
use Rattle.std.proofs.lemmas.List.{map-append}
use Rattle.std.proofs.lemmas.Option.{slice_get-map}
use Rattle.program.specs.declared.runtime_constant.RuntimeConstant.{RuntimeConstant}
use Rattle.program.specs.steps.NamedConstants.{held_in}
use Rattle.program.specs.steps.Sparse.{entries}

-- one more is kept
pub kept_more : (old new : List (Option RuntimeConstant)) (kept : Option RuntimeConstant) (held : RuntimeConstant)
    → held_in kept ≡ held → new ≡ old ++ kept ∷ [] → map held_in new ≡ map held_in old ++ held ∷ []
kept_more old new kept held is more =
    ap (map held_in) more ∙ map-append held_in old (kept ∷ [])
    ∙ ap (λ (x : RuntimeConstant). map held_in old ++ x ∷ []) is

-- the constant at an index is what is kept at its place
pub kept_at : (places : List ℕ) (items : List RuntimeConstant) (index : ℕ)
    → slice_get (map held_in (entries places items)) index
    ≡ option_map (λ place. held_in (slice_get items place)) (slice_get places index)
kept_at places items index =
    slice_get-map held_in (entries places items) index
    ∙ ap (option_map held_in) (slice_get-map (slice_get items) places index) ∙ twice (slice_get places index)
  where
    twice : (o : Option ℕ) → option_map held_in (option_map (slice_get items) o)
        ≡ option_map (λ place. held_in (slice_get items place)) o
    twice None = refl
    twice (Some place) = refl
