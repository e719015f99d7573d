-- Regions by the numbers of classes.
use Rattle.std.proofs.Common.{◌≡◌, ℕ, ◌<◌, List, [], ◌∷◌, ◌++◌, Option, Some, None, length, slice_set}
use Rattle.std.proofs.Math.Path.{fun_ext}
use Rattle.vm_state.proofs.ListLemmas.{get_or-filled, get_or-slice_set}
use Rattle.region_shape.specs.declared.regions.Region.{Region}
use Rattle.region_shape.specs.Regions.{region_in, with_region}

pub region_in_more : (rs : List (Option Region)) → region_in (rs ++ None ∷ []) ≡ region_in rs
region_in_more rs = fun_ext (λ c. get_or-filled rs 1 c None)

pub region_in_put : (rs : List (Option Region)) (c : ℕ) (r : Region) → c < length rs →
    region_in (slice_set rs c (Some r)) ≡ with_region (region_in rs) c r
region_in_put rs c r h = fun_ext (λ d. get_or-slice_set rs c d (Some r) None h)
