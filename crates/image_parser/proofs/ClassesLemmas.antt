-- Elements of lists, by their places.
use Rattle.std.proofs.Common.{◌≡◌, ◌∙◌, ℕ, List, get_or, Option, Some, None, slice_get, sym, subst, refl, ap}
use Rattle.std.specs.List.{All}
use Rattle.std.proofs.lemmas.List.Elements.{All-get_or}
use Rattle.std.proofs.lemmas.Option.{get_or_from_slice_get, slice_get_within, unwrap_or-slice_get}
use Rattle.std.specs.Prelude.{unwrap_or}

-- what holds of all holds of each
pub is_in : {X : Type 0} (Q : X → Type 0) (xs : List X) (k : ℕ) (x : X) → All Q xs → slice_get xs k ≡ Some x → Q x
is_in Q xs k x all at =
    subst Q (get_or_from_slice_get xs k x x at) (All-get_or Q xs k x (slice_get_within xs k x at) all)

-- a place that holds something is one of the list
pub place_of : {X : Type 0} (xs : List (Option X)) (k : ℕ) (x : X) → get_or xs k None ≡ Some x
    → slice_get xs k ≡ Some (Some x)
place_of {X = X} xs k x at = by (slice_get xs k) refl
  where
    by : (o : Option (Option X)) → slice_get xs k ≡ o → o ≡ Some (Some x)
    by None past =
        let nothing : get_or xs k None ≡ None =
        sym (unwrap_or-slice_get xs k None) ∙ ap (λ (o : Option (Option X)). unwrap_or o None) past in cc
    by (Some held) there = ap Some (sym (get_or_from_slice_get xs k held None there) ∙ at)
