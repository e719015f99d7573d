-- Lists of which most entries hold nothing, with one more.
use Rattle.std.proofs.Common.{◌≡◌, ℕ, ◌+◌, ◌<◌, ◌≤◌, ◌⊎◌, inl, inr, List, [], ◌∷◌, ◌++◌, length, refl}
use Rattle.std.proofs.Common.{sym, ap, ◌∙◌, arith, Option, Some, None, slice_get, zero, suc}
use Rattle.std.specs.List.{All}
use Rattle.std.proofs.lemmas.List.{map-append, length-append}
use Rattle.std.proofs.lemmas.Option.{slice_get_past}
use Rattle.program.specs.steps.Sparse.{entries, ArePlaces}

abbrev IsPlace : ℕ → ℕ → Type 0
IsPlace count place = (place < count) ⊎ (place ≡ 65535)

module _ {T : Type 0} where
  front : (items : List T) (item : T) (place : ℕ) → place < length items
      → slice_get (items ++ item ∷ []) place ≡ slice_get items place
  front [] item place lt = absurd (omega (arith, lt))
  front (a ∷ items) item zero lt = refl
  front (a ∷ items) item (suc place) lt = front items item place (omega (arith, lt))

  last : (items : List T) (item : T) → slice_get (items ++ item ∷ []) (length items) ≡ Some item
  last [] item = refl
  last (a ∷ items) item = last items item

  same : (items : List T) (item : T) (place : ℕ) → length items < 65535 → IsPlace (length items) place
      → slice_get (items ++ item ∷ []) place ≡ slice_get items place
  same items item place few (inl lt) = front items item place lt
  same items item place few (inr e) =
      let count = length-append items (item ∷ []) in
      slice_get_past (items ++ item ∷ []) place (omega (arith, few, e, count))
      ∙ sym (slice_get_past items place (omega (arith, few, e)))

  all_same : (items : List T) (item : T) (places : List ℕ) → length items < 65535
      → All (IsPlace (length items)) places
      → entries places (items ++ item ∷ []) ≡ entries places items
  all_same items item [] few each = refl
  all_same items item (place ∷ places) few each =
      let here = same items item place few (each zero place (omega arith)) in
      let rest = all_same items item places few (λ k d lt. each (suc k) d (omega (arith, lt))) in
      ap (λ (o : Option T). o ∷ entries places (items ++ item ∷ [])) here
      ∙ ap (λ (os : List (Option T)). slice_get items place ∷ os) rest

  -- one more entry that holds nothing
  pub nothing_entries : (places : List ℕ) (items : List T) → length items ≤ 65535
      → entries (places ++ 65535 ∷ []) items ≡ entries places items ++ None ∷ []
  nothing_entries places items few =
      map-append (slice_get items) places (65535 ∷ [])
      ∙ ap (λ (o : Option T). entries places items ++ o ∷ []) (slice_get_past items 65535 few)

  -- one more entry that holds an item
  pub item_entries : (places : List ℕ) (items : List T) (item : T) → ArePlaces places items → length items < 65535
      → entries (places ++ length items ∷ []) (items ++ item ∷ []) ≡ entries places items ++ Some item ∷ []
  item_entries places items item are few =
      map-append (slice_get (items ++ item ∷ [])) places (length items ∷ [])
      ∙ ap (λ (os : List (Option T)). os ++ slice_get (items ++ item ∷ []) (length items) ∷ [])
      (all_same items item places few are.each)
      ∙ ap (λ (o : Option T). entries places items ++ o ∷ []) (last items item)
