-- What holds below a number, looked through one by one; and what slots and rows name.
use Rattle.std.proofs.Common.{◌≡◌, ◌∙◌, inl, inr, ℕ, ◌+◌, ◌<◌, ◌≤◌, Bool, true, false, List, length, Option, Some}
use Rattle.std.proofs.Common.{None}
use Rattle.std.proofs.Common.{slice_get, option_map, refl, sym, ap, subst, arith}
use Rattle.std.specs.Bool.{Decides}
use Rattle.std.specs.List.{All}
use Rattle.std.proofs.lemmas.Bool.{cases_lt}
use Rattle.std.proofs.lemmas.Option.{get_or_from_slice_get, same_Some, slice_get_within}
use Rattle.vm_state.specs.declared.kept.Kept.{Kept}
use Rattle.vm_state.specs.declared.object.Object.{Object}
use Rattle.vm_state.specs.declared.value.Value.{Value}
use Rattle.vm_state.specs.declared.value.Value.TheVariants as values
use Rattle.vm_state.specs.Objects.{HeldObjects, numbered_kept}
use Rattle.vm_state.specs.Pools.{IsListOf, pool_by}
use Rattle.vm_state.specs.Values.{IsNumber}
use Rattle.region_shape.specs.declared.regions.Region.{Region}
use Rattle.object_graph.proofs.RowLemmas.{found_in, stands}
use Rattle.image_parser.specs.reading.Named.{AllBelow, KeptNames, NamesThere, PoolNames, SlotNames, SlotsName}

pub more_below : (Q : ℕ → Type 0) (n : ℕ) → AllBelow Q n → Q n → AllBelow Q (n + 1)
more_below Q n all one k low = elim (cases_lt k n) [
  | inl less ↦ all k less
  | inr high ↦ (let same : n ≡ k = omega (arith, low, high) in subst Q same one)
]

pub all_below : (Q : ℕ → Type 0) (n i : ℕ) → n ≤ i → AllBelow Q i → Decides true (AllBelow Q n)
all_below Q n i le all = (λ e. λ k low. all k (omega (arith, low, le)), λ h. refl)

pub misses_below : (Q : ℕ → Type 0) (n i : ℕ) → i < n → ¬ Q i → Decides false (AllBelow Q n)
misses_below Q n i low misses = (λ e. absurd cc, λ all. absurd (misses (all i low)))

-- ---- slots

module _ (regions : List (Option Region)) where
  pub number_names : (v : Value) → IsNumber v → NamesThere regions v
  number_names (values.Int n) is = tt
  number_names (values.Long n) is = tt
  number_names values.Null is = tt
  number_names (values.Text s) is = tt
  number_names (values.OfClass c n) is = absurd (let no : false ≡ true = is in cc)
  number_names (values.OfThread t n) is = tt
  number_names values.Out is = tt

  pub numbers_name : (slots : List Value) → All IsNumber slots → SlotsName regions slots
  numbers_name slots all k low v at =
      number_names v (subst IsNumber (get_or_from_slice_get slots k v v at) (all k v low))

  pub slot_decided : (slots : List Value) (k : ℕ) (v : Value) (b : Bool) → Some v ≡ slice_get slots k
      → Decides b (NamesThere regions v) → Decides b (SlotNames regions slots k)
  slot_decided slots k v b is d = (
    λ on w at. subst (NamesThere regions) (same_Some v w (is ∙ at)) (d.0 on),
    λ h. d.1 (h v (sym is)),
  )

  pub no_slot : (slots : List Value) (k : ℕ) → None ≡ slice_get slots k → Decides true (SlotNames regions slots k)
  no_slot slots k none = (λ e v at. absurd (let clash : None ≡ Some v = none ∙ at in cc), λ h. refl)

  -- ---- objects at places

  kept_is : (row : HeldObjects) (k n : ℕ) (kept : Kept) (held : ℕ × Object)
      → Some (n, kept) ≡ option_map numbered_kept (slice_get row.objects k) → slice_get row.objects k ≡ Some held
      → kept.slots ≡ held.1.slots
  kept_is row k n kept held here at =
      let both : (n, kept) ≡ numbered_kept held =
      same_Some (n, kept) (numbered_kept held) (here ∙ ap (option_map numbered_kept) at) in
      ap (λ (x : ℕ × Kept). x.1.slots) both

  some_kept : (row : HeldObjects) (k n : ℕ) (kept : Kept)
      → Some (n, kept) ≡ option_map numbered_kept (slice_get row.objects k)
      → (held : ℕ × Object) × (slice_get row.objects k ≡ Some held)
  some_kept row k n kept here = by (slice_get row.objects k) refl
    where
      by : (o : Option (ℕ × Object)) → slice_get row.objects k ≡ o
          → (held : ℕ × Object) × (slice_get row.objects k ≡ Some held)
      by None none = absurd (let clash : Some (n, kept) ≡ None = here ∙ ap (option_map numbered_kept) none in cc)
      by (Some held) some = (held, some)

  pub kept_decided : (row : HeldObjects) (k n : ℕ) (kept : Kept) (b : Bool)
      → Some (n, kept) ≡ option_map numbered_kept (slice_get row.objects k)
      → Decides b (SlotsName regions kept.slots) → Decides b (KeptNames regions row k)
  kept_decided row k n kept b here d = (
    λ on held at. subst (SlotsName regions) (kept_is row k n kept held here at) (d.0 on),
    λ h. let some = some_kept row k n kept here in
        d.1 (subst (SlotsName regions) (sym (kept_is row k n kept some.0 here some.1)) (h some.0 some.1)),
  )

  pub no_kept : (row : HeldObjects) (k : ℕ) → None ≡ option_map numbered_kept (slice_get row.objects k)
      → Decides true (KeptNames regions row k)
  no_kept row k none = (
    λ e held at. absurd (let clash : None ≡ Some (numbered_kept held) =
        none ∙ ap (option_map numbered_kept) at in cc),
    λ h. refl,
  )

  -- ---- whole rows

  pub pool_of_kept : (row : HeldObjects) → IsListOf row.objects (pool_by row)
      → AllBelow (KeptNames regions row) (length row.objects) → PoolNames regions (pool_by row)
  pool_of_kept row is all n object at =
      let s = stands row.objects n object (sym (ap (λ (f : ℕ → Option Object). f n) is.all) ∙ at) in
      let names = all s.0.index (slice_get_within row.objects s.0.index s.0.held s.0.at) s.0.held s.0.at in
      subst (λ (o : Object). SlotsName regions o.slots) s.1 names

  pub kept_of_pool : (row : HeldObjects) → IsListOf row.objects (pool_by row) → (k : ℕ) → PoolNames regions
      (pool_by row)
      → KeptNames regions row k
  kept_of_pool row is k names held at =
      names held.0 held.1 (ap (λ (f : ℕ → Option Object). f held.0) is.all ∙ found_in row k held is.ascending at)
