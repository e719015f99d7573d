-- What regions name and reach in the machine is what they name and reach in what is told of them.
use Rattle.std.proofs.Common.{◌≡◌, ◌∙◌, ℕ, ◌+◌, ◌<◌, ◌≤◌, List, length, map, get_or, Option, Some, None}
use Rattle.std.proofs.Common.{option_map, refl, sym, ap, subst, arith}
use Rattle.std.specs.List.{All, range_with_len}
use Rattle.std.proofs.lemmas.List.{length-map}
use Rattle.std.proofs.lemmas.List.Elements.{All-map}
use Rattle.std.proofs.lemmas.List.FromFn.{length-map-range_with_len, get_or-map-range_with_len}
use Rattle.std.proofs.lemmas.Option.{get_or_from_slice_get, slice_get-get_or}
use Rattle.std.proofs.Math.ListN.{get_or-map}
use Rattle.vm_state.specs.declared.value.Value.{Value}
use Rattle.vm_state.specs.declared.value.Value.TheVariants as machine
use Rattle.vm_state.specs.SharedState.{Pool, Region}
use Rattle.program.specs.Tables.{Tables, statics_in}
use Rattle.region_shape.specs.declared.regions.Region.{Region as Held}
use Rattle.region_shape.specs.Regions.{environment_of, region_in as held_in, region_of}
use Rattle.image_format.specs.Images.{IsThere}
use Rattle.image_format.specs.Objects.{region_in}
use Rattle.image_format.specs.Regions.{ImageObject, ImageRegion, KeptObject}
use Rattle.image_format.specs.Values.{ImageValue}
use Rattle.image_format.specs.Told.{told_object, told_objects, told_region, told_regions, told_value}
use Rattle.image_format.proofs.RowsLemmas.{all_told, kept_is, told_at}
use Rattle.object_graph.proofs.ToldReachedLemmas.{told_of_class, told_some}
use Rattle.image_parser.specs.Nameless.{FlagNames}
use Rattle.image_parser.specs.reading.Named.{ClassNames, FieldsName, MayName, NamesThere, PoolNames}
use Rattle.image_parser.specs.reading.Named.{SlotsName}

module _ (P : Tables) (regions : List (Option Held))
    (no_more : (c : ℕ) (r : Region) → environment_of regions c ≡ Some r → (n : ℕ) → r.pool.count ≤ n
    → r.pool.at n ≡ None)
    (within : (c : ℕ) (r : Region) → environment_of regions c ≡ Some r → c < length P.family) where
  abbrev told : List (Option ImageRegion)
  told = told_regions P (environment_of regions)

  -- ---- values

  value_there : (v : Value) → NamesThere regions v → IsThere told (told_value P.strings v)
  value_there (machine.OfClass c n) names = told_some P (environment_of regions) no_more within c n ∙ names
  value_there (machine.Int n) names = tt
  value_there (machine.Long n) names = tt
  value_there machine.Null names = tt
  value_there (machine.Text s) names = tt
  value_there (machine.OfThread t n) names = tt
  value_there machine.Out names = tt

  value_again : (v : Value) → IsThere told (told_value P.strings v) → NamesThere regions v
  value_again (machine.OfClass c n) there = sym (told_some P (environment_of regions) no_more within c n) ∙ there
  value_again (machine.Int n) there = tt
  value_again (machine.Long n) there = tt
  value_again machine.Null there = tt
  value_again (machine.Text s) there = tt
  value_again (machine.OfThread t n) there = tt
  value_again machine.Out there = tt

  -- ---- slots

  slots_there : (vs : List Value) → SlotsName regions vs → All (IsThere told) (map (told_value P.strings) vs)
  slots_there vs names =
      All-map (IsThere told) (told_value P.strings) vs
      (λ k d low. value_there (get_or vs k d) (names k low (get_or vs k d) (slice_get-get_or vs k d low)))

  slots_again : (vs : List Value) → All (IsThere told) (map (told_value P.strings) vs) → SlotsName regions vs
  slots_again vs there k low v at =
      value_again v (subst (IsThere told)
      (get_or-map (told_value P.strings) vs k v ∙ ap (told_value P.strings) (get_or_from_slice_get vs k v v at))
      (there k (told_value P.strings v) (omega (arith, low, length-map vs (told_value P.strings)))))

  -- ---- static fields

  module _ (fields : ℕ → Value) (count : ℕ) where
    abbrev one : ℕ → ImageValue
    one k = told_value P.strings (fields k)

    fields_there : FieldsName regions fields count → All (IsThere told) (map one (range_with_len 0 count))
    fields_there names k d low =
        let less : k < count = omega (arith, low, length-map-range_with_len one 0 count) in
        let start : 0 + k ≡ k = omega arith in
        subst (IsThere told) (sym (get_or-map-range_with_len one 0 count k k d less start))
        (value_there (fields k) (names k less))

    fields_again : All (IsThere told) (map one (range_with_len 0 count)) → FieldsName regions fields count
    fields_again there k low =
        let start : 0 + k ≡ k = omega arith in
        value_again (fields k) (subst (IsThere told)
        (get_or-map-range_with_len one 0 count k k (one k) low start)
        (there k (one k) (omega (arith, low, length-map-range_with_len one 0 count))))

  -- ---- objects

  abbrev SlotsThere : KeptObject → Type 0
  SlotsThere kept = All (IsThere told) kept.object.slots

  pool_there : (pool : Pool) → PoolNames regions pool → All SlotsThere (told_objects P.strings pool)
  pool_there pool names =
      all_told P.strings pool.at SlotsThere 0 pool.count (λ n object at. slots_there object.slots (names n object at))

  pool_again : (pool : Pool) → ((n : ℕ) → pool.count ≤ n → pool.at n ≡ None)
      → All SlotsThere (told_objects P.strings pool) → PoolNames regions pool
  pool_again pool none there n object at =
      slots_again object.slots (kept_is (λ (o : ImageObject). All (IsThere told) o.slots) (told_objects P.strings pool)
      n (told_object P.strings object) there
      (told_at P.strings pool n none ∙ ap (option_map (told_object P.strings)) at))

  -- ---- classes

  class_there : (c : ℕ) → ClassNames P regions c
      → FlagNames told (option_map (told_region P c) (environment_of regions c))
  class_there c names = by (held_in regions c) names
    where
      by : (o : Option Held) → MayName regions o (length (statics_in P c))
          → FlagNames told (option_map (told_region P c) (option_map region_of o))
      by None names = tt
      by (Some held) names = record {
        statics = fields_there (region_of held).fields (length (statics_in P c)) names.0;
        slots = pool_there (region_of held).pool names.1;
      }

  class_again : (c : ℕ) → FlagNames told (option_map (told_region P c) (environment_of regions c))
      → ClassNames P regions c
  class_again c there = by (held_in regions c) refl there
    where
      by : (o : Option Held) → held_in regions c ≡ o
          → FlagNames told (option_map (told_region P c) (option_map region_of o))
          → MayName regions o (length (statics_in P c))
      by None is there = tt
      by (Some held) is there = (
        fields_again (region_of held).fields (length (statics_in P c)) there.statics,
        pool_again (region_of held).pool (no_more c (region_of held) (ap (option_map region_of) is)) there.slots,
      )

  -- the flag of a class
  flag_is : (c : ℕ) → c < length P.family
      → region_in told c ≡ option_map (told_region P c) (environment_of regions c)
  flag_is c low = told_of_class P (environment_of regions) no_more within c low

  pub flag_there : (c : ℕ) → c < length P.family → ClassNames P regions c → FlagNames told (region_in told c)
  flag_there c low names = subst (FlagNames told) (sym (flag_is c low)) (class_there c names)

  pub flag_again : (c : ℕ) → c < length P.family → FlagNames told (region_in told c) → ClassNames P regions c
  flag_again c low there = class_again c (subst (FlagNames told) (flag_is c low) there)
