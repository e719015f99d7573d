-- What is told of regions that hold no object past their counts, and that static fields reach in the machine just what
-- they reach in what is told.
use Rattle.std.proofs.Common.{◌≡◌, ◌∙◌, inl, inr, ℕ, ◌+◌, ◌<◌, ◌≤◌, List, [], length, map, get_or, Option, Some, None}
use Rattle.std.proofs.Common.{is_some, option_map, refl, sym, ap, subst, arith}
use Rattle.std.specs.List.{Contains, range_with_len}
use Rattle.std.proofs.lemmas.Bool.{cases_lt}
use Rattle.std.proofs.lemmas.List.{get_or_past, length-map}
use Rattle.std.proofs.lemmas.List.FromFn.{length-map-range_with_len, get_or-map-range_with_len}
use Rattle.std.proofs.lemmas.Option.{same_Some}
use Rattle.std.proofs.Math.ListN.{get_or-map}
use Rattle.vm_state.specs.declared.object.Object.{Object}
use Rattle.vm_state.specs.declared.value.Value.{Value}
use Rattle.vm_state.specs.declared.value.Value.TheVariants as machine
use Rattle.vm_state.specs.SharedState.{Region}
use Rattle.semantics.specs.Quiet.{Environment}
use Rattle.program.specs.Tables.{Tables, statics_in}
use Rattle.object_graph.specs.declared.name_set.ObjectName.{ObjectName}
use Rattle.object_graph.specs.Cuts.{AreReached}
use Rattle.object_graph.specs.Idle.{AreReachedOf}
use Rattle.object_graph.specs.Reached.{object_among, IsReached, static, held}
use Rattle.image_format.specs.Values.{ImageValue}
use Rattle.image_format.specs.Values as values
use Rattle.image_format.specs.Regions.{ImageObject, ImageRegion}
use Rattle.image_format.specs.Objects.{region_in, statics_of, objects_of, object_with, object_of}
use Rattle.image_format.specs.Reached.{IsReached as IsToldReached, static as told_static, held as told_held}
use Rattle.image_format.specs.Reached.{AreReached as AreToldReached}
use Rattle.image_format.specs.Told.{told_value, told_object, told_region, told_regions}
use Rattle.image_format.proofs.RowsLemmas.{told_at}

-- ---- values that refer to objects

abbrev Names : ℕ → ℕ → List ImageValue → Type 0
Names c n vs = Contains vs (values.Object c n)

module _ (S : List (List ℕ)) where
  contains_told : (vs : List Value) (c n : ℕ) → Contains vs (machine.OfClass c n)
      → Contains (map (told_value S) vs) (values.Object c n)
  contains_told vs c n (k, lt, is) = (
    k,
    omega (arith, lt, length-map vs (told_value S)),
    get_or-map (told_value S) vs k (machine.OfClass c n) ∙ ap (told_value S) is,
  )

  -- what is told by an object's name is a reference to that object
  one_named : (v : Value) (c n : ℕ) → told_value S v ≡ values.Object c n → v ≡ machine.OfClass c n
  one_named (machine.OfClass d m) c n told = let same : values.Object d m ≡ values.Object c n = told in cc
  one_named v c n told = absurd cc

  contains_named : (vs : List Value) (c n : ℕ) → Contains (map (told_value S) vs) (values.Object c n)
      → Contains vs (machine.OfClass c n)
  contains_named vs c n (k, lt, is) = (
    k,
    omega (arith, lt, length-map vs (told_value S)),
    one_named (get_or vs k (machine.OfClass c n)) c n
        (sym (get_or-map (told_value S) vs k (machine.OfClass c n)) ∙ is),
  )

-- ---- regions of classes of the program, each with no object past its count

module _ (P : Tables) (env : Environment)
    (no_more : (c : ℕ) (r : Region) → env c ≡ Some r → (n : ℕ) → r.pool.count ≤ n → r.pool.at n ≡ None)
    (within : (c : ℕ) (r : Region) → env c ≡ Some r → c < length P.family) where
  abbrev told : List (Option ImageRegion)
  told = told_regions P env

  pub told_count : length told ≡ length P.family
  told_count = length-map-range_with_len (λ k. option_map (told_region P k) (env k)) 0 (length P.family)

  pub told_of_class : (c : ℕ) → c < length P.family → region_in told c ≡ option_map (told_region P c) (env c)
  told_of_class c low =
      let start : 0 + c ≡ c = omega arith in
      get_or-map-range_with_len (λ k. option_map (told_region P k) (env k)) 0 (length P.family) c c None low start

  past_classes : (c : ℕ) → length P.family ≤ c → region_in told c ≡ None
  past_classes c high = get_or_past told c None (omega (arith, high, told_count))

  -- an object, by the machine and by the text
  pub told_object_of : (c n : ℕ) → object_of told c n ≡ option_map (told_object P.strings) (object_among (env c) n)
  told_object_of c n = elim (cases_lt c (length P.family)) [
    | inl low ↦ ap (λ (o : Option ImageRegion). object_with (objects_of o) n) (told_of_class c low)
        ∙ inside (env c) refl
    | inr high ↦ ap (λ (o : Option ImageRegion). object_with (objects_of o) n) (past_classes c high)
        ∙ past (env c) refl high
  ]
    where
      inside : (o : Option Region) → env c ≡ o
          → object_with (objects_of (option_map (told_region P c) o)) n
          ≡ option_map (told_object P.strings) (object_among o n)
      inside None is = refl
      inside (Some r) is = told_at P.strings r.pool n (no_more c r is)

      past : (o : Option Region) → env c ≡ o → length P.family ≤ c
          → None ≡ option_map (told_object P.strings) (object_among o n)
      past None is high = refl
      past (Some r) is high = absurd (omega (arith, high, within c r is))

  -- ---- what is reached is told to be

  pub reached_told : (x : ObjectName) → IsReached P env x → IsToldReached told x.class x.number
  reached_told x (static d (region, here, (k, low, holds))) =
      let statics : statics_of (region_in told d)
      ≡ map (λ j. told_value P.strings (region.fields j)) (range_with_len 0 (length (statics_in P d))) =
      ap statics_of (told_of_class d (within d region here) ∙ ap (option_map (told_region P d)) here) in
      let start : 0 + k ≡ k = omega arith in
      told_static d (subst (Names x.class x.number) (sym statics) (
        k,
        omega (
          arith,
          low,
          length-map-range_with_len (λ j. told_value P.strings (region.fields j)) 0
              (length (statics_in P d)),
        ),
        get_or-map-range_with_len (λ j. told_value P.strings (region.fields j)) 0 (length (statics_in P d)) k k
            (values.Object x.class x.number) low start ∙ ap (told_value P.strings) holds,
      ))
  reached_told x (held {x = z} from (object, at, holds)) =
      told_held (told_object P.strings object) (reached_told z from)
      (told_object_of z.class z.number ∙ ap (option_map (told_object P.strings)) at)
      (contains_told P.strings object.slots x.class x.number holds)

  -- ---- what is told to be reached is

  in_statics : (c n d : ℕ) → Contains (statics_of (region_in told d)) (values.Object c n)
      → IsReached P env (record { class = c; number = n })
  in_statics c n d has = elim (cases_lt d (length P.family)) [
    | inl low ↦ inside (env d) refl (subst (Names c n) (ap statics_of (told_of_class d low)) has)
    | inr high ↦ nothing (subst (Names c n) (ap statics_of (past_classes d high)) has)
  ]
    where
      nothing : Names c n [] → IsReached P env (record { class = c; number = n })
      nothing (k, lt, is) = absurd (omega (arith, lt))

      inside : (o : Option Region) → env d ≡ o → Names c n (statics_of (option_map (told_region P d) o))
          → IsReached P env (record { class = c; number = n })
      inside None here has = nothing has
      inside (Some r) here (k, lt, is) =
          let low : k < length (statics_in P d) =
          omega (
            arith,
            lt,
            length-map-range_with_len (λ j. told_value P.strings (r.fields j)) 0 (length (statics_in P d)),
          ) in
          let start : 0 + k ≡ k = omega arith in
          let value : told_value P.strings (r.fields k) ≡ values.Object c n =
          sym (get_or-map-range_with_len (λ j. told_value P.strings (r.fields j)) 0 (length (statics_in P d)) k k
          (values.Object c n) low start) ∙ is in
          static d (r, here, (k, low, one_named P.strings (r.fields k) c n value))

  pub reached_again : (c n : ℕ) → IsToldReached told c n → IsReached P env (record { class = c; number = n })
  reached_again c n (told_static d has) = in_statics c n d has
  reached_again c n (told_held {d = d} {m = m} t from at has) =
      by (reached_again d m from) (object_among (env d) m) refl (sym (told_object_of d m) ∙ at)
    where
      by : IsReached P env (record { class = d; number = m }) → (o : Option Object) → object_among (env d) m ≡ o
          → option_map (told_object P.strings) o ≡ Some t → IsReached P env (record { class = c; number = n })
      by before None is same = absurd cc
      by before (Some object) is same =
          let one : told_object P.strings object ≡ t = same_Some (told_object P.strings object) t same in
          held before (
            object,
            is,
            contains_named P.strings object.slots c n
                (subst (λ (x : ImageObject). Contains x.slots (values.Object c n)) (sym one) has),
          )

  -- ---- class by class

  -- whether there is an object, by the text and by the machine
  pub told_some : (c n : ℕ) → is_some (object_of told c n) ≡ is_some (object_among (env c) n)
  told_some c n = ap is_some (told_object_of c n) ∙ same (object_among (env c) n)
    where
      same : (o : Option Object) → is_some (option_map (told_object P.strings) o) ≡ is_some o
      same None = refl
      same (Some o) = refl

  pub class_told : (c : ℕ) → AreReachedOf P env c → AreToldReached told c
  class_told c reached n t at = by (object_among (env c) n) refl (sym (told_object_of c n) ∙ at)
    where
      by : (o : Option Object) → object_among (env c) n ≡ o → option_map (told_object P.strings) o ≡ Some t
          → IsToldReached told c n
      by None is same = absurd cc
      by (Some object) is same =
          let x : ObjectName = record { class = c; number = n } in reached_told x (reached n object is)

  pub class_again : (c : ℕ) → AreToldReached told c → AreReachedOf P env c
  class_again c reached n object at =
      reached_again c n (reached n (told_object P.strings object)
      (told_object_of c n ∙ ap (option_map (told_object P.strings)) at))

  pub told_reached : AreReached P env → (c : ℕ) → AreToldReached told c
  told_reached reached c = class_told c (λ n object at. reached (record { class = c; number = n }) object at)

  pub all_again : ((c : ℕ) → AreToldReached told c) → AreReached P env
  all_again reached x object at = class_again x.class (reached x.class) x.number object at
