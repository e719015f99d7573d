-- A search that adds the places of what objects refer to, from what static fields refer to on, until nothing is left.
use Rattle.std.proofs.Common.{◌≡◌, ◌∙◌, ◌↔◌, inl, inr, ℕ, ◌+◌, ◌<◌, ◌≤◌, List, [], length, Option, Some, slice_get}
use Rattle.std.proofs.Common.{refl}
use Rattle.std.proofs.Common.{sym, ap, subst, arith}
use Rattle.std.specs.List.{Contains}
use Rattle.std.proofs.lemmas.Bool.{cases_lt}
use Rattle.std.proofs.lemmas.Option.{slice_get-get_or, slice_get_within, get_or_from_slice_get}
use Rattle.vm_state.specs.declared.object.Object.{Object}
use Rattle.vm_state.specs.declared.value.Value.{Value}
use Rattle.program.specs.Tables.{Tables}
use Rattle.place_set.specs.declared.set.Place.{Place}
use Rattle.place_set.specs.steps.Adds.{Adds}
use Rattle.region_shape.specs.declared.regions.Region.{Region as Held}
use Rattle.region_shape.specs.Regions.{environment_of}
use Rattle.object_graph.specs.declared.name_set.ObjectName.{ObjectName}
use Rattle.object_graph.specs.Reached.{reference_to, IsReached, static, held}
use Rattle.object_graph.specs.steps.Places.{pool_in, Ascends, name_in, IsPlaceOf, IsInStaticsOf, HoldsPlace}
use Rattle.object_graph.specs.steps.Places.{IsReachedAt}
use Rattle.object_graph.proofs.RowLemmas.{stands, found_in, object_by_pool}

-- what the objects of the first so many places refer to has been added
pub record Searching (P : Tables) (regions : List (Option Held)) (found : List Place) (next : ℕ) : Type 0 where
  pub starts : (c : ℕ) (x : Place) → IsInStaticsOf P regions c x → Contains found x
  pub sound : (x : Place) → Contains found x → IsReachedAt P regions x
  pub closed : (k : ℕ) (x y : Place) → k < next → slice_get found k ≡ Some x → HoldsPlace regions x y
      → Contains found y

module _ (P : Tables) (regions : List (Option Held)) where
  -- the place of what is reached
  reached_at : (v : Value) (x : Place) (p : IsPlaceOf regions v x)
      → IsReached P (environment_of regions) (name_in x.row p.held) → IsReachedAt P regions x
  reached_at v x p reached = record { held = p.held; at = p.at; reached = reached }

  statics_reached : (c : ℕ) (x : Place) → IsInStaticsOf P regions c x → IsReachedAt P regions x
  statics_reached c x (region, here, (k, low, p)) =
      reached_at (region.fields k) x p (static c (region, here, (k, low, p.is)))

  slots_reached : (x y : Place) → Ascends (pool_in regions x.row) → IsReachedAt P regions x → HoldsPlace regions x y
      → IsReachedAt P regions y
  slots_reached x y rise r h =
      let both : Some r.held ≡ Some h.held = sym r.at ∙ h.at in
      let same : r.held ≡ h.held = cc in
      let name : ObjectName = name_in x.row h.held in
      let R : ℕ × Object → Type 0 = λ z. IsReached P (environment_of regions) (name_in x.row z) in
      let object = object_by_pool regions name ∙ found_in (pool_in regions x.row) x.index h.held rise h.at in
      let Q : Value → Type 0 = λ w. Contains h.held.1.slots w in
      reached_at h.holds.value y h.holds.place
      (held {x = name} (subst R same r.reached) (h.held.1, object, subst Q h.holds.place.is h.holds.holds))

  pub searching_first : (found : List Place) → Adds [] (λ x. (c : ℕ) × IsInStaticsOf P regions c x) found
      → Searching P regions found 0
  searching_first found a = record {
    starts = λ c x h. a.added x (c, h);
    sound = λ x has. elim (a.only x has) [
      | inl none ↦ absurd (omega (arith, none.1))
      | inr h ↦ statics_reached h.0 x h.1
    ];
    closed = λ k x y low at h. absurd (omega arith);
  }

  pub searching_next : (found new : List Place) (next : ℕ) (place : Place) → Ascends (pool_in regions place.row)
      → slice_get found next ≡ Some place → Searching P regions found next → Adds found (HoldsPlace regions place) new
      → Searching P regions new (next + 1)
  searching_next found new next place rise at s a = record {
    starts = λ c x h. a.keeps x (s.starts c x h);
    sound = λ x has. elim (a.only x has) [
      | inl old ↦ s.sound x old
      | inr h ↦ slots_reached place x rise (s.sound place here) h
    ];
    closed = λ k x y low stands h. elim (cases_lt k next) [
      | inl less ↦ a.keeps y (s.closed k x y less (sym (a.same k (omega (arith, inside))) ∙ stands) h)
      | inr high ↦
          let same : k ≡ next = omega arith in
          let both : Some place ≡ Some x =
          sym at ∙ sym (a.same next inside) ∙ ap (λ i. slice_get new i) (sym same) ∙ stands in
          let is : place ≡ x = cc in
          a.added y (subst (λ z. HoldsPlace regions z y) (sym is) h)
    ];
  }
    where
      inside : next < length found
      inside = slice_get_within found next place at

      here : Contains found place
      here = (next, inside, get_or_from_slice_get found next place place at)

  -- where all has been looked at, each place of an object that is reached is found
  all_found : (found : List Place) (next : ℕ) → length found ≤ next → Searching P regions found next
      → (y : ObjectName) → IsReached P (environment_of regions) y → (x : Place)
      → IsPlaceOf regions (reference_to y) x → Contains found x
  all_found found next all s y (static c (region, here, (k, low, holds))) x p =
      s.starts c x (region, here, (k, low, subst (λ (w : Value). IsPlaceOf regions w x) (sym holds) p))
  all_found found next all s y (held {x = z} from (object, at, holds)) x p =
      let w = stands (pool_in regions z.class).objects z.number object (sym (object_by_pool regions z) ∙ at) in
      let there : Place = record { row = z.class; index = w.0.index } in
      let placed : IsPlaceOf regions (reference_to z) there = record {
        held = w.0.held;
        at = w.0.at;
        is = ap (λ (n : ℕ). reference_to (record { class = z.class; number = n })) (sym w.0.number);
      } in
      let has = all_found found next all s z from there placed in
      let Q : Object → Type 0 = λ o. Contains o.slots (reference_to y) in
      s.closed has.0 there x (omega (arith, has.1, all))
      (slice_get-get_or found has.0 there has.1 ∙ ap (λ w. Some w) has.2)
      (record {
        held = w.0.held;
        at = w.0.at;
        holds = record { value = reference_to y; holds = subst Q (sym w.1) holds; place = p };
      })

  pub searching_done : (found : List Place) (next : ℕ) → length found ≤ next → Searching P regions found next
      → (x : Place) → Contains found x ↔ IsReachedAt P regions x
  searching_done found next all s x = (
    s.sound x,
    λ r. all_found found next all s (name_in x.row r.held) r.reached x
        (record { held = r.held; at = r.at; is = refl }),
  )
