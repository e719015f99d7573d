-- Regions whose objects are left out class by class.
use Rattle.std.proofs.Common.{◌≡◌, ◌≢◌, ◌∙◌, ◌↔◌, ℕ, ◌+◌, ◌<◌, ◌≤◌, true, List, length, Option, Some, None, slice_get}
use Rattle.std.proofs.Common.{option_map, refl, sym, ap, subst, inl, inr, arith}
use Rattle.std.specs.List.{Contains}
use Rattle.std.proofs.lemmas.Bool.{cases_lt}
use Rattle.vm_state.specs.declared.object.Object.{Object}
use Rattle.vm_state.specs.SharedState.{Region}
use Rattle.semantics.specs.Quiet.{Environment}
use Rattle.program.specs.Programs.{IsProgram}
use Rattle.program.specs.Tables.{Tables}
use Rattle.region_shape.specs.Wholes.{AreWhole}
use Rattle.place_set.specs.declared.set.Place.{Place}
use Rattle.region_shape.specs.declared.regions.Region.{Region as Held}
use Rattle.region_shape.specs.Regions.{region_of, region_in, environment_of}
use Rattle.object_graph.specs.Cuts.{IsCutRegion, IsCutAt, IsCutOf, AreReached}
use Rattle.object_graph.specs.Images.{AreSmall}
use Rattle.object_graph.specs.Reached.{IsReached}
use Rattle.object_graph.specs.steps.Kept.{is_among, kept_from, kept_in, kept_region}
use Rattle.object_graph.specs.steps.Places.{held_pool, pool_in, name_in, IsReachedAt}
use Rattle.object_graph.proofs.CutsLemmas.{part_whole, part_small, all_reached}
use Rattle.object_graph.proofs.KeptLemmas.{place, among, from_kept, object_kept}
use Rattle.object_graph.proofs.RowLemmas.{stands}

-- ---- class by class

-- the first so many classes have those objects alone whose places are found, and the others all of theirs
pub record IsCutBelow (found : List Place) (old : List (Option Held)) (count : ℕ)
    (new : List (Option Held)) : Type 0 where
  pub cut : (c : ℕ) → c < count → region_in new c ≡ kept_region found c (region_in old c)
  pub other : (c : ℕ) → count ≤ c → region_in new c ≡ region_in old c

pub cut_none : (found : List Place) (regions : List (Option Held)) → IsCutBelow found regions 0 regions
cut_none found regions = record { cut = λ c low. absurd (omega (arith, low)); other = λ c past. refl }

pub cut_more : (found : List Place) (old mid new : List (Option Held)) (count : ℕ) → IsCutBelow found old count mid
    → region_in new count ≡ kept_region found count (region_in mid count)
    → ((c : ℕ) → c ≢ count → region_in new c ≡ region_in mid c) → IsCutBelow found old (count + 1) new
cut_more found old mid new count before cut same = record {
  cut = λ c low. elim (cases_lt c count) [
    | inl less ↦ same c (λ e. omega (arith, less, e)) ∙ before.cut c less
    | inr high ↦
        let here : count ≡ c = omega (arith, low, high) in
        subst (λ (k : ℕ). region_in new k ≡ kept_region found k (region_in old k)) here
        (cut ∙ ap (kept_region found count) (before.other count (omega arith)))
  ];
  other = λ c past. same c (λ e. omega (arith, past, e)) ∙ before.other c (omega (arith, past));
}

-- ---- all of them

module _ (P : Tables) (regions : List (Option Held)) (found : List Place)
    (are : (x : Place) → Contains found x ↔ IsReachedAt P regions x) (c : ℕ) where
  module _ (held : Held) (here : region_in regions c ≡ Some held) where
    -- what stands in the row
    stood : (i : ℕ) (o : ℕ × Object) → slice_get held.objects.objects i ≡ Some o
        → slice_get (pool_in regions c).objects i ≡ Some o
    stood i o at = ap (λ (r : Option Held). slice_get (held_pool r).objects i) here ∙ at

    found_reached : (i : ℕ) (o : ℕ × Object) → slice_get held.objects.objects i ≡ Some o
        → is_among found (place c i) ≡ true → IsReached P (environment_of regions) (name_in c o)
    found_reached i o at on =
        let r = (are (place c i)).0 ((among found (place c i)).0 on) in
        let both : Some r.held ≡ Some o = sym r.at ∙ stood i o at in
        let same : r.held ≡ o = cc in
        let Q : ℕ × Object → Type 0 = λ z. IsReached P (environment_of regions) (name_in c z) in
        subst Q same r.reached

    reached_found : (i : ℕ) (o : ℕ × Object) → slice_get held.objects.objects i ≡ Some o
        → IsReached P (environment_of regions) (name_in c o) → is_among found (place c i) ≡ true
    reached_found i o at is =
        (among found (place c i)).1 ((are (place c i)).1 (record { held = o; at = stood i o at; reached = is }))

    region_cut : IsCutRegion (IsReached P (environment_of regions)) c (region_of held)
        (region_of (kept_in found c held))
    region_cut = record {
      fields = refl;
      count = refl;
      kept = λ n so. object_kept found c 0 held.objects.objects n (λ j o at number.
          let Q : ℕ → Type 0 = λ k. IsReached P (environment_of regions) (record { class = c; number = k }) in
          let k : j ≡ 0 + j = omega arith in
          let R : ℕ → Type 0 = λ i. is_among found (place c i) ≡ true in
          subst R k (reached_found j o at (subst Q (sym number) so)));
      only = λ n o at.
          let s = stands (kept_from found c 0 held.objects.objects) n o at in
          let r = from_kept found c 0 held.objects.objects s.0.index s.0.held s.0.at in
          let k : 0 + r.index ≡ r.index = omega arith in
          let R : ℕ → Type 0 = λ i. is_among found (place c i) ≡ true in
          let Q : ℕ → Type 0 = λ z. IsReached P (environment_of regions) (record { class = c; number = z }) in
          subst Q s.0.number (found_reached r.index s.0.held r.at (subst R k r.wanted));
    }

  cut_at : (o : Option Held) → region_in regions c ≡ o
      → IsCutAt (IsReached P (environment_of regions)) c (option_map region_of o)
      (option_map region_of (kept_region found c o))
  cut_at None none = tt
  cut_at (Some held) some = region_cut held some

  pub class_cut : (new : List (Option Held)) → region_in new c ≡ kept_region found c (region_in regions c)
      → IsCutAt (IsReached P (environment_of regions)) c (environment_of regions c) (environment_of new c)
  class_cut new is =
      let same : environment_of new c ≡ option_map region_of (kept_region found c (region_in regions c)) =
      ap (option_map region_of) is in
      subst (IsCutAt (IsReached P (environment_of regions)) c (environment_of regions c)) (sym same)
      (cut_at (region_in regions c) refl)

pub all_cut : (P : Tables) (found : List Place) (old new : List (Option Held)) (count : ℕ)
    → AreSmall P (environment_of old) → count ≡ length P.classes
    → ((x : Place) → Contains found x ↔ IsReachedAt P old x)
    → ((c : ℕ) → c < count → region_in new c ≡ kept_region found c (region_in old c))
    → ((c : ℕ) → count ≤ c → region_in new c ≡ region_in old c)
    → IsCutOf P (environment_of old) (environment_of new)
all_cut P found old new count small counted are cut other c = elim (cases_lt c count) [
  | inl less ↦ class_cut P old found are c new (cut c less)
  | inr high ↦ past high (environment_of old c) refl
]
  where
    past : count ≤ c → (o : Option Region) → environment_of old c ≡ o
        → IsCutAt (IsReached P (environment_of old)) c o (environment_of new c)
    past high None none =
        let same : environment_of new c ≡ None = ap (option_map region_of) (other c high) ∙ none in
        subst (IsCutAt (IsReached P (environment_of old)) c None) (sym same) tt
    past high (Some r) some = absurd (let low = small.classes c r some in omega (arith, low, high, counted))

-- what is left of whole and small regions is whole and small, and all of it is reached
pub left_fits : (P : Tables) (old new : Environment) → IsProgram P → AreWhole P old → AreSmall P old
    → IsCutOf P old new → AreWhole P new × AreSmall P new × AreReached P new
left_fits P old new program whole small is = (
  part_whole P program old new whole is,
  part_small P program old new whole is small,
  all_reached P program old new whole is,
)
