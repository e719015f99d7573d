-- Classes whose objects' places are all found are those whose objects are all reached.
use Rattle.std.proofs.Common.{◌≡◌, ◌∙◌, ◌↔◌, inl, inr, ℕ, ◌+◌, ◌<◌, ◌≤◌, false, true, List, [], ◌∷◌, length, get_or}
use Rattle.std.proofs.Common.{Option}
use Rattle.std.proofs.Common.{Some, slice_get, refl, sym, subst, arith}
use Rattle.std.specs.Bool.{Decides}
use Rattle.std.specs.List.{Contains}
use Rattle.std.proofs.lemmas.Bool.{cases_lt}
use Rattle.std.proofs.lemmas.Option.{slice_get_within, slice_get-get_or}
use Rattle.vm_state.specs.declared.object.Object.{Object}
use Rattle.program.specs.Tables.{Tables}
use Rattle.place_set.specs.declared.set.Place.{Place}
use Rattle.region_shape.specs.declared.regions.Region.{Region as Held}
use Rattle.region_shape.specs.Regions.{environment_of}
use Rattle.object_graph.specs.Idle.{AreReachedOf, IsFirstIdle}
use Rattle.object_graph.specs.Reached.{IsReached}
use Rattle.object_graph.specs.steps.Places.{pool_in, name_in, Ascends, AreFound, IsReachedAt}
use Rattle.object_graph.proofs.KeptLemmas.{place}
use Rattle.object_graph.proofs.RowLemmas.{stands, found_in, object_by_pool}

-- ---- the first so many places

pub one_found : (found : List Place) (c n : ℕ) → AreFound found c n → Contains found (place c n)
    → AreFound found c (n + 1)
one_found found c n all one i lt = elim (cases_lt i n) [
  | inl less ↦ all i less
  | inr high ↦
      let same : n ≡ i = omega (arith, lt, high) in
      let Q : ℕ → Type 0 = λ k. Contains found (place c k) in
      subst Q same one
]

pub found_misses : (found : List Place) (c i n : ℕ) → i < n → ¬ Contains found (place c i)
    → Decides false (AreFound found c n)
found_misses found c i n lt misses = (λ e. absurd cc, λ all. absurd (misses (all i lt)))

pub found_all : (found : List Place) (c i n : ℕ) → n ≤ i → AreFound found c i → Decides true (AreFound found c n)
found_all found c i n le all = (λ e. λ k lt. all k (omega (arith, lt, le)), λ h. refl)

-- ---- the objects of a class

module _ (P : Tables) (regions : List (Option Held)) (found : List Place)
    (are : (x : Place) → Contains found x ↔ IsReachedAt P regions x) where
  pub class_found : (c count : ℕ) → count ≡ length (pool_in regions c).objects → AreFound found c count
      → AreReachedOf P (environment_of regions) c
  class_found c count many all n o at =
      let s = stands (pool_in regions c).objects n o
      (sym (object_by_pool regions (record { class = c; number = n })) ∙ at) in
      let lt = slice_get_within (pool_in regions c).objects s.0.index s.0.held s.0.at in
      let r = (are (place c s.0.index)).0 (all s.0.index (omega (arith, lt, many))) in
      let both : Some r.held ≡ Some s.0.held = sym r.at ∙ s.0.at in
      let same : r.held ≡ s.0.held = cc in
      let Q : ℕ × Object → Type 0 = λ z. IsReached P (environment_of regions) (name_in c z) in
      let R : ℕ → Type 0 = λ k. IsReached P (environment_of regions) (record { class = c; number = k }) in
      subst R s.0.number (subst Q same r.reached)

  pub all_found : (c count : ℕ) → count ≡ length (pool_in regions c).objects → Ascends (pool_in regions c)
      → AreReachedOf P (environment_of regions) c → AreFound found c count
  all_found c count many rise all i lt =
      let low : i < length (pool_in regions c).objects = omega (arith, lt, many) in
      let held = get_or (pool_in regions c).objects i (first (pool_in regions c).objects low) in
      let at : slice_get (pool_in regions c).objects i ≡ Some held =
      slice_get-get_or (pool_in regions c).objects i (first (pool_in regions c).objects low) low in
      let there = object_by_pool regions (record { class = c; number = held.0 })
      ∙ found_in (pool_in regions c) i held rise at in
      (are (place c i)).1 (record { held = held; at = at; reached = all held.0 held.1 there })
    where
      first : (xs : List (ℕ × Object)) → i < length xs → ℕ × Object
      first [] less = absurd (omega (arith, less))
      first (x ∷ xs) less = x

-- ---- class by class

pub one_class : (P : Tables) (regions : List (Option Held)) (c : ℕ)
    → ((d : ℕ) → d < c → AreReachedOf P (environment_of regions) d) → AreReachedOf P (environment_of regions) c
    → (d : ℕ) → d < c + 1 → AreReachedOf P (environment_of regions) d
one_class P regions c before here d lt = elim (cases_lt d c) [
  | inl less ↦ before d less
  | inr high ↦
      let same : c ≡ d = omega (arith, lt, high) in
      let Q : ℕ → Type 0 = λ k. AreReachedOf P (environment_of regions) k in
      subst Q same here
]
