-- Copies of the regions of an image.
use Rattle.std.proofs.Common.{◌≡◌, ◌≢◌, ◌∙◌, ◌⊎◌, ◌==◌, ◌+◌, ◌<◌, ◌≤◌, Bool, true, false, ℕ, List, Option, Some, None}
use Rattle.std.proofs.Common.{length, option_map, refl, ap, sym, inl, inr, arith, eq-eqb, ne_eqb, if◌then◌else◌}
use Rattle.std.proofs.Math.Path.{fun_ext}
use Rattle.vm_state.specs.SharedState.{Region as RegionOf}
use Rattle.semantics.specs.Quiet.{Environment}
use Rattle.region_shape.specs.declared.regions.Region.{Region}
use Rattle.region_shape.specs.Regions.{environment_of, region_in, region_of, with_region}
use Rattle.object_graph.specs.Images.{AreSmall, ImageTables}
use Rattle.explain.specs.Reruns.{without}
use Rattle.explain.specs.steps.Others.{AreFirst}

module _ (old new : List (Option Region)) (c : ℕ) (r : Region)
    (put : region_in new ≡ with_region (region_in old) c r) where
  -- the class has the region that was put
  pub put_here : environment_of new c ≡ Some (region_of r)
  put_here =
      ap (λ (f : ℕ → Option Region). option_map region_of (f c)) put
      ∙ ap (λ (b : Bool). option_map region_of (if b then Some r else region_in old c)) (eq-eqb c c refl)

  -- the others are as before
  pub put_other : (d : ℕ) → d ≢ c → environment_of new d ≡ environment_of old d
  put_other d differs =
      ap (λ (f : ℕ → Option Region). option_map region_of (f d)) put
      ∙ ap (λ (b : Bool). option_map region_of (if b then Some r else region_in old d)) (ne_eqb d c differs)

-- ---- one class after another

pub first_more : (env : Environment) (n : ℕ) (old new : Environment) → AreFirst env n old → new n ≡ env n
    → ((d : ℕ) → d ≢ n → new d ≡ old d) → AreFirst env (n + 1) new
first_more env n old new before here others = record {
  copied = λ d low. elim (below d low) [
    | inl same ↦ ap new same ∙ here ∙ ap env (sym same)
    | inr less ↦ others d (λ (is : d ≡ n). absurd (omega (arith, less, is))) ∙ before.copied d less
  ];
  rest = λ d high. others d (λ (is : d ≡ n). absurd (omega (arith, high, is))) ∙ before.rest d (omega (arith, high));
}
  where
    below : (d : ℕ) → d < n + 1 → (d ≡ n) ⊎ (d < n)
    below d low = grind arith

-- where the number is past that of each class, all are copied
pub first_all : (I : ImageTables) (c n : ℕ) (copies : Environment) → AreSmall I.program (environment_of I.regions)
    → length I.program.classes ≤ n → AreFirst (without (environment_of I.regions) c) n copies
    → copies ≡ without (environment_of I.regions) c
first_all I c n copies small past first = fun_ext (λ d. elim (either d) [
  | inl low ↦ first.copied d low
  | inr high ↦ first.rest d high ∙ sym (none d high (d == c))
])
  where
    either : (d : ℕ) → (d < n) ⊎ (n ≤ d)
    either d = grind arith

    by : (d : ℕ) → n ≤ d → (o : Option RegionOf) → environment_of I.regions d ≡ o
        → environment_of I.regions d ≡ None
    by d high None is = is
    by d high (Some region) is = absurd (omega (arith, high, past, small.classes d region is))

    none : (d : ℕ) → n ≤ d → (b : Bool) → (if b then None else environment_of I.regions d) ≡ None
    none d high true = refl
    none d high false = by d high (environment_of I.regions d) refl

-- the same of all regions, where none is left out
pub first_every : (I : ImageTables) (n : ℕ) (copies : Environment) → AreSmall I.program (environment_of I.regions)
    → length I.program.classes ≤ n → AreFirst (environment_of I.regions) n copies
    → copies ≡ environment_of I.regions
first_every I n copies small past first = fun_ext (λ d. elim (either d) [
  | inl low ↦ first.copied d low
  | inr high ↦ first.rest d high ∙ sym (by d high (environment_of I.regions d) refl)
])
  where
    either : (d : ℕ) → (d < n) ⊎ (n ≤ d)
    either d = grind arith

    by : (d : ℕ) → n ≤ d → (o : Option RegionOf) → environment_of I.regions d ≡ o
        → environment_of I.regions d ≡ None
    by d high None is = is
    by d high (Some region) is = absurd (omega (arith, high, past, small.classes d region is))
