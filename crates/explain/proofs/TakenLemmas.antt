-- The region of one class is taken out of all, and put back.
use Rattle.std.proofs.Common.{◌≡◌, ◌≢◌, ◌∙◌, ◌⊎◌, ◌==◌, ◌<◌, Bool, true, false, ℕ, zero, suc, List, [], ◌∷◌}
use Rattle.std.proofs.Common.{Option, Some, None, length, get_or, set, option_map, refl, ap, sym, inl, inr, arith}
use Rattle.std.proofs.Common.{subst, eq-eqb, ne_eqb, if◌then◌else◌}
use Rattle.std.proofs.lemmas.Bool.{cases_eq}
use Rattle.std.proofs.Math.Path.{fun_ext}
use Rattle.std.proofs.lemmas.List.{get_or-set_other, set-get_or}
use Rattle.semantics.specs.Quiet.{Environment}
use Rattle.region_shape.specs.declared.regions.Region.{Region}
use Rattle.region_shape.specs.Regions.{environment_of, region_in, region_of}
use Rattle.explain.specs.Reruns.{without}

-- its place is empty then
none_there : (regions : List (Option Region)) (c : ℕ) → get_or (set regions c None) c None ≡ None
none_there [] c = refl
none_there (r ∷ regions) zero = refl
none_there (r ∷ regions) (suc c) = none_there regions c

-- what is left is all but that one
pub taken_out : (regions : List (Option Region)) (c : ℕ)
    → environment_of (set regions c None) ≡ without (environment_of regions) c
taken_out regions c = fun_ext (λ d. elim (cases_eq d c) [
  | inl same ↦
      subst (λ (e : ℕ). environment_of (set regions c None) e ≡ without (environment_of regions) c e) (sym same)
      (ap (λ (o : Option Region). option_map region_of o) (none_there regions c)
      ∙ sym (ap (λ (b : Bool). if b then None else environment_of regions c) (eq-eqb c c refl)))
  | inr other ↦
      ap (λ (o : Option Region). option_map region_of o) (get_or-set_other regions c d None None other)
      ∙ sym (ap (λ (b : Bool). if b then None else environment_of regions d) (ne_eqb d c other))
])

-- there is a place for it
pub has_place : (regions : List (Option Region)) (c : ℕ) (r : Region) → region_in regions c ≡ Some r
    → c < length (set regions c None)
has_place [] c r is = absurd cc
has_place (x ∷ regions) zero r is = omega arith
has_place (x ∷ regions) (suc c) r is = (let low = has_place regions c r is in omega (arith, low))

-- and once it is back, all are as before
pub put_back : (regions : List (Option Region)) (c : ℕ) (r : Region) → region_in regions c ≡ Some r
    → set (set regions c None) c (Some r) ≡ regions
put_back [] c r is = absurd cc
put_back (x ∷ regions) zero r is = ap (λ (o : Option Region). o ∷ regions) (sym is)
put_back (x ∷ regions) (suc c) r is = ap (λ (l : List (Option Region)). x ∷ l) (put_back regions c r is)

-- where it is not there, nothing changes
pub not_there : (regions : List (Option Region)) (c : ℕ) → region_in regions c ≡ None → set regions c None ≡ regions
not_there regions c is = ap (λ (o : Option Region). set regions c o) (sym is) ∙ set-get_or regions c None

pub ruleset of_taken = (has_place, put_back, not_there)
