-- What is held of the regions of all classes, class by class.
use Rattle.std.proofs.Common.{◌≡◌, ◌∙◌, inl, inr, ℕ, ◌+◌, List, [], ◌∷◌, ◌++◌}
use Rattle.std.proofs.Common.{length}
use Rattle.std.proofs.Common.{Option, Some, None, if◌then◌else◌, nat_lt, Result, refl, sym, ap, subst}
use Rattle.std.proofs.Common.{arith}
use Rattle.std.proofs.Math.Seq.{get_or-append_seam}
use Rattle.std.proofs.lemmas.Bool.{cases_lt, lt-ltb, le-ltb}
use Rattle.std.proofs.lemmas.List.{get_or_append_left, get_or_past}
use Rattle.vm_state.specs.SharedState.{Region}
use Rattle.semantics.specs.Quiet.{Environment}
use Rattle.program.specs.Tables.{Tables}
use Rattle.region_shape.specs.declared.regions.Region.{Region as Held}
use Rattle.region_shape.specs.Regions.{environment_of, region_in as region_held, region_of, with_region}
use Rattle.image_format.specs.Objects.{region_in}
use Rattle.image_format.specs.Regions.{ImageRegion}
use Rattle.image_format.specs.declared.version.Version.{Version}
use Rattle.image_parser.specs.declared.fault.RegionFault.{RegionFault}
use Rattle.image_parser.specs.declared.fault.FlagsFault.{FlagsFault}
use Rattle.image_parser.specs.FlagFaults.{FailsIn, numbers}
use Rattle.image_parser.specs.reading.Flags.{inside_at, flag_in, flags_at}
use Rattle.image_parser.specs.reading.Results.{each_at}
use Rattle.image_parser.specs.reading.Held.{AddsStrings, HoldsClass, HoldsRegions}
use Rattle.image_parser.specs.reading.Reads.{IsHeld}
use Rattle.image_parser.proofs.HeldLemmas.{adds_more, adds_none, no_region, no_regions, put_region, regions_kept}
use Rattle.image_parser.proofs.ReadsLemmas.{Strings}

-- ---- among all classes

pub inside_held : (P Q : Tables) (c : ℕ) (held : Option Region) (rest : List ℕ)
    (read : Result (Option ImageRegion × List ℕ) RegionFault)
    → IsHeld HoldsClass P Q held (λ told. (told, rest)) read
    → IsHeld HoldsClass P Q held (λ told. (told, rest)) (inside_at c read)
inside_held P Q c held rest read h =
    record { told = h.told; is = ap (inside_at c) h.is; holds = h.holds; adds = h.adds; same = h.same }

-- ---- the region of one more class

pub none_added : (S : Strings) (lower : List (Option ImageRegion)) (t : Option ImageRegion) (env : Environment) (n : ℕ)
    → length lower ≡ n → HoldsRegions S lower env → HoldsClass S t None → HoldsRegions S (lower ++ t ∷ []) env
none_added S lower None env n count holds here = no_region S lower env n count holds
none_added S lower (Some told) env n count holds here = absurd here

pub some_added : (S : Strings) (lower : List (Option ImageRegion)) (t : Option ImageRegion)
    (old new : List (Option Held)) (n : ℕ) (r : Held) → length lower ≡ n → HoldsRegions S lower (environment_of old)
    → HoldsClass S t (Some (region_of r)) → region_held new ≡ with_region (region_held old) n r
    → HoldsRegions S (lower ++ t ∷ []) (environment_of new)
some_added S lower None old new n r count holds here put = absurd cc
some_added S lower (Some told) old new n r count holds here put =
    put_region S lower (Some told) told old new n r count holds refl here put

-- ---- so far

-- the regions of the classes below a number
pub record HoldsBelow (P Q : Tables) (told : List (Option ImageRegion)) (n : ℕ) (env : Environment) : Type 0 where
  pub count : length told ≡ n
  pub holds : HoldsRegions Q.strings told env
  pub adds : AddsStrings P Q
  pub same : (other : Environment) → HoldsRegions P.strings told other → Q ≡ P

-- what is read so far, and what is still to be read gives all
pub record FlagsSoFar {Y E : Type 0} (P Q : Tables) (n : ℕ) (env : Environment)
    (read : List (Option ImageRegion) → Result Y E) (all : Result Y E) : Type 0 where
  pub told : List (Option ImageRegion)
  pub below : HoldsBelow P Q told n env
  pub reads : read told ≡ all

pub below_none : (P : Tables) → HoldsBelow P P [] 0 (environment_of [])
below_none P = record { count = refl; holds = no_regions P.strings; adds = adds_none P; same = λ other holds. refl }

-- an environment without the classes from a number on
abbrev cut_off : ℕ → Environment → Environment
cut_off n env c = if nat_lt c n then env c else None

-- what is held of one class more is held of those before it, and of it
front_held : (S : Strings) (told : List (Option ImageRegion)) (t : Option ImageRegion) (n : ℕ) (env : Environment)
    → length told ≡ n → HoldsRegions S (told ++ t ∷ []) env → HoldsRegions S told (cut_off n env)
front_held S told t n env count holds c = elim (cases_lt c n) [
  | inl less ↦
      let same : region_in (told ++ t ∷ []) c ≡ region_in told c =
      get_or_append_left told (t ∷ []) None c (omega (arith, less, count)) in
      rw (lt-ltb c n less) (subst (λ (o : Option ImageRegion). HoldsClass S o (env c)) same (holds c))
  | inr high ↦
      let past : region_in told c ≡ None = get_or_past told c None (omega (arith, high, count)) in
      rw (le-ltb c n high, past) refl
]

last_held : (S : Strings) (told : List (Option ImageRegion)) (t : Option ImageRegion) (n : ℕ) (env : Environment)
    → length told ≡ n → HoldsRegions S (told ++ t ∷ []) env → HoldsClass S t (env n)
last_held S told t n env count holds =
    let here : region_in (told ++ t ∷ []) n ≡ t =
    ap (region_in (told ++ t ∷ [])) (sym count) ∙ get_or-append_seam told t [] None in
    subst (λ (o : Option ImageRegion). HoldsClass S o (env n)) here (holds n)

-- one class more
pub below_more : {Y E : Type 0} (P Q R : Tables) (told : List (Option ImageRegion)) (n : ℕ) (old new : Environment)
    (region : Option Region) (answer : Option ImageRegion → Y) (read : Result Y E) → HoldsBelow P Q told n old
    → (h : IsHeld HoldsClass Q R region answer read)
    → (HoldsRegions R.strings told old → HoldsClass R.strings h.told region
    → HoldsRegions R.strings (told ++ h.told ∷ []) new)
    → HoldsBelow P R (told ++ h.told ∷ []) (n + 1) new
below_more P Q R told n old new region answer read before h added = record {
  count = longer;
  holds = added (regions_kept Q.strings R.strings h.adds.added h.adds.strings told old before.holds) h.holds;
  adds = adds_more P Q R before.adds h.adds;
  same = λ other holds.
      let here : Q ≡ P = before.same (cut_off n other) (front_held P.strings told h.told n other before.count holds) in
      h.same (other n)
      (subst (λ (x : Tables). HoldsClass x.strings h.told (other n)) (sym here)
      (last_held P.strings told h.told n other before.count holds))
      ∙ here;
}
  where
    one_more : (xs : List (Option ImageRegion)) (x : Option ImageRegion) → length (xs ++ x ∷ []) ≡ length xs + 1
    one_more [] x = refl
    one_more (y ∷ ys) x = let later = one_more ys x in omega (arith, later)

    longer : length (told ++ h.told ∷ []) ≡ n + 1
    longer = let long = one_more told h.told in let count = before.count in omega (arith, long, count)

-- ---- as many as there are classes

pub all_read : (version : Version) (P Q : Tables) (n : ℕ) (env : Environment) (bytes rest : List ℕ)
    → n ≡ length P.family
    → IsHeld HoldsRegions P Q env (λ told. (told, rest))
    (each_at (flag_in version P.family) (numbers 0 n) [] bytes)
    → IsHeld HoldsRegions P Q env (λ told. (told, rest)) (flags_at version P.family bytes)
unfolding flags_at
all_read version P Q n env bytes rest many h =
    subst (λ (k : ℕ). IsHeld HoldsRegions P Q env (λ told. (told, rest))
    (each_at (flag_in version P.family) (numbers 0 k) [] bytes)) many h

pub all_fail : (version : Version) (P : Tables) (n : ℕ) (fault : FlagsFault) (bytes : List ℕ) → n ≡ length P.family
    → FailsIn fault (each_at (flag_in version P.family) (numbers 0 n) [] bytes)
    → FailsIn fault (flags_at version P.family bytes)
unfolding flags_at
all_fail version P n fault bytes many h =
    subst (λ (k : ℕ). FailsIn fault (each_at (flag_in version P.family) (numbers 0 k) [] bytes)) many h
