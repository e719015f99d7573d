-- Regions that hold what flags tell: what is wrong with them is what is wrong with what is told.
use Rattle.std.proofs.Common.{◌≡◌, ◌∙◌, ◌⊎◌, inl, inr, ℕ, zero, suc, ◌<◌, ◌≤◌, List, [], ◌∷◌, length, get_or, take}
use Rattle.std.proofs.Common.{Option, Some, None, slice_get, Result, Ok, Err, IfOk, IfErr, refl, sym, ap, subst, arith}
use Rattle.std.specs.List.{All}
use Rattle.std.proofs.lemmas.List.Elements.{All-nil, All-cons}
use Rattle.std.proofs.lemmas.Option.{get_or_from_slice_get, slice_get-get_or, slice_get_within}
use Rattle.classfile.specs.Faults.{IsBytes}
use Rattle.loading.specs.Families.{Family, IsFamily}
use Rattle.vm_state.specs.declared.object.Object.{Object}
use Rattle.vm_state.specs.SharedState.{Region}
use Rattle.semantics.specs.Quiet.{Environment}
use Rattle.program.specs.Programs.{IsProgram}
use Rattle.program.specs.Tables.{Tables}
use Rattle.region_shape.specs.declared.regions.Region.{Region as Held}
use Rattle.region_shape.specs.Regions.{environment_of}
use Rattle.object_graph.specs.Idle.{AreReachedOf, IsFirstIdle}
use Rattle.object_graph.specs.Reached.{IsReached, object_among}
use Rattle.object_graph.proofs.ProgramsLemmas.{class_count, static_count}
use Rattle.image_format.specs.declared.version.Version.{Version}
use Rattle.image_format.specs.declared.version.Version.TheVariants as versions
use Rattle.image_format.specs.Images.{NeedsAll}
use Rattle.image_format.specs.Objects.{region_in}
use Rattle.image_format.specs.Reached.{AreReached}
use Rattle.image_format.specs.Regions.{ImageRegion}
use Rattle.image_format.specs.Shapes.{HasShape}
use Rattle.image_format.specs.Told.{told_regions}
use Rattle.object_graph.proofs.ToldReachedLemmas.{class_again, class_told}
use Rattle.image_parser.specs.declared.fault.FlagsFault.{FlagsFault}
use Rattle.image_parser.specs.declared.fault.RegionsFault.{RegionsFault}
use Rattle.image_parser.specs.declared.fault.RegionsFault.TheVariants as faults
use Rattle.image_parser.specs.AllRegions.{RegionsFail}
use Rattle.image_parser.specs.AllRegions.RegionsFail.{idle}
use Rattle.image_parser.specs.Idle.{IsIdle}
use Rattle.image_parser.specs.FlagFaults.{AreFlags, IsFlagsFault, FlagsFail}
use Rattle.image_parser.specs.Nameless.{IsNameless, FlagNames}
use Rattle.image_parser.specs.reading.Held.{HoldsRegions}
use Rattle.image_parser.specs.reading.Flagged.{AreHeld, IsIdleFault, NeedsReached, RegionsHeld}
use Rattle.image_parser.specs.reading.Flagged.IsIdleFault.{idle as first_idle}
use Rattle.image_parser.specs.reading.Flags.{flags_at}
use Rattle.image_parser.specs.reading.Named.{AllBelow, ClassNames, IsFirstNameless}
use Rattle.image_parser.specs.reading.Reads.{IsHeld, ReadsIn}
use Rattle.image_parser.proofs.AllRegionsLemmas.{few_regions, filled, flags_shape, whole_regions}
use Rattle.image_parser.proofs.FlagLawful.{flags_lawful, flags_refused}
use Rattle.image_parser.proofs.NamedLemmas.{flag_again, flag_there}
use Rattle.image_parser.proofs.ToldLemmas.{IsTold, regions_told, told_of}
use Rattle.image_parser.proofs.WholeLemmas.{region_shaped}

-- ---- what reading the flags answers

module _ (version : Version) (P Q : Tables) (family : IsFamily P.family) (bytes : List ℕ) (fits : IsBytes bytes) where
  flags_held : (regions : List (Option Held)) (rest : List ℕ)
      → IsHeld HoldsRegions P Q (environment_of regions) (λ told. (told, rest)) (flags_at version P.family bytes)
      → AreHeld version P Q bytes regions rest
  flags_held regions rest h =
      let t = (flags_lawful version P.family family).takes bytes h.told rest fits h.is in
      record {
        told = h.told;
        begins = record { text = t.text; spelled = t.spelled; parts = t.parts };
        holds = record { holds = h.holds; adds = h.adds; same = h.same };
      }

  module _ {Y : Type 0} (view : Y → List (Option Held) × List ℕ) where
    pub flags_answered : (result : Result Y FlagsFault)
        → ReadsIn HoldsRegions (λ y. (environment_of (view y).0, (view y).1)) P Q result
        (flags_at version P.family bytes)
        → IfOk result (λ y. AreHeld version P Q bytes (view y).0 (view y).1)
    flags_answered (Ok y) h = flags_held (view y).0 (view y).1 h
    flags_answered (Err f) h = tt

    pub flags_fail : (result : Result Y FlagsFault)
        → ReadsIn HoldsRegions (λ y. (environment_of (view y).0, (view y).1)) P Q result
        (flags_at version P.family bytes)
        → IfErr result (λ f. IsFlagsFault (FlagsFail version P.family bytes) f)
    flags_fail (Ok y) h = tt
    flags_fail (Err f) h = flags_refused version P.family family f bytes fits h.0

    pub flags_family : (result : Result Y FlagsFault)
        → ReadsIn HoldsRegions (λ y. (environment_of (view y).0, (view y).1)) P Q result
        (flags_at version P.family bytes)
        → Q.family ≡ P.family
    flags_family (Ok y) h = h.adds.family
    flags_family (Err f) h = h.1

-- ---- what is told of the regions

all_take : {X : Type 0} (R : X → Type 0) (xs : List X) (n : ℕ)
    → ((i : ℕ) (x : X) → i < n → slice_get xs i ≡ Some x → R x) → All R (take n xs)
all_take R xs zero each = All-nil R
all_take R [] (suc n) each = All-nil R
all_take R (x ∷ xs) (suc n) each =
    All-cons R x (take n xs) (each 0 x (omega arith) refl)
    (all_take R xs n (λ i y low at. each (suc i) y (omega (arith, low)) at))

module _ (version : Version) (P Q : Tables) (is : IsProgram Q) (bytes rest : List ℕ) (regions : List (Option Held))
    (held : AreHeld version P Q bytes regions rest) where
  family : Q.family ≡ P.family
  family = held.holds.adds.family

  flags : AreFlags version P.family held.told held.begins.text
  flags = held.begins.spelled

  abbrev env : Environment
  env = environment_of regions

  many : length held.told ≡ length Q.family
  many = few_regions version P.family held.begins.text held.told flags ∙ ap length (sym family)

  shapes : (c : ℕ) (t : ImageRegion) → slice_get held.told c ≡ Some (Some t) → HasShape version Q.family c t
  shapes c t at =
      subst (λ (f : Family). HasShape version f c t) (sym family)
      (flags_shape version P.family held.begins.text held.told flags c t at)

  pub told_is : told_regions Q env ≡ held.told
  told_is = regions_told version Q (static_count Q is) held.told env many shapes held.holds.holds

  of_class : (c : ℕ) (r : Region) → env c ≡ Some r → IsTold Q.strings held.told c r
  of_class = told_of Q.strings held.told env held.holds.holds

  no_more : (c : ℕ) (r : Region) → env c ≡ Some r → (n : ℕ) → r.pool.count ≤ n → r.pool.at n ≡ None
  no_more c r here =
      let t = of_class c r here in
      (region_shaped Q version c t.region r (shapes c t.region t.at) t.holds).no_more

  within : (c : ℕ) (r : Region) → env c ≡ Some r → c < length Q.family
  within c r here =
      let t = of_class c r here in
      omega (arith, slice_get_within held.told c (Some t.region) t.at, many)

  -- ---- names

  names_told : (c : ℕ) (flag : Option ImageRegion) → c < length Q.family → slice_get held.told c ≡ Some flag
      → ClassNames Q regions c → FlagNames held.told flag
  names_told c flag low at names =
      let here : region_in held.told c ≡ flag = get_or_from_slice_get held.told c flag None at in
      subst (FlagNames held.told) here
      (subst (λ (told : List (Option ImageRegion)). FlagNames told (region_in told c)) told_is
      (flag_there Q regions no_more within c low names))

  names_again : (c : ℕ) → c < length Q.family → FlagNames held.told (region_in held.told c) → ClassNames Q regions c
  names_again c low there =
      flag_again Q regions no_more within c low
      (subst (λ (told : List (Option ImageRegion)). FlagNames told (region_in told c)) (sym told_is) there)

  pub nameless_told : (c : ℕ) → IsFirstNameless Q regions c → IsNameless held.told c
  nameless_told c first =
      let low : c < length Q.family = (let class = first.class in omega (arith, class, class_count Q is)) in
      record {
        flag = region_in held.told c;
        is = slice_get-get_or held.told c None (omega (arith, low, many));
        names = λ there. first.names (names_again c low there);
        least =
            all_take (FlagNames held.told) held.told c
            (λ i flag less at. names_told i flag (omega (arith, less, low)) at (first.least i less));
      }

  all_named : AllBelow (ClassNames Q regions) (length Q.classes) → All (FlagNames held.told) held.told
  all_named names i d low =
      names_told i (get_or held.told i d) (omega (arith, low, many)) (slice_get-get_or held.told i d low)
      (names i (omega (arith, low, many, class_count Q is)))

  -- ---- what static fields reach

  reached_told : (c : ℕ) → AreReachedOf Q env c → AreReached held.told c
  reached_told c reached =
      subst (λ (told : List (Option ImageRegion)). AreReached told c) told_is
      (class_told Q env no_more within c reached)

  pub idle_told : (c : ℕ) → IsFirstIdle Q env c → IsIdle held.told c
  idle_told c first = record {
    some = λ reached.
        first.some (class_again Q env no_more within c
        (subst (λ (told : List (Option ImageRegion)). AreReached told c) (sym told_is) reached));
    least = λ d less. reached_told d (first.least d less);
  }

  all_reached : ((c : ℕ) → c < length Q.classes → AreReachedOf Q env c) → (c : ℕ) → AreReached held.told c
  all_reached below c = reached_told c (λ n object at. by n object at (env c) refl)
    where
      by : (n : ℕ) (object : Object) → object_among (env c) n ≡ Some object → (o : Option Region) → env c ≡ o
          → IsReached Q env (record { class = c; number = n })
      by n object at None here = absurd (let clash : None ≡ Some object =
          ap (λ (x : Option Region). object_among x n) (sym here) ∙ at in cc)
      by n object at (Some r) here = below c (omega (arith, within c r here, class_count Q is)) n object at

  needed : (v : Version) → v ≡ version → NeedsReached v Q regions → NeedsAll v held.told
  needed versions.One same reached = tt
  needed versions.Two same reached = all_reached reached

  -- ---- all of it

  pub all_held : rest ≡ [] → AllBelow (ClassNames Q regions) (length Q.classes) → NeedsReached version Q regions
      → RegionsHeld version P Q bytes regions
  all_held none names reached = record {
    told = held.told;
    text =
        whole_regions version P.family bytes held.told
        (filled version P.family bytes rest held.told held.begins none) (all_named names)
        (needed version refl reached);
    holds = held.holds;
  }

  pub shown_held : (result : Result (List (Option Held)) RegionsFault) → rest ≡ []
      → AllBelow (ClassNames Q regions) (length Q.classes)
      → IfOk result (λ shown. (shown ≡ regions) × NeedsReached version Q regions)
      → IfOk result (RegionsHeld version P Q bytes)
  shown_held (Ok shown) none names h =
      subst (RegionsHeld version P Q bytes) (sym h.0) (all_held none names h.1)
  shown_held (Err f) none names h = tt

  idle_fails : (f : RegionsFault) → rest ≡ [] → AllBelow (ClassNames Q regions) (length Q.classes)
      → IsIdleFault version Q regions f → RegionsFail version P.family bytes f
  idle_fails f none names (first_idle {c = c} two first) =
      idle held.told two (filled version P.family bytes rest held.told held.begins none) (all_named names)
      (idle_told c first)

  pub shown_fails : (result : Result (List (Option Held)) RegionsFault) → rest ≡ []
      → AllBelow (ClassNames Q regions) (length Q.classes)
      → IfErr result (λ x. (x ≡ faults.Memory) ⊎ IsIdleFault version Q regions x)
      → IfErr result (λ x. (x ≡ faults.Memory) ⊎ RegionsFail version P.family bytes x)
  shown_fails (Ok shown) none names h = tt
  shown_fails (Err f) none names h = elim h [
    | inl memory ↦ inl memory
    | inr fails ↦ inr (idle_fails f none names fails)
  ]
