-- Flags that name objects alone that there are make the regions of an image.
use Rattle.std.proofs.Common.{◌≡◌, ℕ, zero, suc, ◌+◌, ◌⊎◌, List, [], ◌∷◌, ◌++◌, length, get_or, Option, Some}
use Rattle.std.proofs.Common.{None, slice_get}
use Rattle.std.proofs.Common.{refl, sym, ap, subst, ◌∙◌, arith, inl, inr}
use Rattle.std.specs.List.{All, AllZip}
use Rattle.std.proofs.lemmas.List.{append-nil}
use Rattle.std.proofs.lemmas.Option.{slice_get_within, slice_get-get_or, same_Some}
use Rattle.loading.specs.Families.{Family}
use Rattle.image_format.specs.Regions.{ImageRegion}
use Rattle.image_format.specs.Shapes.{HasShape}
use Rattle.image_format.specs.Images.{AreRegions, NamesObjects, NeedsAll}
use Rattle.image_format.specs.declared.version.Version.{Version}
use Rattle.image_parser.specs.declared.fault.FlagsFault.{FlagsFault}
use Rattle.image_parser.specs.declared.fault.FlagsFault.TheVariants as flags
use Rattle.image_parser.specs.declared.fault.RegionsFault.TheVariants as faults
use Rattle.image_parser.specs.Inside.{among_regions}
use Rattle.image_parser.specs.Regions.{Begins}
use Rattle.image_parser.specs.FlagFaults.{numbers, FlagFits, AreFlags, FlagsFail, IsFlagsFault}
use Rattle.image_parser.specs.Nameless.{FlagNames, IsNameless}
use Rattle.image_parser.specs.AllRegions.{RegionsText, RegionsFail}
use Rattle.image_parser.specs.AllRegions.RegionsFail.{part, extra, name}

as_many : (version : Version) (family : Family) (c n : ℕ) (regions : List (Option ImageRegion))
    → AllZip (FlagFits version family) (numbers c n) regions → length regions ≡ n
as_many version family c zero [] h = refl
as_many version family c zero (r ∷ rs) h = absurd h
as_many version family c (suc n) [] h = absurd h
as_many version family c (suc n) (r ∷ rs) h = let k = as_many version family (c + 1) n rs h.1 in omega (arith, k)

at_place : (version : Version) (family : Family) (c n : ℕ) (regions : List (Option ImageRegion))
    → AllZip (FlagFits version family) (numbers c n) regions → (i : ℕ) (region : ImageRegion)
    → slice_get regions i ≡ Some (Some region) → HasShape version family (c + i) region
at_place version family c zero [] h i region e = absurd cc
at_place version family c zero (r ∷ rs) h i region e = absurd h
at_place version family c (suc n) [] h i region e = absurd h
at_place version family c (suc n) (r ∷ rs) h zero region e =
    let same : r ≡ Some region = cc in
    let here : FlagFits version family c (Some region) = subst (FlagFits version family c) same h.0 in
    let P : ℕ → Type 0 = λ k. HasShape version family k region in
    subst P (let k : c ≡ c + 0 = omega arith in k) here
at_place version family c (suc n) (r ∷ rs) h (suc i) region e =
    let P : ℕ → Type 0 = λ k. HasShape version family k region in
    subst P (let k : c + 1 + i ≡ c + suc i = omega arith in k) (at_place version family (c + 1) n rs h.1 i region e)

pub flags_shape : (version : Version) (family : Family) (text : List ℕ) (regions : List (Option ImageRegion))
    → AreFlags version family regions text → (c : ℕ) (region : ImageRegion) → slice_get regions c ≡ Some (Some region)
    → HasShape version family c region
flags_shape version family text regions m c region at =
    let P : ℕ → Type 0 = λ k. HasShape version family k region in
    subst P (let k : 0 + c ≡ c = omega arith in k)
    (at_place version family 0 (length family) regions m.0 c region at)

named : (regions : List (Option ImageRegion)) → All (FlagNames regions) regions → (i : ℕ) (region : ImageRegion)
    → slice_get regions i ≡ Some (Some region) → NamesObjects regions region
named regions all i region e =
    let lt = slice_get_within regions i (Some region) e in
    let same : get_or regions i None ≡ Some region =
    same_Some (get_or regions i None) (Some region) (sym (slice_get-get_or regions i None lt) ∙ e) in
    let P : Option ImageRegion → Type 0 = λ z. FlagNames regions z in
    subst P same (all i None lt)

pub filled : (version : Version) (family : Family) (bytes rest : List ℕ) (regions : List (Option ImageRegion))
    → Begins (AreFlags version family) bytes regions rest → rest ≡ [] → AreFlags version family regions bytes
filled version family bytes rest regions b none =
    let whole : bytes ≡ b.text = b.parts ∙ ap (λ (z : List ℕ). b.text ++ z) none ∙ append-nil b.text in
    (b.spelled.0, whole ∙ b.spelled.1)

-- regions that fill the bytes, and whose names are those of objects that there are
pub whole_regions : (version : Version) (family : Family) (bytes : List ℕ) (regions : List (Option ImageRegion))
    → AreFlags version family regions bytes → All (FlagNames regions) regions → NeedsAll version regions
    → RegionsText version family bytes regions
whole_regions version family bytes regions m all needed = record {
  fits = record {
    count = as_many version family 0 (length family) regions m.0;
    shapes = λ c region e. flags_shape version family bytes regions m c region e;
    names = λ c region e. named regions all c region e;
    needed = needed;
  };
  spelled = m.1;
}

pub few_regions : (version : Version) (family : Family) (text : List ℕ) (regions : List (Option ImageRegion))
    → AreFlags version family regions text → length regions ≡ length family
few_regions version family text regions m = as_many version family 0 (length family) regions m.0

pub left_over : (version : Version) (family : Family) (bytes rest : List ℕ) (regions : List (Option ImageRegion))
    → Begins (AreFlags version family) bytes regions rest → (rest ≡ [] → ⊥)
    → RegionsFail version family bytes faults.Extra
left_over version family bytes rest regions b some = extra regions b.text rest b.spelled b.parts some

pub is_nameless : (version : Version) (family : Family) (bytes rest : List ℕ) (regions : List (Option ImageRegion))
    (c : ℕ)
    → Begins (AreFlags version family) bytes regions rest → rest ≡ [] → IsNameless regions c
    → RegionsFail version family bytes (faults.Name c)
is_nameless version family bytes rest regions c b none least = name regions
    (filled version family bytes rest regions b none) least

pub among : (version : Version) (family : Family) (bytes : List ℕ) (f : FlagsFault)
    → IsFlagsFault (FlagsFail version family bytes) f
    → (among_regions f ≡ faults.Memory) ⊎ RegionsFail version family bytes (among_regions f)
among version family bytes flags.Memory h = inl refl
among version family bytes flags.Truncated h = inr (part _ h)
among version family bytes (flags.Shape c) h = inr (part _ h)

-- ---- flags from regions of an image

flag_back : (version : Version) (family : Family) (c : ℕ) (flag : Option ImageRegion)
    → ((region : ImageRegion) → flag ≡ Some region → HasShape version family c region) → FlagFits version family c flag
flag_back version family c None h = tt
flag_back version family c (Some region) h = h region refl

flags_back : (version : Version) (family : Family) (c n : ℕ) (regions : List (Option ImageRegion)) → length regions ≡ n
    → ((i : ℕ) (region : ImageRegion) → slice_get regions i ≡ Some (Some region)
    → HasShape version family (c + i) region)
    → AllZip (FlagFits version family) (numbers c n) regions
flags_back version family c zero [] many h = tt
flags_back version family c zero (r ∷ rs) many h = absurd cc
flags_back version family c (suc n) [] many h = absurd cc
flags_back version family c (suc n) (r ∷ rs) many h = (
  flag_back version family c r (λ region e. let P : ℕ → Type 0 = λ k. HasShape version family k region in
      subst P (let k : c + 0 ≡ c = omega arith in k) (h zero region (ap (λ (z : Option ImageRegion). Some z) e))),
  flags_back version family (c + 1) n rs (omega (arith, many))
      (λ i region e. let P : ℕ → Type 0 = λ k. HasShape version family k region in
      subst P (let k : c + suc i ≡ c + 1 + i = omega arith in k) (h (suc i) region e)),
)

pub are_flags : (version : Version) (family : Family) (bytes : List ℕ) (regions : List (Option ImageRegion))
    → RegionsText version family bytes regions → AreFlags version family regions bytes
are_flags version family bytes regions t = (
  flags_back version family 0 (length family) regions t.fits.count
      (λ i region e. let P : ℕ → Type 0 = λ k. HasShape version family k region in
      subst P (let k : i ≡ 0 + i = omega arith in k) (t.fits.shapes i region e)),
  t.spelled,
)

flag_named : (regions : List (Option ImageRegion))
    → ((c : ℕ) (region : ImageRegion) → slice_get regions c ≡ Some (Some region) → NamesObjects regions region)
    → (i : ℕ) (flag : Option ImageRegion) → slice_get regions i ≡ Some flag → FlagNames regions flag
flag_named regions names i None e = tt
flag_named regions names i (Some region) e = names i region e

pub all_named : (version : Version) (family : Family) (regions : List (Option ImageRegion))
    → AreRegions version family regions
    → All (FlagNames regions) regions
all_named version family regions fits i d lt =
    flag_named regions fits.names i (get_or regions i d) (slice_get-get_or regions i d lt)
