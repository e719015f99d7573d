-- Readers of flags are lawful.
use Rattle.std.proofs.Common.{◌≡◌, ℕ, zero, suc, List, [], ◌++◌, length, Some, None, Result, Ok, Err, refl, sym, ap}
use Rattle.std.proofs.Common.{◌∙◌, arith}
use Rattle.std.specs.Int.{w8}
use Rattle.classfile.specs.Spelling.{u1}
use Rattle.classfile.specs.Faults.{Number, IsBytes}
use Rattle.classfile.proofs.Lawful.{Lawful, Both, Is, Mapped, wide8, pure_lawful, map_lawful, then_lawful, restated}
use Rattle.loading.specs.Families.{Family, IsFamily}
use Rattle.image_format.specs.Texts.{flag_text, region_text}
use Rattle.image_format.specs.declared.version.Version.{Version}
use Rattle.image_parser.specs.declared.fault.RegionFault.{RegionFault}
use Rattle.image_parser.specs.declared.fault.FlagsFault.{FlagsFault}
use Rattle.image_parser.specs.declared.fault.FlagsFault.TheVariants as flags
use Rattle.image_parser.specs.RegionFaults.{IsRegion, RegionFails}
use Rattle.image_parser.specs.Inside.{inside}
use Rattle.image_parser.specs.FlagFaults.{numbers, FlagFits, IsFlag, FlaggedFails, FlagFails, FlagFailsIn, FlagsFail}
use Rattle.image_parser.specs.FlagFaults.{AreFlags, IsFlagsFault, FailsIn}
use Rattle.image_parser.specs.reading.Results.{number_at}
use Rattle.image_parser.specs.reading.Objects.{region_at}
use Rattle.image_parser.specs.reading.Flags.{Flag, flagged, flagged_at, flag_at, inside_at, flag_in, flags_at}
use Rattle.image_parser.proofs.NumberLawful.{number_lawful}
use Rattle.image_parser.proofs.EachLawful.{each_lawful}
use Rattle.image_parser.proofs.ValueLawful.{shape_lawful}
use Rattle.image_parser.proofs.RegionLawful.{region_lawful}

-- ---- one flag

abbrev Flagged : Version → Family → ℕ → ℕ → Flag → List ℕ → Type 0
Flagged version family c zero = Is None
Flagged version family c (suc zero) = Mapped flagged (IsRegion version family c)
Flagged version family c (suc (suc n)) = λ flag text. ⊥

flagged_lawful : (version : Version) (family : Family) → IsFamily family → (c m : ℕ)
    → Lawful (flagged_at version family c m) (Flagged version family c m) (FlaggedFails version family c m)
flagged_lawful version family fits c zero = pure_lawful None
flagged_lawful version family fits c (suc zero) =
    map_lawful flagged (region_at version family c) (IsRegion version family c) (RegionFails version family c)
    (region_lawful version family fits c)
flagged_lawful version family fits c (suc (suc n)) = shape_lawful

flagged_there : (version : Version) (family : Family) (c m : ℕ) (flag : Flag) (back : List ℕ)
    → Flagged version family c m flag back
    → FlagFits version family c flag × (u1 m ++ back ≡ flag_text version family flag)
flagged_there version family c zero flag back s = rw (s.0, s.1) (tt, refl)
flagged_there version family c (suc zero) flag back s =
    rw s.is (s.spelled.0, ap (λ (z : List ℕ). u1 1 ++ z) s.spelled.1)
flagged_there version family c (suc (suc n)) flag back s = absurd s

flag_there : (version : Version) (family : Family) (c : ℕ) (flag : Flag) (text : List ℕ)
    → Both (Number w8) (Flagged version family c) flag text
    → IsFlag version family c flag text
flag_there version family c flag text s =
    let h = flagged_there version family c s.value flag s.back s.second in
    (h.0, s.parts ∙ ap (λ (z : List ℕ). z ++ s.back) s.first.1 ∙ h.1)

flag_back : (version : Version) (family : Family) (c : ℕ) (flag : Flag) (text : List ℕ)
    → IsFlag version family c flag text
    → Both (Number w8) (Flagged version family c) flag text
flag_back version family c None text s = record {
  value = 0;
  front = u1 0;
  back = [];
  first = (omega arith, refl);
  second = (refl, refl);
  parts = s.1;
}
flag_back version family c (Some region) text s = record {
  value = 1;
  front = u1 1;
  back = region_text version family region;
  first = (omega arith, refl);
  second = record { value = region; spelled = (s.0, refl); is = refl };
  parts = s.1;
}

flag_lawful : (version : Version) (family : Family) → IsFamily family → (c : ℕ)
    → Lawful (flag_at version family c) (IsFlag version family c) (FlagFails version family c)
unfolding flag_at
flag_lawful version family fits c =
    restated (then_lawful (number_at w8) (λ bytes flag. flagged_at version family c flag.0 flag.1)
    (number_lawful w8 wide8)
    (λ bytes m text s. flagged_lawful version family fits c m)) (flag_there version family c)
    (flag_back version family c)

-- ---- the same among all

inside_ok : {X : Type 0} (c : ℕ) (r : Result X RegionFault) (x : X) → inside_at c r ≡ Ok x → r ≡ Ok x
inside_ok c (Ok y) x e = cc
inside_ok c (Err f) x e = absurd cc

inside_err : {X : Type 0} (c : ℕ) (r : Result X RegionFault) (f : FlagsFault) → inside_at c r ≡ Err f
    → (e : RegionFault) × ((r ≡ Err e) × (f ≡ inside c e))
inside_err c (Ok y) f e = absurd cc
inside_err c (Err g) f e = (g, (refl, cc))

inside_lawful : {X : Type 0} (c : ℕ) (r : List ℕ → Result (X × List ℕ) RegionFault) (S : X → List ℕ → Type 0)
    (F : List ℕ → RegionFault → Type 0) → Lawful r S F
    → Lawful (λ bytes. inside_at c (r bytes)) S (λ bytes f. (e : RegionFault) × (F bytes e × (f ≡ inside c e)))
inside_lawful {X} c r S F one = record {
  takes = λ bytes x rest fits e. one.takes bytes x rest fits (inside_ok c (r bytes) (x, rest) e);
  again = λ x text rest s. ap (λ (z : Result (X × List ℕ) RegionFault). inside_at c z) (one.again x text rest s);
  blames = λ bytes f fits e.
      let g = inside_err c (r bytes) f e in (g.0, (one.blames bytes g.0 fits g.1.0, g.1.1));
  blamed = λ bytes f fits h.
      ap (λ (z : Result (X × List ℕ) RegionFault). inside_at c z) (one.blamed bytes h.0 fits h.1.0)
      ∙ ap (λ (z : FlagsFault). Err z) (sym h.1.1);
}

pub flags_lawful : (version : Version) (family : Family) → IsFamily family
    → Lawful (flags_at version family) (AreFlags version family) (FlagsFail version family)
unfolding flags_at
flags_lawful version family fits =
    each_lawful (flag_text version family) (FlagFits version family) (FlagFailsIn version family)
    (flag_in version family)
    (λ c. inside_lawful c (flag_at version family c) (IsFlag version family c) (FlagFails version family c)
    (flag_lawful version family fits c))
    (numbers 0 (length family))

-- ---- what the reader answers, unless memory runs out

pub flags_refused : (version : Version) (family : Family) → IsFamily family → (f : FlagsFault) (bytes : List ℕ)
    → IsBytes bytes → FailsIn f (flags_at version family bytes) → IsFlagsFault (FlagsFail version family bytes) f
flags_refused version family fam flags.Memory bytes fits e = tt
flags_refused version family fam flags.Truncated bytes fits e = (flags_lawful version family fam).blames bytes
    flags.Truncated fits e
flags_refused version family fam (flags.Shape c) bytes fits e = (flags_lawful version family fam).blames bytes
    (flags.Shape c) fits e
