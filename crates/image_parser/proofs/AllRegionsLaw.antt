-- Bytes are the text of the regions of a program or have one fault, and never both.
use Rattle.std.proofs.Common.{◌≡◌, ◌≢◌, ℕ, ◌<◌, ◌⊎◌, Bool, true, false, is_some, List, [], ◌∷◌, length, take, get_or}
use Rattle.std.proofs.Common.{Some, None}
use Rattle.std.proofs.Common.{Result, Ok, Err, refl, sym, ap, subst, ◌∙◌, arith, inl, inr}
use Rattle.std.specs.List.{All}
use Rattle.std.proofs.lemmas.Bool.{cases_lt}
use Rattle.std.proofs.lemmas.List.{append-nil, get_or-take, length-take}
use Rattle.std.proofs.lemmas.Option.{slice_get_within, slice_get-get_or, same_Some}
use Rattle.classfile.specs.Faults.{IsBytes}
use Rattle.loading.specs.Families.{Family, IsFamily}
use Rattle.image_format.specs.Values.{ImageValue}
use Rattle.image_format.specs.Values as values
use Rattle.image_format.specs.Regions.{KeptObject}
use Rattle.image_format.specs.Objects.{object_of}
use Rattle.image_format.specs.Reached.{kept_from}
use Rattle.image_format.specs.Images.{IsThere, NeedsAll}
use Rattle.image_format.proofs.DroppedLemmas.{keeps_of, dropped_of}
use Rattle.image_format.specs.declared.version.Version.{Version}
use Rattle.image_format.specs.declared.version.Version.TheVariants as versions
use Rattle.image_parser.specs.declared.fault.FlagsFault.{FlagsFault}
use Rattle.image_parser.specs.declared.fault.RegionsFault.{RegionsFault}
use Rattle.image_parser.specs.declared.fault.RegionsFault.TheVariants as faults
use Rattle.image_parser.specs.Inside.{among_regions}
use Rattle.image_parser.specs.Regions.{Begins}
use Rattle.image_parser.specs.FlagFaults.{AreFlags}
use Rattle.image_parser.specs.Nameless.{SlotsAreThere, FlagNames, IsNameless}
use Rattle.image_parser.specs.Idle.{IsIdle}
use Rattle.image_parser.specs.AllRegions.{RegionsText, RegionsFail, IsShown}
use Rattle.image_parser.specs.AllRegions.RegionsFail.{part as part_fails, extra, name, idle}
use Rattle.image_parser.specs.TextOrFault.{TextOrFault}
use Rattle.image_parser.specs.reading.Flags.{Flag, flags_at}
use Rattle.image_parser.proofs.FlagLawful.{flags_lawful}
use Rattle.image_parser.proofs.OneOfLemmas.{all_or_first, all_or_not}
use Rattle.image_parser.proofs.AllRegionsLemmas.{are_flags, all_named, filled, whole_regions, left_over}
use Rattle.image_parser.proofs.AllRegionsLemmas.{is_nameless}
use Rattle.image_parser.proofs.IdleLemmas.{needed_or_idle, one_idle}

-- what reading the flags comes to where there is a fault
data Blame (version : Version) (family : Family) (bytes : List ℕ) (fault : RegionsFault) : Type 0 where
  part : (e : FlagsFault) → flags_at version family bytes ≡ Err e → fault ≡ among_regions e
      → Blame version family bytes fault
  left : (regions : List Flag) (rest : List ℕ) → flags_at version family bytes ≡ Ok (regions, rest) → rest ≢ []
      → fault ≡ faults.Extra → Blame version family bytes fault
  unnamed : (regions : List Flag) (c : ℕ) → flags_at version family bytes ≡ Ok (regions, []) → IsNameless regions c
      → fault ≡ faults.Name c → Blame version family bytes fault
  unused : (regions : List Flag) (c : ℕ) → flags_at version family bytes ≡ Ok (regions, []) → version ≡ versions.Two
      → All (FlagNames regions) regions → IsIdle regions c → fault ≡ faults.Idle c
      → Blame version family bytes fault

read_whole : (version : Version) (family : Family) → IsFamily family → (bytes : List ℕ) (regions : List Flag)
    → AreFlags version family regions bytes
    → flags_at version family bytes ≡ Ok (regions, [])
read_whole version family fam bytes regions m =
    ap (flags_at version family) (sym (append-nil bytes)) ∙ (flags_lawful version family fam).again regions bytes [] m

blame : (version : Version) (family : Family) → IsFamily family → (bytes : List ℕ) → IsBytes bytes → (f : RegionsFault)
    → RegionsFail version family bytes f → Blame version family bytes f
blame version family fam bytes fits f (part_fails e h) = part e
    ((flags_lawful version family fam).blamed bytes e fits h) refl
blame version family fam bytes fits f (extra regions text rest m parts some) =
    left regions rest (ap (flags_at version family) parts
    ∙ (flags_lawful version family fam).again regions text rest m) some refl
blame version family fam bytes fits f (name regions {c} m least) = unnamed regions c
    (read_whole version family fam bytes regions m) least refl
blame version family fam bytes fits f (idle regions {c} two m all least) = unused regions c
    (read_whole version family fam bytes regions m) two all least refl

same_read : (r : Result (List Flag × List ℕ) FlagsFault) (a b : List Flag) (s t : List ℕ) → r ≡ Ok (a, s)
    → r ≡ Ok (b, t) → (a ≡ b) × (s ≡ t)
same_read r a b s t p q =
    let both : (a, s) ≡ (b, t) = cc in
    (ap (λ (z : List Flag × List ℕ). z.0) both, ap (λ (z : List Flag × List ℕ). z.1) both)

-- ---- the least class that names an object that there is not

not_before : (regions : List Flag) (c d : ℕ) → IsNameless regions c → IsNameless regions d → c < d → ⊥
not_before regions c d a b lt =
    let within = slice_get_within regions c a.flag a.is in
    let flag : get_or regions c a.flag ≡ a.flag =
    same_Some (get_or regions c a.flag) a.flag (sym (slice_get-get_or regions c a.flag within) ∙ a.is) in
    let end = slice_get_within regions d b.flag b.is in
    let there : c < length (take d regions) = omega (arith, length-take d regions, lt, end) in
    let P : Flag → Type 0 = λ z. FlagNames regions z in
    a.names (subst P (get_or-take d regions c a.flag lt ∙ flag) (b.least c a.flag there))

one_class : (regions : List Flag) (c d : ℕ) → IsNameless regions c → IsNameless regions d → c ≡ d
one_class regions c d a b =
    elim (cases_lt c d) [
      | inl lt ↦ absurd (not_before regions c d a b lt)
      | inr le ↦
          elim (cases_lt d c) [
            | inl lt ↦ absurd (not_before regions d c b a lt)
            | inr ge ↦ omega (arith, le, ge)
          ]
    ]

nameless_moved : (a b : List Flag) (c : ℕ) → a ≡ b → IsNameless a c → IsNameless b c
nameless_moved a b c e h = let P : List Flag → Type 0 = λ z. IsNameless z c in subst P e h

names_all : (regions : List Flag) (c : ℕ) → All (FlagNames regions) regions → IsNameless regions c → ⊥
names_all regions c all h =
    let within = slice_get_within regions c h.flag h.is in
    let flag : get_or regions c h.flag ≡ h.flag =
    same_Some (get_or regions c h.flag) h.flag (sym (slice_get-get_or regions c h.flag within) ∙ h.is) in
    let P : Flag → Type 0 = λ z. FlagNames regions z in
    h.names (subst P flag (all c h.flag within))

idle_moved : (a b : List Flag) (c : ℕ) → a ≡ b → IsIdle a c → IsIdle b c
idle_moved a b c e h = let P : List Flag → Type 0 = λ z. IsIdle z c in subst P e h

-- ---- never both, and one of each

no_fault : (version : Version) (family : Family) → IsFamily family
    → (bytes : List ℕ) (regions : List Flag) (f : RegionsFault)
    → RegionsText version family bytes regions → Blame version family bytes f → ⊥
no_fault version family fam bytes regions f t (part e read is) =
    let whole = read_whole version family fam bytes regions (are_flags version family bytes regions t) in absurd cc
no_fault version family fam bytes regions f t (left other rest read some is) =
    let whole = read_whole version family fam bytes regions (are_flags version family bytes regions t) in
    some (same_read (flags_at version family bytes) other regions rest [] read whole).1
no_fault version family fam bytes regions f t (unnamed other c read least is) =
    let whole = read_whole version family fam bytes regions (are_flags version family bytes regions t) in
    let h = nameless_moved other regions c (same_read
    (flags_at version family bytes) other regions [] [] read whole).0 least in
    names_all regions c (all_named version family regions t.fits) h
no_fault version family fam bytes regions f t (unused other c read two all least is) =
    let whole = read_whole version family fam bytes regions (are_flags version family bytes regions t) in
    let h = idle_moved other regions c (same_read
    (flags_at version family bytes) other regions [] [] read whole).0 least in
    let P : Version → Type 0 = λ v. NeedsAll v regions in
    h.some (subst P two t.fits.needed c)

one_blame : (version : Version) (family : Family) (bytes : List ℕ) (f g : RegionsFault)
    → Blame version family bytes f → Blame version family bytes g
    → f ≡ g
one_blame version family bytes f g (part a read is) (part b read2 is2) =
    let done : Result (List Flag × List ℕ) FlagsFault = Err a in
    let other : Result (List Flag × List ℕ) FlagsFault = Err b in
    let same : done ≡ other = sym read ∙ read2 in
    let e : a ≡ b = cc in is ∙ ap among_regions e ∙ sym is2
one_blame version family bytes f g (part a read is) (left regions rest read2 some is2) = absurd cc
one_blame version family bytes f g (part a read is) (unnamed regions c read2 least is2) = absurd cc
one_blame version family bytes f g (left regions rest read some is) (part b read2 is2) = absurd cc
one_blame version family bytes f g (left regions rest read some is) (left others back read2 more is2) = is ∙ sym is2
one_blame version family bytes f g (left regions rest read some is) (unnamed others c read2 least is2) =
    absurd (some (same_read (flags_at version family bytes) regions others rest [] read read2).1)
one_blame version family bytes f g (unnamed regions c read least is) (part b read2 is2) = absurd cc
one_blame version family bytes f g (unnamed regions c read least is) (left others rest read2 some is2) =
    absurd (some (same_read (flags_at version family bytes) others regions rest [] read2 read).1)
one_blame version family bytes f g (unnamed regions c read least is) (unnamed others d read2 more is2) =
    let same = (same_read (flags_at version family bytes) others regions [] [] read2 read).0 in
    let e = one_class regions c d least (nameless_moved others regions d same more) in
    is ∙ ap (λ (k : ℕ). faults.Name k) e ∙ sym is2
one_blame version family bytes f g (part a read is) (unused regions c read2 two all least is2) = absurd cc
one_blame version family bytes f g (left regions rest read some is) (unused others c read2 two all least is2) =
    absurd (some (same_read (flags_at version family bytes) regions others rest [] read read2).1)
one_blame version family bytes f g (unnamed regions c read least is) (unused others d read2 two all more is2) =
    let same = (same_read (flags_at version family bytes) regions others [] [] read read2).0 in
    absurd (names_all others c all (nameless_moved regions others c same least))
one_blame version family bytes f g (unused regions c read two all least is) (part b read2 is2) = absurd cc
one_blame version family bytes f g (unused regions c read two all least is) (left others rest read2 some is2) =
    absurd (some (same_read (flags_at version family bytes) others regions rest [] read2 read).1)
one_blame version family bytes f g (unused regions c read two all least is) (unnamed others d read2 more is2) =
    let same = (same_read (flags_at version family bytes) others regions [] [] read2 read).0 in
    absurd (names_all regions d all (nameless_moved others regions d same more))
one_blame version family bytes f g (unused regions c read two all least is) (unused others d read2 two2 all2 more is2) =
    let same = (same_read (flags_at version family bytes) others regions [] [] read2 read).0 in
    let e = one_idle regions c d least (idle_moved others regions d same more) in
    is ∙ ap (λ (k : ℕ). faults.Idle k) e ∙ sym is2

one_text : (version : Version) (family : Family) → IsFamily family → (bytes : List ℕ) (a b : List Flag)
    → RegionsText version family bytes a
    → RegionsText version family bytes b → a ≡ b
one_text version family fam bytes a b s t =
    (same_read (flags_at version family bytes) a b [] []
    (read_whole version family fam bytes a (are_flags version family bytes a s))
    (read_whole version family fam bytes b (are_flags version family bytes b t))).0

-- ---- one of both

there_or_not : (regions : List Flag) (v : ImageValue) → IsThere regions v ⊎ (IsThere regions v → ⊥)
there_or_not regions values.Null = inl tt
there_or_not regions (values.Int n) = inl tt
there_or_not regions (values.Long n) = inl tt
there_or_not regions (values.Text units) = inl tt
there_or_not regions values.Out = inl tt
there_or_not regions (values.Object c n) = by (is_some (object_of regions c n)) refl
  where
    by : (b : Bool) → is_some (object_of regions c n) ≡ b
        → (is_some (object_of regions c n) ≡ true) ⊎ ((is_some (object_of regions c n) ≡ true) → ⊥)
    by true e = inl e
    by false e = inr (λ h. let clash : true ≡ false = sym h ∙ e in absurd cc)

slots_or_not : (regions : List Flag) (kept : KeptObject) → SlotsAreThere regions kept
    ⊎ (SlotsAreThere regions kept → ⊥)
slots_or_not regions kept = all_or_not (IsThere regions) (there_or_not regions) kept.object.slots

flag_or_not : (regions : List Flag) (flag : Flag) → FlagNames regions flag ⊎ (FlagNames regions flag → ⊥)
flag_or_not regions None = inl tt
flag_or_not regions (Some region) =
    elim (all_or_not (IsThere regions) (there_or_not regions) region.statics) [
      | inr bad ↦ inr (λ h. bad h.statics)
      | inl statics ↦
          elim (all_or_not (SlotsAreThere regions) (slots_or_not regions) region.objects) [
            | inr bad ↦ inr (λ h. bad h.slots)
            | inl slots ↦ inl (record { statics = statics; slots = slots })
          ]
    ]

abbrev OneOf : Version → Family → List ℕ → Type 0
OneOf version family bytes = ((regions : List Flag) × RegionsText version family bytes regions)
    ⊎ ((fault : RegionsFault) × RegionsFail version family bytes fault)

used_or_fault : (version : Version) (family : Family) (bytes : List ℕ) (regions : List Flag)
    → AreFlags version family regions bytes → All (FlagNames regions) regions → OneOf version family bytes
used_or_fault versions.One family bytes regions m all =
    inl (regions, whole_regions versions.One family bytes regions m all tt)
used_or_fault versions.Two family bytes regions m all = elim (needed_or_idle regions) [
  | inl needed ↦ inl (regions, whole_regions versions.Two family bytes regions m all needed)
  | inr some ↦ inr (faults.Idle some.0, idle regions refl m all some.1)
]

filled_or_fault : (version : Version) (family : Family) (bytes : List ℕ) (regions : List Flag) (rest : List ℕ)
    → Begins (AreFlags version family) bytes regions rest → OneOf version family bytes
filled_or_fault version family bytes regions [] b =
    elim (all_or_first (FlagNames regions) (flag_or_not regions) regions) [
      | inl all ↦ used_or_fault version family bytes regions (filled version family bytes [] regions b refl) all
      | inr first ↦
          inr (
            faults.Name first.place,
            is_nameless version family bytes [] regions first.place b refl
                (record { flag = first.item; is = first.is; names = first.misses; least = first.least }),
          )
    ]
filled_or_fault version family bytes regions (x ∷ rest) b =
    inr (faults.Extra, left_over version family bytes (x ∷ rest) regions b (λ e. absurd cc))

text_or_fault : (version : Version) (family : Family) → IsFamily family → (bytes : List ℕ) → IsBytes bytes
    → (o : Result (List Flag × List ℕ) FlagsFault) → flags_at version family bytes ≡ o → OneOf version family bytes
text_or_fault version family fam bytes fits (Ok p) e =
    let t = (flags_lawful version family fam).takes bytes p.0 p.1 fits e in
    filled_or_fault version family bytes p.0 p.1 (record { text = t.text; spelled = t.spelled; parts = t.parts })
text_or_fault version family fam bytes fits (Err f) e =
    inr (among_regions f, part_fails f ((flags_lawful version family fam).blames bytes f fits e))

pub one_of : (version : Version) (family : Family) (bytes : List ℕ) → IsFamily family → IsBytes bytes
    → TextOrFault (RegionsText version family bytes) (RegionsFail version family bytes)
one_of version family bytes fam fits = record {
  some = text_or_fault version family fam bytes fits (flags_at version family bytes) refl;
  not_both = λ regions f t h. no_fault version family fam bytes regions f t (blame version family fam bytes fits f h);
  one_text = λ a b s t. one_text version family fam bytes a b s t;
  one_fault = λ f g p q.
      one_blame version family bytes f g (blame version family fam bytes fits f p)
      (blame version family fam bytes fits g q);
}

-- ---- what is shown of a text

pub shown_of : (version : Version) (all : List Flag) → (regions : List Flag) × IsShown version all regions
shown_of versions.One all = (kept_from (keeps_of all) 0 all, dropped_of all)
shown_of versions.Two all = (all, refl)
