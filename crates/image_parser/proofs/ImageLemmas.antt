-- The parts of an image, put together.
use Rattle.std.proofs.Common.{◌≡◌, ℕ, ◌+◌, ◌<◌, ◌≤◌, ◌^◌, ◌⊎◌, List, ◌++◌, length, take, drop, Option, refl, sym, ap}
use Rattle.std.proofs.Common.{subst, ◌∙◌, arith, inl, inr}
use Rattle.std.specs.Prelude.{IfOk, IfErr, Result, Ok, Err}
use Rattle.std.specs.Int.{w32, from_be_bytes}
use Rattle.std.specs.List.{All, flat_map}
use Rattle.std.proofs.lemmas.List.{take-append-drop, length-take, length-append}
use Rattle.std.proofs.lemmas.Nat.{be_bytes_4}
use Rattle.sha2.specs.Sha256.{sha256}
use Rattle.sha2.proofs.Facts256.{length-sha256}
use Rattle.classfile.specs.Class.{IsClassFile}
use Rattle.classfile.specs.ClassFile.{ClassFile}
use Rattle.classfile.specs.Printing.{units_of}
use Rattle.classfile.specs.Spelling.{u2, u4}
use Rattle.classfile.specs.Units.{units_text, IsModifiedUtf8}
use Rattle.classfile.specs.Faults.{IsBytes}
use Rattle.classfile.proofs.PrintingLemmas.{units_text-units_of}
use Rattle.classfile.proofs.Lawful.{fits_as}
use Rattle.classfile.proofs.RuleLawful.{IsBytes-front}
use Rattle.loading.specs.declared.fault.LinkFault.{LinkFault}
use Rattle.loading.specs.declared.fault.LinkFault.TheVariants as link_faults
use Rattle.loading.specs.Families.{Family}
use Rattle.loading.specs.Files.{LinkFails, Links}
use Rattle.loading.proofs.UnitsLemmas.{same_units}
use Rattle.image_format.specs.Regions.{ImageRegion}
use Rattle.image_format.specs.declared.version.Version.{Version}
use Rattle.image_format.specs.declared.version.Version.TheVariants as versions
use Rattle.image_format.specs.Images.{VersionText, SomeText}
use Rattle.image_format.specs.Texts.{file_text, given_text, with_digest, version_number}
use Rattle.image_parser.specs.declared.fault.FilesFault.{FilesFault}
use Rattle.image_parser.specs.declared.fault.FilesFault.TheVariants as file_faults
use Rattle.image_parser.specs.declared.fault.RegionsFault.{RegionsFault}
use Rattle.image_parser.specs.declared.fault.RegionsFault.TheVariants as region_faults
use Rattle.image_parser.specs.declared.image.Parsed.{Parsed}
use Rattle.image_parser.specs.declared.image_fault.ImageFault.{ImageFault}
use Rattle.image_parser.specs.declared.image_fault.ImageFault.TheVariants as faults
use Rattle.image_parser.specs.AllRegions.{RegionsText, RegionsFail, IsShown}
use Rattle.image_parser.specs.FileFaults.{AreFiles, FilesFail}
use Rattle.image_parser.specs.HeaderFaults.{IsFramed}
use Rattle.image_parser.specs.ImageFaults.{of_files, of_link, of_regions, HasFiles, IsLinked, PartsText, PartsFail}
use Rattle.image_parser.specs.reading.Frames.{FailsInEach}
use Rattle.image_parser.specs.reading.Flagged.{RegionsHeld}
use Rattle.image_parser.specs.Parsings.{IsOfFiles, told_in}
use Rattle.image_parser.proofs.ToldLemmas.{regions_told}
use Rattle.object_graph.proofs.ProgramsLemmas.{static_count}
use Rattle.region_shape.specs.declared.regions.Region.{Region as Held}
use Rattle.region_shape.specs.Regions.{environment_of}
use Rattle.program.specs.Programs.{HasOwnStrings, IsProgram}
use Rattle.program.specs.Tables.{Tables}
use Rattle.image_format.specs.Shapes.{HasShape}
use Rattle.image_format.specs.Told.{told_regions}
use Rattle.image_parser.specs.ImageFaults.{ImageFails}
use Rattle.image_parser.specs.ImageFaults.PartsFail.{files, link, regions}
use Rattle.image_parser.specs.ImageFaults.ImageFails.{within}
use Rattle.image_parser.specs.Regions.{Begins}
use Rattle.image_parser.proofs.FamilyOrderLemmas.{same_files, family_text, family_each, IsShort}

-- ---- the count

two_bytes : (version : Version) → length (u2 (version_number version)) ≡ 2
two_bytes versions.One = refl
two_bytes versions.Two = refl

pub long_enough : (bytes : List ℕ) (version : Version) (parts : List ℕ) → IsFramed bytes version parts
    → 4 ≤ length parts
long_enough bytes version parts f =
    let number : List ℕ = u2 (version_number version) in
    let body : List ℕ = u4 1246775629 ++ (number ++ parts) in
    let all : length bytes ≡ length body + length (sha256 body) = ap length f.framed
    ∙ length-append body (sha256 body) in
    let front : length body ≡ length (u4 1246775629) + length (number ++ parts) = length-append (u4 1246775629)
    (number ++ parts) in
    let next : length (number ++ parts) ≡ length number + length parts = length-append number parts in
    let four : length (u4 1246775629) ≡ 4 = refl in
    let two : length number ≡ 2 = two_bytes version in
    omega (arith, f.size, all, front, next, four, two, length-sha256 body)

pub counted : (parts : List ℕ) → IsBytes parts → 4 ≤ length parts → (n : ℕ) (rest : List ℕ)
    → n ≡ from_be_bytes w32 (take 4 parts) → rest ≡ drop 4 parts → parts ≡ u4 n ++ rest
counted parts fits long n rest is left =
    let front : IsBytes (take 4 parts) = IsBytes-front (take 4 parts) (drop 4 parts)
    (fits_as parts (take 4 parts ++ drop 4 parts) (sym (take-append-drop 4 parts)) fits) in
    let four : length (take 4 parts) ≡ 4 = omega (arith, length-take 4 parts, long) in
    let number : u4 n ≡ take 4 parts = be_bytes_4 (take 4 parts) n four front is in
    sym (take-append-drop 4 parts) ∙ ap (λ (z : List ℕ). z ++ drop 4 parts) (sym number)
    ∙ ap (λ (z : List ℕ). u4 n ++ z) (sym left)

pub has_files : (parts : List ℕ) (n : ℕ) (bytes : List ℕ) (read : List ClassFile) (rest : List ℕ) → n < 2 ^ 32
    → parts ≡ u4 n ++ bytes → Begins (AreFiles n) bytes read rest → HasFiles parts read rest
has_files parts n bytes read rest lt is b =
    let many = b.spelled.many in
    let P : ℕ → Type 0 = λ k. AreFiles k read b.text in
    record {
      text = b.text;
      few = (let Q : ℕ → Type 0 = λ k. k < 2 ^ 32 in subst Q (sym many) lt);
      are = subst P (sym many) b.spelled;
      spelled = is ∙ ap (λ (z : List ℕ). u4 n ++ z) b.parts
          ∙ ap (λ (k : ℕ). u4 k ++ (b.text ++ rest)) (sym many);
    }

-- the same, after a count that was read
pub has_counted : (parts : List ℕ) → IsBytes parts → 4 ≤ length parts → (n : ℕ) (bytes : List ℕ)
    (read : List ClassFile) (rest : List ℕ) → n < 2 ^ 32 → n ≡ from_be_bytes w32 (take 4 parts) → bytes ≡ drop 4 parts
    → Begins (AreFiles n) bytes read rest → HasFiles parts read rest
has_counted parts fits long n bytes read rest lt is left b =
    has_files parts n bytes read rest lt (counted parts fits long n bytes is left) b

-- ---- faults of parts

pub files_fail : (parts : List ℕ) (n : ℕ) (bytes : List ℕ) (e : FilesFault) → n < 2 ^ 32
    → parts ≡ u4 n ++ bytes
    → (e ≡ file_faults.Memory) ⊎ FilesFail n bytes e
    → (of_files e ≡ faults.Memory) ⊎ FailsInEach parts (of_files e)
files_fail parts n bytes e lt is h =
    elim h [
      | inl memory ↦ inl (ap of_files memory)
      | inr fails ↦ inr (λ version. files n bytes e lt is fails)
    ]

pub link_fails : (parts : List ℕ) (read : List ClassFile) (rest : List ℕ) (e : LinkFault)
    → HasFiles parts read rest
    → (e ≡ link_faults.Memory) ⊎ LinkFails read e → (of_link e ≡ faults.Memory) ⊎ FailsInEach parts (of_link e)
link_fails parts read rest e has h =
    elim h [
      | inl memory ↦ inl (ap of_link memory)
      | inr fails ↦ inr (λ version. link read rest e has fails)
    ]

-- what fails in each version fails in this one
pub fails_in : (version : Version) (parts : List ℕ) (f : ImageFault)
    → (f ≡ faults.Memory) ⊎ FailsInEach parts f → (f ≡ faults.Memory) ⊎ PartsFail version parts f
fails_in version parts f h =
    elim h [
      | inl memory ↦ inl memory
      | inr fails ↦ inr (fails version)
    ]

pub regions_fail : (version : Version) (parts : List ℕ) (family : Family) (rest : List ℕ) (e : RegionsFault)
    (f : ImageFault)
    → IsLinked parts family rest → (e ≡ region_faults.Memory) ⊎ RegionsFail version family rest e
    → (f ≡ faults.Memory) ⊎ (f ≡ of_regions family e) → (f ≡ faults.Memory) ⊎ PartsFail version parts f
regions_fail version parts family rest e f linked h (inl memory) = inl memory
regions_fail version parts family rest e f linked h (inr is) =
    elim h [
      | inl memory ↦ inl (is ∙ ap (of_regions family) memory)
      | inr fails ↦
          let P : ImageFault → Type 0 = λ z. PartsFail version parts z in
          inr (subst P (sym is) (regions family rest e linked fails))
    ]

-- a name by its units
pub if_named : {E : Type 0} (text : List ℕ) {units : List ℕ} (result : Result (List ℕ) E) → IsModifiedUtf8 text
    → units_of text ≡ units → (IsModifiedUtf8 text → IfOk result (λ name. units_text name ≡ text))
    → IfOk result (λ name. name ≡ units)
if_named text (Ok name) modified same spelled =
    same_units name (units_of text) (spelled modified ∙ sym (units_text-units_of text modified)) ∙ same
if_named text (Err e) modified same spelled = tt

pub parts_fail : (bytes : List ℕ) (version : Version) (parts : List ℕ) (f : ImageFault)
    → IsFramed bytes version parts
    → (f ≡ faults.Memory) ⊎ PartsFail version parts f → (f ≡ faults.Memory) ⊎ ImageFails bytes f
parts_fail bytes version parts f framed h =
    elim h [
      | inl memory ↦ inl memory
      | inr fails ↦ inr (within version parts f framed fails)
    ]

-- ---- what is accepted

pub parts_text : (version : Version) (parts : List ℕ) (family : Family) (rest : List ℕ)
    (held : List (Option ImageRegion)) → IsLinked parts family rest → RegionsText version family rest held
    → PartsText version parts family held
parts_text version parts family rest held linked told =
    let has = linked.has in
    let same = same_files linked.files family has.are.ascending linked.of in
    let AreGood : List ClassFile → Type 0 = λ z. All IsClassFile z in
    let AreSmall : List ClassFile → Type 0 = λ z. All IsShort z in
    let Link : List ClassFile → Type 0 = λ z. Links z in
    let body : flat_map file_text linked.files ≡ flat_map given_text family =
    ap (λ (z : List ClassFile). flat_map file_text z) same ∙ family_text family in
    record {
      classes = linked.of.fits;
      files = family_each IsClassFile family (subst AreGood same has.are.fits);
      links = subst Link same linked.links;
      short = family_each IsShort family (subst AreSmall same has.are.short);
      fits = told.fits;
      spelled = has.spelled ∙ ap (λ (k : ℕ). u4 k ++ (has.text ++ rest)) (sym linked.of.count)
          ∙ ap (λ (z : List ℕ). u4 (length family) ++ (z ++ rest)) (has.are.spelled ∙ body)
          ∙ ap (λ (z : List ℕ). u4 (length family) ++ (flat_map given_text family ++ z)) told.spelled;
    }

-- regions that hold what the parts tell
module _ (version : Version) (P Q : Tables) (rest : List ℕ) (regions : List (Option Held))
    (held : RegionsHeld version P Q rest regions) (is : IsProgram Q) where
  told_is : told_regions Q (environment_of regions) ≡ held.told
  told_is =
      let family = held.holds.adds.family in
      regions_told version Q (static_count Q is) held.told (environment_of regions)
      (held.text.fits.count ∙ ap length (sym family))
      (λ c t at. subst (λ (f : Family). HasShape version f c t) (sym family) (held.text.fits.shapes c t at))
      held.holds.holds

  pub parts_held : (parts : List ℕ) → IsLinked parts P.family rest
      → PartsText version parts Q.family (told_regions Q (environment_of regions))
  parts_held parts linked =
      let text = parts_text version parts P.family rest held.told linked held.text in
      subst (λ (told : List (Option ImageRegion)). PartsText version parts Q.family told) (sym told_is)
      (subst (λ (f : Family). PartsText version parts f held.told) (sym held.holds.adds.family) text)

  pub files_held : IsProgram P → HasOwnStrings P → IsOfFiles Q regions
  files_held linked own =
      record { linked = P; program = linked; own_strings = own; holds = rw told_is held.holds }

pub image_text : (bytes : List ℕ) (version : Version) (parts : List ℕ) (family : Family)
    (held : List (Option ImageRegion)) → IsFramed bytes version parts → PartsText version parts family held
    → VersionText version bytes family held
image_text bytes version parts family held framed text = record {
  classes = text.classes;
  files = text.files;
  links = text.links;
  short = text.short;
  fits = text.fits;
  spelled = framed.framed
      ∙ ap (λ (z : List ℕ). with_digest (u4 1246775629 ++ (u2 (version_number version) ++ z))) text.spelled;
}

-- what is shown of a text
pub some_text : (version : Version) (bytes : List ℕ) (family : Family) (all held : List (Option ImageRegion))
    → VersionText version bytes family all → IsShown version all held → SomeText bytes family held
some_text versions.One bytes family all held text shown =
    inr (record { all = all; text = text; dropped = shown })
some_text versions.Two bytes family all held text shown =
    let P : List (Option ImageRegion) → Type 0 = λ z. VersionText versions.Two bytes family z in
    inl (subst P (sym shown) text)

-- ---- answers of functions

pub parts_refused : {X : Type 0} (bytes : List ℕ) (version : Version) (parts : List ℕ) (result : Result X ImageFault)
    → IsFramed bytes version parts → IfErr result (λ f. (f ≡ faults.Memory) ⊎ PartsFail version parts f)
    → IfErr result (λ f. (f ≡ faults.Memory) ⊎ ImageFails bytes f)
parts_refused bytes version parts (Ok x) framed h = tt
parts_refused bytes version parts (Err f) framed h = parts_fail bytes version parts f framed h

pub parts_accepted : (bytes : List ℕ) (version : Version) (parts : List ℕ) (result : Result Parsed ImageFault)
    → IsFramed bytes version parts
    → IfOk result (λ p. (p.version ≡ version) × PartsText version parts p.program.family (told_in p))
    → IfOk result (λ p. VersionText p.version bytes p.program.family (told_in p))
parts_accepted bytes version parts (Ok p) framed h =
    subst (λ (v : Version). VersionText v bytes p.program.family (told_in p)) (sym h.0)
    (image_text bytes version parts p.program.family (told_in p) framed h.1)
parts_accepted bytes version parts (Err f) framed h = tt
