-- Bytes are the text of one image or have one fault, and never both.
use Rattle.std.proofs.Common.{◌≡◌, ℕ, ◌+◌, ◌<◌, ◌≤◌, ◌^◌, ◌⊎◌, List, ◌++◌, length, take, drop, Option, None, Result, Ok}
use Rattle.std.proofs.Common.{Err, refl, sym, ap, subst, ◌∙◌, arith, inl, inr}
use Rattle.std.specs.Int.{w32, from_be_bytes}
use Rattle.std.specs.Prelude.{IfOk, IfErr, MatchResult}
use Rattle.std.specs.List.{flat_map}
use Rattle.std.proofs.lemmas.List.{take_at, drop_at, length-append, length-map}
use Rattle.std.proofs.lemmas.List.Elements.{All-map, All-contains}
use Rattle.std.proofs.lemmas.List.Sorted.{IsPermutation-refl}
use Rattle.std.proofs.lemmas.Nat.{from_be_bytes-to_be_bytes_4}
use Rattle.sha2.specs.Sha256.{sha256}
use Rattle.sha2.proofs.Facts256.{length-sha256}
use Rattle.classfile.specs.Class.{IsClassFile}
use Rattle.classfile.specs.ClassFile.{ClassFile}
use Rattle.classfile.specs.Spelling.{u2, u4}
use Rattle.classfile.specs.Faults.{IsBytes}
use Rattle.classfile.proofs.Lawful.{IsBytes-back, fits_as, wide32}
use Rattle.classfile.proofs.RuleLawful.{IsBytes-front}
use Rattle.loading.specs.Families.{Family, IsFamilyOf}
use Rattle.loading.specs.Files.{LinkFails}
use Rattle.loading.proofs.FilesFaultLemmas.{not_both as link_not_both, one_fault as one_link_fault}
use Rattle.program.proofs.OneFamilyLemmas.{one_family}
use Rattle.image_format.specs.Regions.{ImageRegion}
use Rattle.image_format.specs.declared.version.Version.{Version}
use Rattle.image_format.specs.declared.version.Version.TheVariants as versions
use Rattle.program.specs.Programs.{IsProgram, files_of as classes_of}
use Rattle.image_format.specs.Images.{VersionText, ImageText, OldText}
use Rattle.image_format.specs.Reached.{IsDropped}
use Rattle.image_format.specs.Texts.{given_text, flag_text, version_number}
use Rattle.image_format.proofs.DroppedLemmas.{one_dropped}
use Rattle.image_parser.specs.declared.fault.FilesFault.{FilesFault}
use Rattle.image_parser.specs.declared.fault.RegionFault.{RegionFault}
use Rattle.image_parser.specs.declared.image.Parsed.{Parsed}
use Rattle.image_parser.specs.declared.image_fault.ImageFault.{ImageFault}
use Rattle.image_parser.specs.declared.image_fault.ImageFault.TheVariants as faults
use Rattle.image_parser.specs.AllRegions.{RegionsText, RegionsFail}
use Rattle.image_parser.specs.FileFaults.{FilesFail}
use Rattle.image_parser.specs.HeaderFaults.{IsFramed}
use Rattle.image_parser.specs.ImageFaults.{of_header, of_files, of_link, of_regions, HasFiles, IsLinked, PartsText}
use Rattle.image_parser.specs.ImageFaults.{PartsFail, ImageParts, IsImage, ImageFails}
use Rattle.image_parser.specs.ImageFaults.PartsFail.{files, link, regions}
use Rattle.image_parser.specs.ImageFaults.ImageFails.{frame, within}
use Rattle.image_parser.specs.Parsings.{IsOfFiles, IsParsed, told_in}
use Rattle.image_parser.specs.TextOrFault.{TextOrFault}
use Rattle.image_parser.specs.reading.Files.{files_at}
use Rattle.image_parser.specs.reading.Results.{number_at}
use Rattle.image_parser.proofs.NumberLawful.{number_lawful}
use Rattle.image_parser.proofs.FileLawful.{files_lawful}
use Rattle.image_parser.proofs.FamilyOrderLemmas.{family_text, family_ascending, files_ascend, IsShort}
use Rattle.image_parser.proofs.ImageLemmas.{long_enough, has_files, parts_text, image_text, some_text}
use Rattle.image_parser.proofs.LinkingLemmas.{links_or_fails}
use Rattle.image_parser.proofs.FrameLaw.{one_of as frame_or_fault}
use Rattle.image_parser.proofs.AllRegionsLaw.{one_of as regions_or_fault, shown_of}

abbrev Held : Type 0
Held = List (Option ImageRegion)

abbrev pair : Version → List ℕ → Version × List ℕ
pair v parts = (v, parts)

-- ---- the count

one_count : (a b : ℕ) (s t : List ℕ) → a < 2 ^ 32 → b < 2 ^ 32 → u4 a ++ s ≡ u4 b ++ t → (a ≡ b) × (s ≡ t)
one_count a b s t p q e =
    let text : u4 a ≡ u4 b = sym (take_at (u4 a) s 4 refl) ∙ ap (λ (z : List ℕ). take 4 z) e
    ∙ take_at (u4 b) t 4 refl in
    let rest : s ≡ t = sym (drop_at (u4 a) s 4 refl) ∙ ap (λ (z : List ℕ). drop 4 z) e ∙ drop_at (u4 b) t 4 refl in (
      sym (from_be_bytes-to_be_bytes_4 a p) ∙ ap (λ (z : List ℕ). from_be_bytes w32 z) text
          ∙ from_be_bytes-to_be_bytes_4 b q,
      rest,
    )

after_count : (parts : List ℕ) (n : ℕ) (rest : List ℕ) → IsBytes parts → parts ≡ u4 n ++ rest → IsBytes rest
after_count parts n rest fits is = IsBytes-back (u4 n) rest (fits_as parts (u4 n ++ rest) is fits)

-- ---- class files

abbrev Many : Type 0
Many = Result (List ClassFile × List ℕ) FilesFault

abbrev found : List ClassFile → List ℕ → Many
found read rest = Ok (read, rest)

abbrev refused : FilesFault → Many
refused e = Err e

same_found : (a b : List ClassFile) (s t : List ℕ) → found a s ≡ found b t → (a ≡ b) × (s ≡ t)
same_found a b s t e =
    let both : (a, s) ≡ (b, t) = cc in
    (ap (λ (z : List ClassFile × List ℕ). z.0) both, ap (λ (z : List ClassFile × List ℕ). z.1) both)

read_as : (a b : ℕ) (s t : List ℕ) → (a ≡ b) × (s ≡ t) → files_at a 0 None s ≡ files_at b 0 None t
read_as a b s t same =
    ap (λ (n : ℕ). files_at n 0 None s) same.0 ∙ ap (λ (z : List ℕ). files_at b 0 None z) same.1

module _ (parts : List ℕ) where
  -- what is read there
  has_read : (read : List ClassFile) (rest : List ℕ) → (has : HasFiles parts read rest)
      → files_at (length read) 0 None (has.text ++ rest) ≡ found read rest
  has_read read rest has = (files_lawful (length read)).again read has.text rest has.are

  one_has : (read others : List ClassFile) (rest left : List ℕ) → HasFiles parts read rest
      → HasFiles parts others left → (read ≡ others) × (rest ≡ left)
  one_has read others rest left a b =
      let same = one_count (length read) (length others) (a.text ++ rest) (b.text ++ left) a.few b.few
      (sym a.spelled ∙ b.spelled) in
      same_found read others rest left
      (sym (has_read read rest a) ∙ read_as (length read) (length others) (a.text ++ rest) (b.text ++ left) same
      ∙ has_read others left b)

  has_no_fault : (read : List ClassFile) (rest : List ℕ) (n : ℕ) (bytes : List ℕ) (e : FilesFault) → IsBytes parts
      → HasFiles parts read rest → n < 2 ^ 32 → parts ≡ u4 n ++ bytes → FilesFail n bytes e → ⊥
  has_no_fault read rest n bytes e fits has few is fails =
      let same = one_count (length read) n (has.text ++ rest) bytes has.few few (sym has.spelled ∙ is) in
      let ends = (files_lawful n).blamed bytes e (after_count parts n bytes fits is) fails in
      let both : found read rest ≡ refused e = sym (has_read read rest has)
      ∙ read_as (length read) n (has.text ++ rest) bytes same ∙ ends in
      cc

  one_files_fault : (n m : ℕ) (bytes others : List ℕ) (e f : FilesFault) → IsBytes parts → n < 2 ^ 32 → m < 2 ^ 32
      → parts ≡ u4 n ++ bytes → parts ≡ u4 m ++ others → FilesFail n bytes e → FilesFail m others f → e ≡ f
  one_files_fault n m bytes others e f fits few less is same fails blames =
      let count = one_count n m bytes others few less (sym is ∙ same) in
      let one = (files_lawful n).blamed bytes e (after_count parts n bytes fits is) fails in
      let two = (files_lawful m).blamed others f (after_count parts m others fits same) blames in
      let both : refused e ≡ refused f = sym one ∙ read_as n m bytes others count ∙ two in
      cc

  -- ---- the family of class files that link

  one_linked : (F G : Family) (rest left : List ℕ) → IsLinked parts F rest → IsLinked parts G left
      → (F ≡ G) × (rest ≡ left)
  one_linked F G rest left a b =
      let same = one_has a.files b.files rest left a.has b.has in
      let P : List ClassFile → Type 0 = λ z. IsFamilyOf z G in (
        one_family a.files a.files F G a.links (IsPermutation-refl a.files) a.of (subst P (sym same.0) b.of),
        same.1,
      )

  rest_fits : (F : Family) (rest : List ℕ) → IsBytes parts → IsLinked parts F rest → IsBytes rest
  rest_fits F rest fits linked =
      let has = linked.has in
      IsBytes-back has.text rest (after_count parts (length linked.files) (has.text ++ rest) fits has.spelled)

-- ---- the parts of an image

rest_of : Version → Family → Held → List ℕ
rest_of version family held = flat_map (flag_text version family) held

module _ (version : Version) (parts : List ℕ) (family : Family) (held : Held)
    (text : PartsText version parts family held) where
  abbrev given : List ClassFile
  given = classes_of family

  count : length given ≡ length family
  count = length-map family (λ c. c.file)

  text_has : HasFiles parts given (rest_of version family held)
  unfolding rest_of
  text_has =
      let few = text.links.few in
      record {
        text = flat_map given_text family;
        few = omega (arith, few);
        are = record {
          many = refl;
          fits = All-map IsClassFile (λ c. c.file) family text.files;
          short = All-map IsShort (λ c. c.file) family text.short;
          ascending = family_ascending family text.classes;
          spelled = sym (family_text family);
        };
        spelled = text.spelled
            ∙ ap (λ (n : ℕ). u4 n ++ (flat_map given_text family ++ flat_map (flag_text version family) held))
            (sym count);
      }

  text_linked : IsLinked parts family (rest_of version family held)
  text_linked = record {
    files = given;
    has = text_has;
    links = text.links;
    of = record { fits = text.classes; count = sym count; members = λ f. (λ h. h, λ h. h) };
  }

  text_told : RegionsText version family (rest_of version family held) held
  unfolding rest_of
  text_told = record { fits = text.fits; spelled = refl }

module _ (version : Version) (parts : List ℕ) (fits : IsBytes parts) where
  no_parts_fault : (family : Family) (held : Held) (f : ImageFault) → PartsText version parts family held
      → PartsFail version parts f → ⊥
  no_parts_fault family held f text (files n bytes e few is fails) =
      has_no_fault parts (classes_of family) (rest_of version family held) n bytes e fits
      (text_has version parts family held text) few is
      fails
  no_parts_fault family held f text (link read rest e has fails) =
      let same = one_has parts read (classes_of family) rest (rest_of version family held) has
      (text_has version parts family held text) in
      let P : List ClassFile → Type 0 = λ z. LinkFails z e in
      link_not_both (classes_of family) e text.links (subst P same.0 fails)
  no_parts_fault family held f text (regions G rest e linked fails) =
      let mine = text_linked version parts family held text in
      let same = one_linked parts G family rest (rest_of version family held) linked mine in
      let P : Family → Type 0 = λ z. RegionsFail version z rest e in
      let Q : List ℕ → Type 0 = λ z. RegionsFail version family z e in
      let one = regions_or_fault version family (rest_of version family held) text.classes
      (rest_fits parts family (rest_of version family held) fits mine) in
      one.not_both held e (text_told version parts family held text) (subst Q same.1 (subst P same.0 fails))

  one_parts : (F G : Family) (a b : Held) → PartsText version parts F a → PartsText version parts G b
      → (F ≡ G) × (a ≡ b)
  one_parts F G a b s t =
      let mine = text_linked version parts F a s in
      let same = one_linked parts F G (rest_of version F a) (rest_of version G b) mine
      (text_linked version parts G b t) in
      let P : Family → Type 0 = λ z. RegionsText version z (rest_of version G b) b in
      let Q : List ℕ → Type 0 = λ z. RegionsText version F z b in
      let one = regions_or_fault version F (rest_of version F a) s.classes
      (rest_fits parts F (rest_of version F a) fits mine) in
      let told = subst Q (sym same.1) (subst P (sym same.0) (text_told version parts G b t)) in
      (same.0, one.one_text a b (text_told version parts F a s) told)

  one_parts_fault : (f g : ImageFault) → PartsFail version parts f → PartsFail version parts g → f ≡ g
  one_parts_fault f g (files n bytes e few is fails) (files m others d less same blames) =
      ap of_files (one_files_fault parts n m bytes others e d fits few less is same fails blames)
  one_parts_fault f g (files n bytes e few is fails) (link read rest d has blames) =
      absurd (has_no_fault parts read rest n bytes e fits has few is fails)
  one_parts_fault f g (files n bytes e few is fails) (regions F rest d linked blames) =
      absurd (has_no_fault parts linked.files rest n bytes e fits linked.has few is fails)
  one_parts_fault f g (link read rest e has fails) (files m others d less same blames) =
      absurd (has_no_fault parts read rest m others d fits has less same blames)
  one_parts_fault f g (link read rest e has fails) (link back left d had blames) =
      let same = one_has parts read back rest left has had in
      let P : List ClassFile → Type 0 = λ z. LinkFails z d in
      ap of_link (one_link_fault read e d fails (subst P (sym same.0) blames))
  one_parts_fault f g (link read rest e has fails) (regions F left d linked blames) =
      let same = one_has parts read linked.files rest left has linked.has in
      let P : List ClassFile → Type 0 = λ z. LinkFails z e in
      absurd (link_not_both linked.files e linked.links (subst P same.0 fails))
  one_parts_fault f g (regions F rest e linked fails) (files m others d less same blames) =
      absurd (has_no_fault parts linked.files rest m others d fits linked.has less same blames)
  one_parts_fault f g (regions F rest e linked fails) (link back left d had blames) =
      let same = one_has parts back linked.files left rest had linked.has in
      let P : List ClassFile → Type 0 = λ z. LinkFails z d in
      absurd (link_not_both linked.files d linked.links (subst P same.0 blames))
  one_parts_fault f g (regions F rest e linked fails) (regions G left d joined blames) =
      let same = one_linked parts F G rest left linked joined in
      let P : Family → Type 0 = λ z. RegionsFail version z left d in
      let Q : List ℕ → Type 0 = λ z. RegionsFail version F z d in
      let one = regions_or_fault version F rest linked.of.fits (rest_fits parts F rest fits linked) in
      ap (of_regions F) (one.one_fault e d fails (subst Q (sym same.1) (subst P (sym same.0) blames)))
      ∙ ap (λ (z : Family). of_regions z d) same.0

-- ---- the whole

parts_of : Version → Family → Held → List ℕ
parts_of version family held =
    u4 (length family) ++ (flat_map given_text family ++ flat_map (flag_text version family) held)

two_bytes : (version : Version) → length (u2 (version_number version)) ≡ 2
two_bytes versions.One = refl
two_bytes versions.Two = refl

text_framed : (bytes : List ℕ) (version : Version) (family : Family) (held : Held)
    → VersionText version bytes family held → IsFramed bytes version (parts_of version family held)
unfolding parts_of
text_framed bytes version family held text =
    let number : List ℕ = u2 (version_number version) in
    let rest : List ℕ = flat_map given_text family ++ flat_map (flag_text version family) held in
    let parts : List ℕ = u4 (length family) ++ rest in
    let body : List ℕ = u4 1246775629 ++ (number ++ parts) in
    let all : length bytes ≡ length body + length (sha256 body) = ap length text.spelled
    ∙ length-append body (sha256 body) in
    let front : length body ≡ length (u4 1246775629) + length (number ++ parts) = length-append (u4 1246775629)
    (number ++ parts) in
    let next : length (number ++ parts) ≡ length number + length parts = length-append number parts in
    let last : length parts ≡ length (u4 (length family)) + length rest = length-append (u4 (length family)) rest in
    let four : length (u4 1246775629) ≡ 4 = refl in
    let two : length number ≡ 2 = two_bytes version in
    let count : length (u4 (length family)) ≡ 4 = refl in
    record {
      size = omega (arith, all, front, next, last, four, two, count, length-sha256 body);
      framed = text.spelled;
    }

text_parts : (bytes : List ℕ) (version : Version) (family : Family) (held : Held)
    → VersionText version bytes family held → PartsText version (parts_of version family held) family held
unfolding parts_of
text_parts bytes version family held text = record {
  classes = text.classes;
  files = text.files;
  links = text.links;
  short = text.short;
  fits = text.fits;
  spelled = refl;
}

parts_fit : (bytes : List ℕ) (version : Version) (parts : List ℕ) → IsBytes bytes → IsFramed bytes version parts
    → IsBytes parts
parts_fit bytes version parts fits framed =
    let number : List ℕ = u2 (version_number version) in
    let body : List ℕ = u4 1246775629 ++ (number ++ parts) in
    let front = IsBytes-front body (sha256 body) (fits_as bytes (body ++ sha256 body) framed.framed fits) in
    IsBytes-back number parts (IsBytes-back (u4 1246775629) (number ++ parts) front)

module _ (bytes : List ℕ) where
  -- one frame, in two words
  one_frame : (v w : Version) (p q : List ℕ) → IsFramed bytes v p → IsFramed bytes w q → (v ≡ w) × (p ≡ q)
  one_frame v w p q s t =
      let same : pair v p ≡ pair w q = (frame_or_fault bytes).one_text (v, p) (w, q) s t in
      (ap (λ (z : Version × List ℕ). z.0) same, ap (λ (z : Version × List ℕ). z.1) same)

  one_version : (v w : Version) (F G : Family) (a b : Held) → VersionText v bytes F a → VersionText w bytes G b → v ≡ w
  one_version v w F G a b s t =
      (one_frame v w (parts_of v F a) (parts_of w G b) (text_framed bytes v F a s) (text_framed bytes w G b t)).0

  -- texts of two versions
  pub not_two : (F G : Family) (a b : Held) → ImageText bytes F a → OldText bytes G b → ⊥
  not_two F G a b s t =
      let same : versions.Two ≡ versions.One = one_version versions.Two versions.One F G a t.all s t.text in cc

module _ (bytes : List ℕ) (fits : IsBytes bytes) where
  no_fault : (version : Version) (family : Family) (held : Held) (f : ImageFault)
      → VersionText version bytes family held → ImageFails bytes f → ⊥
  no_fault version family held f text (frame e fails) =
      (frame_or_fault bytes).not_both (version, parts_of version family held) e
      (text_framed bytes version family held text) fails
  no_fault version family held f text (within other parts g framed fails) =
      let mine = text_framed bytes version family held text in
      let same = one_frame bytes other version parts (parts_of version family held) framed mine in
      let P : Version → Type 0 = λ v. PartsFail v parts g in
      let Q : List ℕ → Type 0 = λ z. PartsFail version z g in
      no_parts_fault version (parts_of version family held)
      (parts_fit bytes version (parts_of version family held) fits mine) family held g
      (text_parts bytes version family held text) (subst Q same.1 (subst P same.0 fails))

  one_whole : (version : Version) (F G : Family) (a b : Held) → VersionText version bytes F a
      → VersionText version bytes G b → (F ≡ G) × (a ≡ b)
  one_whole version F G a b s t =
      let mine = text_framed bytes version F a s in
      let same = one_frame bytes version version (parts_of version G b) (parts_of version F a)
      (text_framed bytes version G b t) mine in
      let P : List ℕ → Type 0 = λ z. PartsText version z G b in
      one_parts version (parts_of version F a) (parts_fit bytes version (parts_of version F a) fits mine) F G a b
      (text_parts bytes version F a s) (subst P same.1 (text_parts bytes version G b t))

  one_image_fault : (f g : ImageFault) → ImageFails bytes f → ImageFails bytes g → f ≡ g
  one_image_fault f g (frame e fails) (frame d blames) =
      ap of_header ((frame_or_fault bytes).one_fault e d fails blames)
  one_image_fault f g (frame e fails) (within v parts d framed blames) =
      absurd ((frame_or_fault bytes).not_both (v, parts) e framed fails)
  one_image_fault f g (within v parts e framed fails) (frame d blames) =
      absurd ((frame_or_fault bytes).not_both (v, parts) d framed blames)
  one_image_fault f g (within v parts e framed fails) (within w others d around blames) =
      let same = one_frame bytes w v others parts around framed in
      let P : Version → Type 0 = λ z. PartsFail z others d in
      let Q : List ℕ → Type 0 = λ z. PartsFail v z d in
      one_parts_fault v parts (parts_fit bytes v parts fits framed) e d fails
      (subst Q same.1 (subst P same.0 blames))

  one_pair : (x y : ImageParts) → IsImage bytes x → IsImage bytes y → x ≡ y
  one_pair x y (inl s) (inl t) =
      let same = one_whole versions.Two x.0 y.0 x.1 y.1 s t in λ i. (same.0 i, same.1 i)
  one_pair x y (inl s) (inr t) = absurd (not_two bytes x.0 y.0 x.1 y.1 s t)
  one_pair x y (inr s) (inl t) = absurd (not_two bytes y.0 x.0 y.1 x.1 t s)
  one_pair x y (inr s) (inr t) =
      let same = one_whole versions.One x.0 y.0 s.all t.all s.text t.text in
      let P : Held → Type 0 = λ z. IsDropped z x.1 in
      let shown = one_dropped t.all x.1 y.1 (subst P same.1 s.dropped) t.dropped in
      λ i. (same.0 i, shown i)

  no_image_fault : (x : ImageParts) (f : ImageFault) → IsImage bytes x → ImageFails bytes f → ⊥
  no_image_fault x f (inl s) fails = no_fault versions.Two x.0 x.1 f s fails
  no_image_fault x f (inr s) fails = no_fault versions.One x.0 s.all f s.text fails

-- ---- one of both

abbrev PartsOr : Version → List ℕ → Type 0
PartsOr version parts =
    ((image : ImageParts) × PartsText version parts image.0 image.1) ⊎ ((f : ImageFault) × PartsFail version parts f)

module _ (version : Version) (parts : List ℕ) (fits : IsBytes parts) where
  linked_or_fault : (F : Family) (rest : List ℕ) → IsLinked parts F rest → PartsOr version parts
  linked_or_fault F rest linked =
      elim (regions_or_fault version F rest linked.of.fits (rest_fits parts F rest fits linked)).some [
        | inl told ↦ inl ((F, told.0), parts_text version parts F rest told.0 linked told.1)
        | inr fails ↦ inr (of_regions F fails.0, regions F rest fails.0 linked fails.1)
      ]

  has_or_fault : (read : List ClassFile) (rest : List ℕ) → HasFiles parts read rest → PartsOr version parts
  has_or_fault read rest has =
      elim (links_or_fails read (files_ascend read has.are.ascending)
      (λ f in-f. All-contains IsClassFile read f has.are.fits in-f)) [
        | inl one ↦
            linked_or_fault one.0 rest (record { files = read; has = has; links = one.1.1; of = one.1.0 })
        | inr fails ↦ inr (of_link fails.0, link read rest fails.0 has fails.1)
      ]

  files_or_fault : (n : ℕ) (rest : List ℕ) → n < 2 ^ 32 → parts ≡ u4 n ++ rest → (o : Many)
      → files_at n 0 None rest ≡ o → PartsOr version parts
  files_or_fault n rest few is (Ok p) e =
      let t = (files_lawful n).takes rest p.0 p.1 (after_count parts n rest fits is) e in
      has_or_fault p.0 p.1 (has_files parts n rest p.0 p.1 few is
      (record { text = t.text; spelled = t.spelled; parts = t.parts }))
  files_or_fault n rest few is (Err f) e =
      inr (of_files f, files n rest f few is ((files_lawful n).blames rest f (after_count parts n rest fits is) e))

  count_or_fault : 4 ≤ length parts → (o : Result (ℕ × List ℕ) RegionFault) → number_at w32 parts ≡ o
      → PartsOr version parts
  count_or_fault long (Ok p) e =
      let t = (number_lawful w32 wide32).takes parts p.0 p.1 fits e in
      let few = t.spelled.0 in
      files_or_fault p.0 p.1 (omega (arith, few))
      (t.parts ∙ ap (λ (z : List ℕ). z ++ p.1) t.spelled.1) (files_at p.0 0 None p.1) refl
  count_or_fault long (Err f) e =
      let cut = (number_lawful w32 wide32).blames parts f fits e in
      let short = cut.0 in
      absurd (omega (arith, short, long))

abbrev ImageOr : List ℕ → Type 0
ImageOr bytes = ((image : ImageParts) × IsImage bytes image) ⊎ ((f : ImageFault) × ImageFails bytes f)

shown_or_fault : (bytes : List ℕ) (version : Version) (family : Family) (all : Held)
    → VersionText version bytes family all → ImageOr bytes
shown_or_fault bytes version family all text =
    let s = shown_of version all in inl ((family, s.0), some_text version bytes family all s.0 text s.1)

image_or_fault : (bytes : List ℕ) → IsBytes bytes → ImageOr bytes
image_or_fault bytes fits = elim (frame_or_fault bytes).some [
  | inr fails ↦ inr (of_header fails.0, frame fails.0 fails.1)
  | inl framed ↦
      let version : Version = framed.0.0 in
      let parts : List ℕ = framed.0.1 in
      elim (count_or_fault version parts (parts_fit bytes version parts fits framed.1)
      (long_enough bytes version parts framed.1) (number_at w32 parts) refl) [
        | inl told ↦ shown_or_fault bytes version told.0.0 told.0.1
            (image_text bytes version parts told.0.0 told.0.1 framed.1 told.1)
        | inr fails ↦ inr (fails.0, within version parts fails.0 framed.1 fails.1)
      ]
]

pub one_of : (bytes : List ℕ) → IsBytes bytes → TextOrFault (IsImage bytes) (ImageFails bytes)
one_of bytes fits = record {
  some = image_or_fault bytes fits;
  not_both = no_image_fault bytes fits;
  one_text = one_pair bytes fits;
  one_fault = one_image_fault bytes fits;
}

-- ---- what is answered, unless memory runs out

module _ (bytes : List ℕ) (fits : IsBytes bytes) where
  one_reading : (v w : Version) (F G : Family) (a b : Held) → VersionText v bytes F a → VersionText w bytes G b
      → (v ≡ w) × (F ≡ G) × (a ≡ b)
  one_reading v w F G a b s t =
      let same : v ≡ w = one_version bytes v w F G a b s t in
      let P : Version → Type 0 = λ z. VersionText z bytes G b in
      let whole = one_whole bytes fits v F G a b s (subst P (sym same) t) in
      (same, whole.0, whole.1)

  only_text : (result : Result Parsed ImageFault)
      → IfOk result (λ p. VersionText p.version bytes p.program.family (told_in p))
      → IfErr result (λ f. (f ≡ faults.Memory) ⊎ ImageFails bytes f)
      → (version : Version) (family : Family) (held : Held) → VersionText version bytes family held
      → MatchResult result (λ p. (p.version ≡ version) × (p.program.family ≡ family) × (told_in p ≡ held))
      (λ f. f ≡ faults.Memory)
  only_text (Ok p) ok err version family held text =
      one_reading p.version version p.program.family family (told_in p) held ok text
  only_text (Err f) ok err version family held text =
      elim err [
        | inl memory ↦ memory
        | inr fails ↦ absurd (no_fault bytes fits version family held f text fails)
      ]

  only_fault : (result : Result Parsed ImageFault)
      → IfOk result (λ p. VersionText p.version bytes p.program.family (told_in p))
      → IfErr result (λ f. (f ≡ faults.Memory) ⊎ ImageFails bytes f)
      → (x : ImageFault) → ImageFails bytes x → (result ≡ Err x) ⊎ (result ≡ Err faults.Memory)
  only_fault (Ok p) ok err x fails =
      absurd (no_fault bytes fits p.version p.program.family (told_in p) x ok fails)
  only_fault (Err f) ok err x fails =
      elim err [
        | inl memory ↦ inr (ap (λ (z : ImageFault). Err z) memory)
        | inr mine ↦ inl (ap (λ (z : ImageFault). Err z) ((one_of bytes fits).one_fault f x mine fails))
      ]

  pub is_parsed : (result : Result Parsed ImageFault)
      → IfOk result (λ p. VersionText p.version bytes p.program.family (told_in p))
      → IfOk result (λ p. IsProgram p.program) → IfOk result (λ p. IsOfFiles p.program p.regions)
      → IfErr result (λ f. (f ≡ faults.Memory) ⊎ ImageFails bytes f) → IsParsed bytes result
  is_parsed result text program made fault = record {
    text = text;
    program = program;
    files = made;
    only_text = only_text result text fault;
    fault = fault;
    only_fault = only_fault result text fault;
  }
