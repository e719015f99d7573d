-- A text of an image of a program with no strings but its class files' is read as that image.
use Rattle.std.proofs.Common.{◌≡◌, ◌∙◌, inl, inr, ℕ, List, Option, Ok, Err, slice_get, refl, sym, ap, subst}
use Rattle.classfile.specs.Faults.{IsBytes}
use Rattle.classfile.specs.Class.{IsClassFile}
use Rattle.loading.specs.declared.given.GivenClass.{GivenClass}
use Rattle.loading.specs.Families.{Family, IsFamily}
use Rattle.program.specs.Programs.{IsProgram}
use Rattle.program.specs.Tables.{Tables}
use Rattle.program.proofs.OneProgramLemmas.{one_program}
use Rattle.machine.proofs.LawsFinalLemmas.{given_of}
use Rattle.region_shape.specs.Regions.{environment_of}
use Rattle.region_shape.specs.Laws.{IsFromFile}
use Rattle.object_graph.specs.Images.{ImageTables}
use Rattle.image_format.specs.Regions.{ImageRegion}
use Rattle.image_format.specs.declared.version.Version.TheVariants as versions
use Rattle.image_format.specs.Images.{AreClassFiles, ImageText, SomeText}
use Rattle.image_parser.specs.declared.image_fault.ImageFault.{ImageFault}
use Rattle.image_parser.specs.declared.image_fault.ImageFault.TheVariants.{Memory}
use Rattle.image_parser.specs.declared.image.Parsed.{Parsed}
use Rattle.image_parser.specs.AllRegions.{IsShown}
use Rattle.image_parser.specs.Parsings.{IsOfFiles, IsParsed, told_in}
use Rattle.image_parser.specs.ImageFaults.{ImageParts}
use Rattle.image_parser.proofs.ImageLaw.{one_of}
use Rattle.image_parser.proofs.ImageLemmas.{some_text}
use Rattle.image_writer.specs.ImageTexts.{text_of, told_of}
use Rattle.image_writer.specs.steps.Sizes.{HasFiles}
use Rattle.image_reader.specs.Readings.{IsOfOwnStrings, IsRead, IsSameImage}
use Rattle.image_parser.specs.reading.Held.{HoldsRegions}
use Rattle.image_parser.proofs.ClassesLemmas.{is_in}
use Rattle.image_reader.proofs.HeldAgainLemmas.{held_again}
use Rattle.image_parser.proofs.SameLemmas.{one_environment}

from_files : (P : Tables) → AreClassFiles P.family → (c : ℕ) → IsFromFile P c
from_files P all c f at =
    let given = given_of (slice_get P.family c) f at in
    subst IsClassFile given.2 (is_in (λ (g : GivenClass). IsClassFile g.file) P.family c given.0 all given.1)

read_again : (I J : ImageTables) → IsOfOwnStrings I → AreClassFiles I.program.family → IsFamily I.program.family
    → IsOfFiles J.program J.regions → IsProgram J.program → J.program.family ≡ I.program.family
    → told_of J ≡ told_of I → IsSameImage I J
read_again I J own files classes made whole same_family same_told =
    let P = made.linked in
    let family : P.family ≡ I.program.family = sym made.holds.adds.family ∙ same_family in
    let parsed : P ≡ I.program =
    one_program P I.program (subst IsFamily (sym family) classes) made.program made.own_strings own.program
    own.own_strings family in
    let has : HasFiles I.program = record { program = own.program; files = from_files I.program files } in
    let env = environment_of I.regions in
    let again : HoldsRegions I.program.strings (told_of J) env =
    subst (λ (x : List (Option ImageRegion)). HoldsRegions I.program.strings x env) (sym same_told)
    (held_again I.program has env own.whole own.small) in
    let read : J.program ≡ P =
    made.holds.same env (subst (λ (x : Tables). HoldsRegions x.strings (told_of J) env) (sym parsed) again) in
    let program : J.program ≡ I.program = read ∙ parsed in
    record {
      program = program;
      regions =
          one_environment J.program.strings whole.distinct (told_of J) (environment_of J.regions) env made.holds.holds
          (subst (λ (x : Tables). HoldsRegions x.strings (told_of J) env) (sym program) again);
    }

-- ---- the image that is read

some_files : (bytes : List ℕ) (family : Family) (regions : List (Option ImageRegion)) → SomeText bytes family regions
    → AreClassFiles family
some_files bytes family regions (inl text) = text.files
some_files bytes family regions (inr old) = old.text.files

some_classes : (bytes : List ℕ) (family : Family) (regions : List (Option ImageRegion)) → SomeText bytes family regions
    → IsFamily family
some_classes bytes family regions (inl text) = text.classes
some_classes bytes family regions (inr old) = old.text.classes

written_text : (bytes : List ℕ) (I : ImageTables) → ImageText (text_of I) I.program.family (told_of I)
    → bytes ≡ text_of I → SomeText bytes I.program.family (told_of I)
written_text bytes I text same =
    inl (subst (λ (z : List ℕ). ImageText z I.program.family (told_of I)) (sym same) text)

module _ (bytes : List ℕ) where
  pub image_read : IsBytes bytes → (p : Parsed) (J : ImageTables) → IsParsed bytes (Ok p)
      → J.program.family ≡ p.program.family → IsShown p.version (told_in p) (told_of J) → IsProgram J.program
      → IsOfFiles J.program J.regions → IsRead bytes (Ok J)
  image_read fits p J parsed same shown program files = record {
    text = text;
    only_text = one;
    written = λ I wrote is. one I.program.family (told_of I) (written_text bytes I wrote is);
    same = λ I own its.
        let both = one I.program.family (told_of I) its in
        read_again I J own (some_files bytes I.program.family (told_of I) its)
        (some_classes bytes I.program.family (told_of I) its) files program both.0 both.1;
    fault = tt;
    only_fault = λ fault fails.
        elim (parsed.only_fault fault fails) [ inl refused ↦ absurd cc | inr refused ↦ absurd cc ];
  }
    where
      text : SomeText bytes J.program.family (told_of J)
      text =
          subst (λ (f : Family). SomeText bytes f (told_of J)) (sym same)
          (some_text p.version bytes p.program.family (told_in p) (told_of J) parsed.text shown)

      one : (family : Family) (regions : List (Option ImageRegion)) → SomeText bytes family regions
          → (J.program.family ≡ family) × (told_of J ≡ regions)
      one family regions its =
          let both = (one_of bytes fits).one_text (J.program.family, told_of J) (family, regions) text its in
          (ap (λ (x : ImageParts). x.0) both, ap (λ (x : ImageParts). x.1) both)

  -- of what is refused for want of memory nothing is said
  pub no_memory : IsRead bytes (Err Memory)
  no_memory = record {
    text = tt;
    only_text = λ family regions its. refl;
    written = λ I wrote is. refl;
    same = λ I own its. tt;
    fault = inl refl;
    only_fault = λ fault fails. inr refl;
  }

  pub image_refused : (fault : ImageFault) → IsParsed bytes (Err fault) → IsRead bytes (Err fault)
  image_refused fault parsed = record {
    text = tt;
    only_text = refused;
    written = λ I wrote is. refused I.program.family (told_of I) (written_text bytes I wrote is);
    same = λ I own its. tt;
    fault = parsed.fault;
    only_fault = λ other fails. elim (parsed.only_fault other fails) [
      | inl is ↦ inl (let same : fault ≡ other = cc in ap Err same)
      | inr is ↦ inr (let same : fault ≡ Memory = cc in ap Err same)
    ];
  }
    where
      refused : (family : Family) (regions : List (Option ImageRegion)) → SomeText bytes family regions
          → fault ≡ Memory
      refused family regions (inl text) = parsed.only_text versions.Two family regions text
      refused family regions (inr old) = parsed.only_text versions.One family old.all old.text
