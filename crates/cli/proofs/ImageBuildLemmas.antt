-- Class files that are short enough make a program whose class files are.
use Rattle.std.proofs.Common.{◌≡◌, ℕ, ◌<◌, ◌≤◌, ◌^◌, List, [], ◌∷◌, map, Option, Some, None, length, slice_get}
use Rattle.std.proofs.Common.{refl, sym, ap, subst, ◌∙◌, MatchOption, IsSomeAnd, arith}
use Rattle.std.specs.List.{All, Contains}
use Rattle.std.proofs.lemmas.List.Elements.{All-get_or, All-nil, All-cons, All-head, All-tail}
use Rattle.std.proofs.lemmas.List.Elements.{All-contains_itself}
use Rattle.std.proofs.lemmas.Option.{slice_get-get_or, slice_get_within, get_or_from_slice_get}
use Rattle.std.proofs.lemmas.Slice.Zip.{AllZip-right}
use Rattle.classfile.specs.ClassFile.{ClassFile}
use Rattle.classfile.specs.Class.{IsClassText}
use Rattle.classfile.specs.Text.{class_text}
use Rattle.loading.specs.declared.given.GivenClass.{GivenClass}
use Rattle.loading.specs.Families.{Family}
use Rattle.image_format.specs.Images.{AreShort, ImageText}
use Rattle.image_writer.specs.ImageTexts.{text_of, told_of}
use Rattle.region_shape.specs.Wholes.{AreWhole}
use Rattle.region_shape.specs.Regions.{environment_of}
use Rattle.object_graph.specs.Images.{AreSmall, ImageTables}
use Rattle.wave_scheduler.specs.Outcomes.{outcome_of}
use Rattle.building.specs.Builds.{text_of as list_of}
use Rattle.building.specs.declared.build.BuildOptions.{BuildOptions}
use Rattle.building.specs.declared.build.Built.{Built}
use Rattle.program.specs.Tables.{Tables}
use Rattle.cli.specs.Builds.{IsBuildOfClassFiles}
use Rattle.cli.specs.ImageBuilds.{AreAtMost, IsBuiltText}
use Rattle.cli.specs.ImageRuns.{IsTextOf}
use Rattle.cli.specs.Runs.{IsProgramOf}

abbrev file : GivenClass → ClassFile
file c = c.file

abbrev IsShort : GivenClass → Type 0
IsShort c = length (class_text c.file) < 2 ^ 32

-- each of the class files that these texts are is short
short_file : (texts : List (List ℕ)) (most : ℕ) (P : Tables) → AreAtMost most texts → (of : IsProgramOf texts P)
    → (f : ClassFile) → Contains of.files f → length (class_text f) ≤ most
short_file texts most P short of f (k, low, is) = by_text (slice_get texts k) refl text
  where
    here : slice_get of.files k ≡ Some f
    here = slice_get-get_or of.files k f low ∙ ap Some is

    text : IsSomeAnd (slice_get texts k) (λ x. IsClassText x f)
    text =
        subst (λ (o : Option ClassFile).
        MatchOption o (Unit {0}) (λ y. IsSomeAnd (slice_get texts k) (λ x. IsClassText x y))) here
        (AllZip-right IsClassText texts of.files of.are k)

    by_text : (o : Option (List ℕ)) → slice_get texts k ≡ o → IsSomeAnd o (λ x. IsClassText x f)
        → length (class_text f) ≤ most
    by_text None at never = absurd never
    by_text (Some x) at text =
        let bound : length x ≤ most =
        subst (λ (y : List ℕ). length y ≤ most) (get_or_from_slice_get texts k x x at)
        (All-get_or (λ (y : List ℕ). length y ≤ most) texts k x (slice_get_within texts k x at) short) in
        subst (λ (y : List ℕ). length y ≤ most) text.spelled bound

all_short : (family all : Family) (most : ℕ) → most < 2 ^ 32
    → ((f : ClassFile) → Contains (map file all) f → length (class_text f) ≤ most)
    → All (Contains (map file all)) (map file family) → AreShort family
all_short [] all most fits each within = All-nil IsShort
all_short (c ∷ cs) all most fits each within =
    All-cons IsShort c cs
    (let bound = each c.file (All-head (Contains (map file all)) c.file (map file cs) within) in
    omega (arith, bound, fits))
    (all_short cs all most fits each (All-tail (Contains (map file all)) c.file (map file cs) within))

pub are_short : (texts : List (List ℕ)) (most : ℕ) (P : Tables) → most < 2 ^ 32 → AreAtMost most texts
    → IsProgramOf texts P → AreShort P.family
are_short texts most P fits short of =
    all_short P.family P.family most fits
    (λ f there. short_file texts most P short of f ((of.family.members f).1 there))
    (All-contains_itself (map file P.family))

-- bytes that are an image's text are a text of it
pub is_text_of : (I : ImageTables) (bytes : List ℕ) → bytes ≡ text_of I
    → ImageText (text_of I) I.program.family (told_of I) → IsTextOf bytes I
is_text_of I bytes same text = subst (λ (b : List ℕ). ImageText b I.program.family (told_of I)) (sym same) text

-- the text of the image of a build is one that is built of the class files
pub built_text : (texts : List (List ℕ)) (options : BuildOptions) (answer : Built) (bytes : List ℕ)
    → AreWhole answer.image.program (environment_of answer.image.regions)
    → AreSmall answer.image.program (environment_of answer.image.regions)
    → IsBuildOfClassFiles texts options answer → IsTextOf bytes answer.image
    → IsBuiltText texts (list_of options.run_time) (list_of options.build_time) options.budget bytes
built_text texts options answer bytes whole small by text = record {
  image = answer.image;
  of = record {
    program = by.program;
    outcomes = map outcome_of answer.verdicts;
    built = by.built;
    exact = by.exact;
    shows = record { to_image = by.to_image; to_class_files = by.to_class_files };
    entries = by.entries;
  };
  text = text;
  own_strings = record {
    program = by.program.program;
    own_strings = by.program.own_strings;
    whole = whole;
    small = small;
  };
}
