-- What is refused is not run.
use Rattle.std.proofs.Common.{◌≡◌, ◌∙◌, ℕ, List, [], ◌∷◌, Option, Some, None, map, refl, sym, subst}
use Rattle.std.proofs.lemmas.Option.{same_Some}
use Rattle.std.specs.List.{All}
use Rattle.classfile.specs.Faults.{IsBytes}
use Rattle.semantics.specs.Worlds.{World}
use Rattle.program.specs.Programs.{IsProgram}
use Rattle.program.specs.Tables.{Tables}
use Rattle.object_graph.specs.Images.{ImageTables}
use Rattle.init_engine.specs.Starts.{EntriesFail, IsStart}
use Rattle.image_reader.specs.Starts.{IsImageStart}
use Rattle.command_line.specs.Requests.{texts}
use Rattle.cli.specs.declared.fault.CommandFault.{CommandFault}
use Rattle.cli.specs.Entries.{entry_names}
use Rattle.cli.specs.Files.{AreBytesOf, AreTextsOf, Contents}
use Rattle.cli.specs.ImageRuns.{IsNoRun, IsSomeTextOf}
use Rattle.cli.specs.ImageRuns as image_runs
use Rattle.cli.specs.Laws.{RefusedFilesAreNotRun, RefusedImagesAreNotRun}
use Rattle.cli.specs.Runs.{IsProgramOf, IsRefused}
use Rattle.cli.specs.Runs as runs
use Rattle.cli.proofs.EntriesLemmas.{never_both}
use Rattle.cli.proofs.OneRefusalLemmas.{linked_are_not_refused_lem}
use Rattle.cli.proofs.OneRunLemmas.{family_fits, no_image_fault, one_family, one_program_of}
use Rattle.cli.proofs.SameEntriesLemmas.{still_fail}

-- ---- what files hold

pub known_bytes : (held : Option (List ℕ)) (known bytes : List ℕ) → held ≡ Some known → AreBytesOf held bytes
    → bytes ≡ known
known_bytes None known bytes is of = cc
known_bytes (Some known) other bytes is of = of ∙ same_Some known other is

head_of : {A : Type 0} (x y : A) (xs ys : List A) → x ∷ xs ≡ y ∷ ys → x ≡ y
head_of x y xs ys same = cc

tail_of : {A : Type 0} (x y : A) (xs ys : List A) → x ∷ xs ≡ y ∷ ys → xs ≡ ys
tail_of x y xs ys same = cc

known_texts : (holds : Contents) (names files others : List (List ℕ)) → map holds names ≡ map Some files
    → AreTextsOf holds names others → others ≡ files
known_texts holds [] [] [] known all = refl
known_texts holds [] [] (o ∷ os) known all = absurd all
known_texts holds [] (f ∷ fs) os known all = cc
known_texts holds (n ∷ ns) [] os known all = cc
known_texts holds (n ∷ ns) (f ∷ fs) [] known all = absurd all
known_texts holds (n ∷ ns) (f ∷ fs) (o ∷ os) known all =
    let here : o ≡ f = known_bytes (holds n) f o (head_of _ _ _ _ known) all.0 in
    let rest : os ≡ fs = known_texts holds ns fs os (tail_of _ _ _ _ known) all.1 in
    cc

-- ---- runs

module _ (files names : List (List ℕ)) (bytes : All IsBytes files) (P : Tables) (w : World) where
  no_run : {refusal : CommandFault} → IsProgramOf files P → IsStart P names w → IsRefused files names refusal → ⊥
  no_run of start (runs.count wrong) = wrong start.entries.counted
  no_run {refusal} of start (runs.unlinked counted wrong) =
      linked_are_not_refused_lem files P refusal bytes of wrong
  no_run of start (runs.entry {P = Q} {fault} counted other fails) =
      let same : Q ≡ P = one_program_of files names bytes Q P other of in
      never_both P of.family.fits names start.entries
      (subst (λ (R : Tables). EntriesFail R names fault) same fails)

pub refused_files : RefusedFilesAreNotRun
refused_files holds words files refusal before after bytes known wrong is =
    let same : is.begun.files ≡ files =
    known_texts holds (texts words.files.items) files is.begun.files known is.begun.held in
    no_run files (entry_names words.entries.now) bytes is.program is.first
    (subst (λ (held : List (List ℕ)). IsProgramOf held is.program) same is.begun.program) is.begun.start wrong

module _ (bytes : List ℕ) (names : List (List ℕ)) (fits : IsBytes bytes) (w : World) where
  no_image_run : (I : ImageTables) {refusal : CommandFault} → IsProgram I.program → IsSomeTextOf bytes I
      → IsImageStart I names w → IsNoRun bytes names refusal → ⊥
  no_image_run I program of start (image_runs.count wrong) = wrong start.entries.counted
  no_image_run I program of start (image_runs.image {fault = x} counted wrong) =
      no_image_fault bytes names fits I x of wrong
  no_image_run I program of start (image_runs.entry J counted linked also fails) =
      never_both I.program (family_fits bytes I of) names start.entries
      (still_fail J.program I.program linked program (sym (one_family bytes names fits I J of also)) fails)

pub refused_images : RefusedImagesAreNotRun
refused_images holds words bytes refusal before after fits known wrong is =
    let begun = is.begun.begun in
    let same : begun.bytes ≡ bytes =
    known_bytes (holds words.image.now) bytes begun.bytes known begun.held in
    no_image_run bytes (entry_names words.entries.now) fits is.first is.begun.image begun.program
    (subst (λ (held : List ℕ). IsSomeTextOf held is.begun.image) same begun.text) begun.start wrong
