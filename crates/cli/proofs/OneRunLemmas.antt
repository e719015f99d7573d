-- A run is refused for one fault.
use Rattle.std.proofs.Common.{◌≡◌, ℕ, List, inl, inr, refl, sym, ap, subst}
use Rattle.std.specs.List.{All}
use Rattle.std.proofs.lemmas.List.Sorted.{IsPermutation-refl}
use Rattle.classfile.specs.Faults.{IsBytes}
use Rattle.loading.specs.Families.{IsFamily}
use Rattle.program.specs.Programs.{IsProgram}
use Rattle.program.specs.Tables.{Tables}
use Rattle.object_graph.specs.Images.{ImageTables}
use Rattle.image_parser.specs.declared.image_fault.ImageFault.{ImageFault}
use Rattle.image_parser.specs.ImageFaults.{ImageFails, ImageParts}
use Rattle.image_parser.proofs.ImageLaw.{one_of}
use Rattle.image_writer.specs.ImageTexts.{told_of}
use Rattle.init_engine.specs.declared.fault.EntryFault.{EntryFault}
use Rattle.init_engine.specs.Starts.{EntriesFail}
use Rattle.cli.specs.declared.fault.CommandFault.{CommandFault}
use Rattle.cli.specs.declared.fault.CommandFault.TheVariants.{Entry, Image}
use Rattle.cli.specs.ImageRuns.{IsNoRun, IsSomeTextOf}
use Rattle.cli.specs.ImageRuns as image_runs
use Rattle.cli.specs.Laws.{OneImageRunRefusal, OneRunRefusal}
use Rattle.cli.specs.Runs.{IsProgramOf, IsRefused}
use Rattle.cli.specs.Runs as runs
use Rattle.cli.proofs.AnyOrderLemmas.{one_program}
use Rattle.cli.proofs.EntriesLemmas.{one_fault}
use Rattle.cli.proofs.OneRefusalLemmas.{linked_are_not_refused_lem, one_refusal_lem}
use Rattle.cli.proofs.SameEntriesLemmas.{still_fail}

-- ---- of class files

module _ (texts names : List (List ℕ)) (bytes : All IsBytes texts) where
  pub one_program_of : (P Q : Tables) → IsProgramOf texts P → IsProgramOf texts Q → P ≡ Q
  one_program_of P Q of other = one_program texts texts P Q (IsPermutation-refl texts) of other

  same_entries : (P Q : Tables) (x y : EntryFault) → IsProgramOf texts P → IsProgramOf texts Q
      → EntriesFail P names x → EntriesFail Q names y → x ≡ y
  same_entries P Q x y of other fails also =
      one_fault P of.family.fits names fails
      (subst (λ (R : Tables). EntriesFail R names y) (sym (one_program_of P Q of other)) also)

  one : (r q : CommandFault) → IsRefused texts names r → IsRefused texts names q → r ≡ q
  one r q (runs.count wrong) (runs.count other) = refl
  one r q (runs.count wrong) (runs.unlinked counted other) = absurd (wrong counted)
  one r q (runs.count wrong) (runs.entry counted of fails) = absurd (wrong counted)
  one r q (runs.unlinked counted wrong) (runs.count other) = absurd (other counted)
  one r q (runs.unlinked counted wrong) (runs.unlinked also other) = one_refusal_lem texts r q bytes wrong other
  one r q (runs.unlinked counted wrong) (runs.entry {P} also of fails) =
      absurd (linked_are_not_refused_lem texts P r bytes of wrong)
  one r q (runs.entry counted of fails) (runs.count other) = absurd (other counted)
  one r q (runs.entry {P} counted of fails) (runs.unlinked also wrong) =
      absurd (linked_are_not_refused_lem texts P q bytes of wrong)
  one r q (runs.entry {P} {fault = x} counted of fails) (runs.entry {P = Q} {fault = y} too other also) =
      ap (λ (fault : EntryFault). Entry fault) (same_entries P Q x y of other fails also)

pub one_run_refusal_lem : OneRunRefusal
one_run_refusal_lem texts names r q bytes wrong other = one texts names bytes r q wrong other

-- ---- of an image

pub family_fits : (bytes : List ℕ) (I : ImageTables) → IsSomeTextOf bytes I → IsFamily I.program.family
family_fits bytes I (inl text) = text.classes
family_fits bytes I (inr old) = old.text.classes

abbrev parts_of : ImageTables → ImageParts
parts_of I = (I.program.family, told_of I)

module _ (bytes : List ℕ) (names : List (List ℕ)) (fits : IsBytes bytes) where
  pub no_image_fault : (I : ImageTables) (x : ImageFault) → IsSomeTextOf bytes I → ImageFails bytes x → ⊥
  no_image_fault I x of wrong = (one_of bytes fits).not_both (parts_of I) x of wrong

  pub one_family : (I J : ImageTables) → IsSomeTextOf bytes I → IsSomeTextOf bytes J
      → I.program.family ≡ J.program.family
  one_family I J of also =
      ap (λ (parts : ImageParts). parts.0) ((one_of bytes fits).one_text (parts_of I) (parts_of J) of also)

  one_entry_fault : (I J : ImageTables) (x y : EntryFault) → IsProgram I.program → IsProgram J.program
      → IsSomeTextOf bytes I → IsSomeTextOf bytes J → EntriesFail I.program names x → EntriesFail J.program names y
      → x ≡ y
  one_entry_fault I J x y program linked of also fails too =
      one_fault I.program (family_fits bytes I of) names fails
      (still_fail J.program I.program linked program (sym (one_family I J of also)) too)

  one_of_image : (r q : CommandFault) → IsNoRun bytes names r → IsNoRun bytes names q → r ≡ q
  one_of_image r q (image_runs.count wrong) (image_runs.count other) = refl
  one_of_image r q (image_runs.count wrong) (image_runs.image counted other) = absurd (wrong counted)
  one_of_image r q (image_runs.count wrong) (image_runs.entry I counted program of fails) = absurd (wrong counted)
  one_of_image r q (image_runs.image counted wrong) (image_runs.count other) = absurd (other counted)
  one_of_image r q (image_runs.entry I counted program of fails) (image_runs.count other) = absurd (other counted)
  one_of_image r q (image_runs.image {fault = x} counted wrong) (image_runs.image {fault = y} also other) =
      ap (λ (fault : ImageFault). Image fault) ((one_of bytes fits).one_fault x y wrong other)
  one_of_image r q (image_runs.image {fault = x} counted wrong) (image_runs.entry I also program of fails) =
      absurd (no_image_fault I x of wrong)
  one_of_image r q (image_runs.entry I counted program of fails) (image_runs.image {fault = x} also wrong) =
      absurd (no_image_fault I x of wrong)
  one_of_image r q (image_runs.entry I {fault = x} counted program of fails)
      (image_runs.entry J {fault = y} again linked also too) =
      ap (λ (fault : EntryFault). Entry fault) (one_entry_fault I J x y program linked of also fails too)

pub one_image_run_refusal_lem : OneImageRunRefusal
one_image_run_refusal_lem bytes names r q fits wrong other = one_of_image bytes names fits r q wrong other
