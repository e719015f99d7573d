-- All bytes make a program or are refused; by all options an image is built of them, or there is a fault.
use Rattle.std.proofs.Common.{◌≡◌, ◌⊎◌, inl, inr, ℕ, suc, ◌<◌, ◌≤◌, List, [], ◌∷◌, Option}
use Rattle.std.proofs.Common.{refl, sym, subst, arith}
use Rattle.std.specs.List.{All, Contains}
use Rattle.std.proofs.lemmas.Bool.{cases_lt}
use Rattle.std.proofs.lemmas.List.Elements.{All-contains, All-head, All-tail}
use Rattle.std.proofs.lemmas.List.Sorted.{IsPermutation-refl}
use Rattle.classfile.specs.Class.{IsClassFile, IsClassText}
use Rattle.classfile.specs.ClassFile.{ClassFile}
use Rattle.classfile.specs.Faults.{IsBytes}
use Rattle.classfile.specs.FirstFault.{FirstFault}
use Rattle.classfile.specs.declared.fault.ClassFault.{ClassFault}
use Rattle.classfile.proofs.ClassLawful.{exactly_one}
use Rattle.loading.specs.declared.given.GivenClass.{GivenClass}
use Rattle.loading.specs.Families.{Family, IsFamilyOf}
use Rattle.loading.specs.Files.{Links}
use Rattle.program.specs.Tables.{Tables}
use Rattle.region_shape.specs.Laws.{IsLinked}
use Rattle.initializer_analysis.proofs.ReachesLemmas.{Decided, decided_both, decided_less, first_or_rest, in_first}
use Rattle.initializer_analysis.proofs.ReachesLemmas.{in_none, in_rest}
use Rattle.options.specs.declared.fault.OptionFault.{OptionFault}
use Rattle.building.specs.declared.build.BuildFault.{BuildFault}
use Rattle.building.specs.declared.build.BuildFault.TheVariants as faults
use Rattle.building.specs.Builds.{patterns_in}
use Rattle.building.specs.Refusals.{OptionsFail}
use Rattle.building.specs.Laws.{AreTexts, HasImage}
use Rattle.building.proofs.BuiltOrFaultLemmas.{built_or_fault_lem}
use Rattle.cli.specs.declared.fault.CommandFault.{CommandFault}
use Rattle.cli.specs.declared.fault.CommandFault.TheVariants.{Class, Link}
use Rattle.cli.specs.Builds.{BuildFails, IsBudget}
use Rattle.cli.specs.Builds as builds
use Rattle.cli.specs.Existence.{BuildOrFault, IsBuildable, ProgramOrRefusal}
use Rattle.cli.specs.Runs.{AreClassFiles, IsFirstBad, IsProgramOf, NotLinked}
use Rattle.cli.specs.Runs as runs
use Rattle.cli.proofs.BuildLemmas.{is_from_file}
use Rattle.cli.proofs.HasBodiesLemmas.{bodies_of}
use Rattle.cli.proofs.HasProgramLemmas.{HasBodies, program_for}
use Rattle.cli.proofs.LinksOrFaultLemmas.{links_or_fault}
use Rattle.cli.proofs.OneBuildLemmas.{built_or_refused}
use Rattle.cli.proofs.ParentsWithinLemmas.{in_map, parents_within}

-- ---- class files

abbrev FirstBad : List (List ℕ) → Type 0
FirstBad texts = (place : ℕ) × (fault : ClassFault) × IsFirstBad texts place fault

texts_or_bad : (texts : List (List ℕ)) → All IsBytes texts
    → ((files : List ClassFile) × AreClassFiles texts files) ⊎ FirstBad texts
texts_or_bad [] fits = inl ([], tt)
texts_or_bad (text ∷ texts) fits =
    by (exactly_one text (All-head IsBytes text texts fits)).some
    (texts_or_bad texts (All-tail IsBytes text texts fits))
  where
    more : (f : ClassFile) → IsClassText text f → ((files : List ClassFile) × AreClassFiles texts files)
        ⊎ FirstBad texts → ((files : List ClassFile) × AreClassFiles (text ∷ texts) files) ⊎ FirstBad (text ∷ texts)
    more f is (inl (files, are)) = inl (f ∷ files, (is, are))
    more f is (inr (place, fault, bad)) = inr (
      suc place,
      fault,
      record {
        before = f ∷ bad.before;
        well = (is, bad.well);
        text = bad.text;
        here = bad.here;
        breaks = bad.breaks;
      },
    )

    by : ((f : ClassFile) × IsClassText text f) ⊎ ((fault : ClassFault) × FirstFault text fault)
        → ((files : List ClassFile) × AreClassFiles texts files) ⊎ FirstBad texts
        → ((files : List ClassFile) × AreClassFiles (text ∷ texts) files) ⊎ FirstBad (text ∷ texts)
    by (inl (f, is)) rest = more f is rest
    by (inr (fault, breaks)) rest =
        inr (0, fault, record { before = []; well = tt; text = text; here = refl; breaks = breaks })

-- a class file's text is one of these
text_of_file : (texts : List (List ℕ)) (files : List ClassFile) → AreClassFiles texts files → (f : ClassFile)
    → Contains files f → (text : List ℕ) × Contains texts text × IsClassText text f
text_of_file [] [] are f at = absurd (in_none f at)
text_of_file [] (g ∷ files) are f at = absurd are
text_of_file (text ∷ texts) [] are f at = absurd are
text_of_file (text ∷ texts) (g ∷ files) are f at =
    by (first_or_rest f g files at) (text_of_file texts files are.1 f)
  where
    by : (f ≡ g) ⊎ Contains files f
        → (Contains files f → (other : List ℕ) × Contains texts other × IsClassText other f)
        → (other : List ℕ) × Contains (text ∷ texts) other × IsClassText other f
    by (inl same) rest = (text, in_first text texts, subst (IsClassText text) (sym same) are.0)
    by (inr later) rest = let (other, there, is) = rest later in (other, in_rest other text texts there, is)

-- ---- a program

module _ (texts : List (List ℕ)) (fits : All IsBytes texts) (files : List ClassFile)
    (are : AreClassFiles texts files) where
  fit : (f : ClassFile) → Contains files f → IsClassFile f
  fit f at = let (text, there, is) = text_of_file texts files are f at in is.fits

  bodies_in : (family : Family) → IsFamilyOf files family → (given : GivenClass) → Contains family given
      → HasBodies given.file
  bodies_in family of given at m among code has =
      let (text, there, is) = text_of_file texts files are given.file
      ((of.members given.file).1 (in_map (λ (one : GivenClass). one.file) family given at)) in
      bodies_of text given.file (All-contains IsBytes texts text fits there) is m among code has

  program_of_files : (family : Family) → IsFamilyOf files family → Links files → (P : Tables) × IsProgramOf texts P
  program_of_files family of links =
      let (P, same, is, own) = program_for family of.fits (parents_within files family of links)
      (bodies_in family of) in (
        P,
        record {
          files = files;
          are = are;
          links = links;
          family = subst (IsFamilyOf files) (sym same) of;
          program = is;
          own_strings = own;
        },
      )

  linked_or_refused : ((P : Tables) × IsProgramOf texts P) ⊎ ((refusal : CommandFault) × NotLinked texts refusal)
  linked_or_refused = elim (links_or_fault files fit) [
    | inl (family, of, links) ↦ inl (program_of_files family of links)
    | inr (fault, fails) ↦ inr (Link fault, runs.link are fails)
  ]

pub program_or_refusal : ProgramOrRefusal
program_or_refusal texts fits = elim (texts_or_bad texts fits) [
  | inl (files, are) ↦ linked_or_refused texts fits files are
  | inr (place, fault, bad) ↦ inr (Class place fault, runs.class bad)
]

-- ---- a build

decided_budget : (budget : ℕ) → Decided (IsBudget budget)
decided_budget budget = decided_both (decided_less 0 budget) (few (cases_lt 1000000000 budget))
  where
    few : (1000000000 < budget) ⊎ (budget ≤ 1000000000) → Decided (budget ≤ 1000000000)
    few (inl many) = inr (λ small. omega arith)
    few (inr small) = inl small

module _ (texts : List (List ℕ)) (run build : Option (List ℕ)) (budget : ℕ) (range : IsBudget budget) where
  abbrev Result : Type 0
  Result = IsBuildable texts run build budget
      ⊎ ((fault : BuildFault) × BuildFails texts run build budget fault)

  refused : {refusal : CommandFault} → NotLinked texts refusal → Result
  refused (runs.class {place = place} {fault = fault} bad) =
      inr (faults.Class place fault, builds.class range bad)
  refused (runs.link {fault = fault} are fails) = inr (faults.Link fault, builds.link range are fails)

  of_program : (P : Tables) → IsProgramOf texts P → AreTexts (patterns_in run) → AreTexts (patterns_in build) → Result
  of_program P of first second =
      by (built_or_fault_lem P run build budget linked (is_from_file texts P of) first second)
    where
      linked : IsLinked P
      linked = record {
        program = of.program;
        family = of.family.fits;
        within = parents_within of.files P.family of.family of.links;
      }

      by : HasImage P run build budget ⊎ ((fault : OptionFault) × OptionsFail P run build budget fault) → Result
      by (inl has) = inl (record {
        image = has.image;
        verdicts = has.verdicts;
        range = range;
        program = subst (IsProgramOf texts) (sym has.program) of;
        built = has.built;
      })
      by (inr (fault, fails)) = inr (faults.Option fault, builds.options range of fails)

some_build : (texts : List (List ℕ)) (run build : Option (List ℕ)) (budget : ℕ)
    → All IsBytes texts
    → AreTexts (patterns_in run) → AreTexts (patterns_in build)
    → IsBuildable texts run build budget ⊎ ((fault : BuildFault) × BuildFails texts run build budget fault)
some_build texts run build budget fits first second = elim (decided_budget budget) [
  | inr wrong ↦ inr (faults.Budget, builds.range wrong)
  | inl range ↦ elim (program_or_refusal texts fits) [
    | inl (P, of) ↦ of_program texts run build budget range P of first second
    | inr (refusal, not_linked) ↦ refused texts run build budget range not_linked
  ]
]

pub build_or_fault : BuildOrFault
build_or_fault texts run build budget fits first second = record {
  some = some_build texts run build budget fits first second;
  not_both = λ fault has fails.
      built_or_refused texts texts run build budget has.image _ fault fits (IsPermutation-refl texts) has.range
      has.program has.built fails;
}
