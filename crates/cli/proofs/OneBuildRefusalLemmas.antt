-- A build is refused for one fault.
use Rattle.std.proofs.Common.{◌≡◌, ℕ, List, Option, refl, sym, ap, subst}
use Rattle.std.specs.List.{All}
use Rattle.std.proofs.lemmas.List.Sorted.{IsPermutation-refl}
use Rattle.classfile.specs.ClassFile.{ClassFile}
use Rattle.classfile.specs.Faults.{IsBytes}
use Rattle.classfile.specs.declared.fault.ClassFault.{ClassFault}
use Rattle.loading.specs.Files.{LinkFails}
use Rattle.loading.specs.declared.fault.LinkFault.{LinkFault}
use Rattle.program.specs.Tables.{Tables}
use Rattle.options.specs.declared.fault.OptionFault.{OptionFault}
use Rattle.building.specs.declared.build.BuildFault.{BuildFault}
use Rattle.building.specs.Laws.{SaysTheSame}
use Rattle.building.specs.Refusals.{OptionsFail}
use Rattle.building.proofs.OneFaultLemmas.{one_fault_lem}
use Rattle.cli.specs.declared.fault.CommandFault.TheVariants.{Class, Link}
use Rattle.cli.specs.Builds.{BuildFails}
use Rattle.cli.specs.Laws.{AreTheSame, OneBuildRefusal}
use Rattle.cli.specs.Runs.{AreClassFiles, IsFirstBad, IsProgramOf}
use Rattle.cli.specs.Runs as runs
use Rattle.cli.specs.steps.Builds.{fault_of}
use Rattle.cli.proofs.AnyOrderLemmas.{one_program}
use Rattle.cli.proofs.OneRefusalLemmas.{linked_are_not_refused_lem, none_bad, one_refusal_lem}

module _ (texts : List (List ℕ)) (bytes : All IsBytes texts) where
  no_bad : (P : Tables) (place : ℕ) (fault : ClassFault) → IsProgramOf texts P → IsFirstBad texts place fault → ⊥
  no_bad P place fault of bad = none_bad texts bytes place fault of.files of.are bad

  no_link : (P : Tables) (files : List ClassFile) (fault : LinkFault) → IsProgramOf texts P
      → AreClassFiles texts files → LinkFails files fault → ⊥
  no_link P files fault of are fails =
      linked_are_not_refused_lem texts P (Link fault) bytes of (runs.link are fails)

  module _ {run build : Option (List ℕ)} {budget : ℕ} where
    one_option : (P Q : Tables) (x y : OptionFault) → IsProgramOf texts P → IsProgramOf texts Q
        → OptionsFail P run build budget x → OptionsFail Q run build budget y → SaysTheSame x y
    one_option P Q x y of other fails also =
        let same : P ≡ Q = one_program texts texts P Q (IsPermutation-refl texts) of other in
        one_fault_lem P run build budget x y fails
        (subst (λ (R : Tables). OptionsFail R run build budget y) (sym same) also)

    one : {f g : BuildFault} → BuildFails texts run build budget f → BuildFails texts run build budget g
        → AreTheSame f g
    one (BuildFails.range wrong) (BuildFails.range never) = refl
    one (BuildFails.range wrong) (BuildFails.class ok bad) = absurd (wrong ok)
    one (BuildFails.range wrong) (BuildFails.link ok are fails) = absurd (wrong ok)
    one (BuildFails.range wrong) (BuildFails.options ok of fails) = absurd (wrong ok)
    one (BuildFails.class ok bad) (BuildFails.range wrong) = absurd (wrong ok)
    one (BuildFails.class {place = i} {fault = x} ok bad) (BuildFails.class {place = j} {fault = y} also other) =
        ap fault_of (one_refusal_lem texts (Class i x) (Class j y) bytes (runs.class bad) (runs.class other))
    one (BuildFails.class {place} {fault} ok bad) (BuildFails.link {files} also are fails) =
        absurd (none_bad texts bytes place fault files are bad)
    one (BuildFails.class {place} {fault} ok bad) (BuildFails.options {P} also of fails) =
        absurd (no_bad P place fault of bad)
    one (BuildFails.link ok are fails) (BuildFails.range wrong) = absurd (wrong ok)
    one (BuildFails.link {files} ok are fails) (BuildFails.class {place} {fault} also bad) =
        absurd (none_bad texts bytes place fault files are bad)
    one (BuildFails.link {fault = x} ok are fails) (BuildFails.link {fault = y} also there too) =
        ap fault_of (one_refusal_lem texts (Link x) (Link y) bytes (runs.link are fails) (runs.link there too))
    one (BuildFails.link {files} {fault} ok are fails) (BuildFails.options {P} also of too) =
        absurd (no_link P files fault of are fails)
    one (BuildFails.options ok of fails) (BuildFails.range wrong) = absurd (wrong ok)
    one (BuildFails.options {P} ok of fails) (BuildFails.class {place} {fault} also bad) =
        absurd (no_bad P place fault of bad)
    one (BuildFails.options {P} ok of fails) (BuildFails.link {files} {fault} also are too) =
        absurd (no_link P files fault of are too)
    one (BuildFails.options {P} {fault = x} ok of fails) (BuildFails.options {P = Q} {fault = y} also other too) =
        one_option P Q x y of other fails too

pub one_build_refusal_lem : OneBuildRefusal
one_build_refusal_lem texts run build budget f g bytes wrong other = one texts bytes wrong other
