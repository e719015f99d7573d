-- What is built of class files' bytes, or told of them, in another order.
use Rattle.std.proofs.Common.{◌≡◌, ℕ, List, [], ◌∷◌, Option, map, refl, sym, ap, ◌∙◌, subst}
use Rattle.std.specs.List.{All}
use Rattle.std.specs.List.Sorted.{IsPermutation}
use Rattle.std.proofs.lemmas.List.Sorted.{All-permutation, IsPermutation-sym}
use Rattle.classfile.specs.ClassFile.{ClassFile}
use Rattle.classfile.specs.Faults.{IsBytes}
use Rattle.classfile.specs.declared.fault.ClassFault.{ClassFault}
use Rattle.loading.specs.Files.{LinkFails}
use Rattle.loading.specs.declared.fault.LinkFault.{LinkFault}
use Rattle.loading.proofs.FilesFaultLemmas.{not_both, one_fault}
use Rattle.program.specs.Tables.{Tables}
use Rattle.semantics.specs.Quiet as quiet
use Rattle.initializer_analysis.specs.declared.verdict.Reason.TheVariants as reasons
use Rattle.initializer_analysis.specs.declared.verdict.Verdict.{Verdict}
use Rattle.initializer_analysis.specs.declared.verdict.Verdict.TheVariants as verdicts
use Rattle.wave_scheduler.specs.Outcomes.{outcome_of}
use Rattle.wave_scheduler.specs.Settled.{Outcome, Wave, Refused, Stopped, Settled, region_in}
use Rattle.building.specs.declared.build.BuildFault.{BuildFault}
use Rattle.building.specs.declared.build.BuildFault.TheVariants as faults
use Rattle.building.specs.Builds.{IsSettledAs}
use Rattle.building.specs.Refusals.{OptionsFail}
use Rattle.building.proofs.OneFaultLemmas.{one_fault_lem, settled_have_no_fault_lem}
use Rattle.building.proofs.OneSettledLemmas.{one_settled_as_lem}
use Rattle.object_graph.proofs.CutsLemmas.{same_left}
use Rattle.options.specs.declared.fault.OptionFault.{OptionFault}
use Rattle.program.proofs.OneProgramLemmas.{still_fail}
use Rattle.cli.specs.Builds.{BuildFails, IsBudget}
use Rattle.cli.specs.OneBuild.{BuiltOrRefused, OneBuild, OneBuildFault, TellTheSame}
use Rattle.cli.specs.Runs.{AreClassFiles, IsFirstBad, IsProgramOf}
use Rattle.cli.proofs.AnyOrderLemmas.{class_files_moved, one_program}
use Rattle.cli.proofs.OneRefusalLemmas.{none_bad, same_files}

-- ---- verdicts by what becomes of classes

verdict_of : Outcome → Verdict
verdict_of (Wave n) = verdicts.Wave n
verdict_of (Refused reason) = verdicts.Refused reason
verdict_of (Stopped quiet.Raised) = verdicts.Refused reasons.Raised
verdict_of (Stopped quiet.ForeignObject) = verdicts.Refused reasons.ForeignObject
verdict_of (Stopped quiet.OverBudget) = verdicts.Refused reasons.Budget
verdict_of (Stopped quiet.Faulted) = verdicts.Refused reasons.Faulted

same_verdict : (v : Verdict) → verdict_of (outcome_of v) ≡ v
unfolding verdict_of
same_verdict (verdicts.Wave n) = refl
same_verdict (verdicts.Refused reasons.Raised) = refl
same_verdict (verdicts.Refused reasons.ForeignObject) = refl
same_verdict (verdicts.Refused reasons.Budget) = refl
same_verdict (verdicts.Refused reasons.Faulted) = refl
same_verdict (verdicts.Refused reason) = refl

verdicts_back : (vs : List Verdict) → map verdict_of (map outcome_of vs) ≡ vs
verdicts_back [] = refl
verdicts_back (v ∷ vs) =
    let head : verdict_of (outcome_of v) ≡ v = same_verdict v in
    let tail : map verdict_of (map outcome_of vs) ≡ vs = verdicts_back vs in
    cc

same_verdicts : (vs ws : List Verdict) → map outcome_of vs ≡ map outcome_of ws → vs ≡ ws
same_verdicts vs ws same = sym (verdicts_back vs) ∙ ap (map verdict_of) same ∙ verdicts_back ws

-- ---- what is built

pub one_build : OneBuild
one_build texts moved run build budget I J first second same of built other also =
    let program : I.program ≡ J.program = one_program texts moved I.program J.program same of other in
    let by : IsSettledAs I.program run build budget also.settled =
    subst (λ (P : Tables). IsSettledAs P run build budget also.settled) (sym program) also.by in
    let settled : built.settled ≡ also.settled =
    one_settled_as_lem I.program run build budget built.settled also.settled built.by by in (
      record {
        program = program;
        regions =
            same_left I J (region_in built.settled) (region_in also.settled) program (ap region_in settled) built.cut
            also.cut;
      },
      same_verdicts first second
          (sym built.told ∙ ap (λ (S : Settled). S.outcomes) settled ∙ also.told),
    )

-- ---- what is told

no_link_fault : (texts moved : List (List ℕ)) (P : Tables) (files : List ClassFile) (fault : LinkFault)
    → IsPermutation texts moved → IsProgramOf texts P → AreClassFiles moved files → LinkFails files fault → ⊥
no_link_fault texts moved P files fault same of are fails =
    let (others, also, moves) = class_files_moved moved texts files (IsPermutation-sym texts moved same) are in
    let these : others ≡ of.files = same_files texts others of.files also of.are in
    not_both of.files fault of.links
    (subst (λ (fs : List ClassFile). LinkFails fs fault) these (still_fail files others fault moves fails))

one_link_fault : (texts moved : List (List ℕ)) (files others : List ClassFile) (f g : LinkFault)
    → IsPermutation texts moved → AreClassFiles texts files → LinkFails files f → AreClassFiles moved others
    → LinkFails others g → f ≡ g
one_link_fault texts moved files others f g same are fails also too =
    let (these, there, moves) = class_files_moved texts moved files same are in
    let one : these ≡ others = same_files moved these others there also in
    one_fault others f g (subst (λ (fs : List ClassFile). LinkFails fs f) one (still_fail files these f moves fails))
    too

module _ (texts moved : List (List ℕ)) (bytes : All IsBytes texts) (same : IsPermutation texts moved) where
  -- where texts are class files in one order, none is bad in the other
  no_bad_moved : (files : List ClassFile) (place : ℕ) (fault : ClassFault) → AreClassFiles texts files
      → IsFirstBad moved place fault → ⊥
  no_bad_moved files place fault are bad =
      let (others, also, moves) = class_files_moved texts moved files same are in
      none_bad moved (All-permutation IsBytes texts moved same bytes) place fault others also bad

  no_bad_before : (files : List ClassFile) (place : ℕ) (fault : ClassFault) → AreClassFiles moved files
      → IsFirstBad texts place fault → ⊥
  no_bad_before files place fault are bad =
      let (others, also, moves) = class_files_moved moved texts files (IsPermutation-sym texts moved same) are in
      none_bad texts bytes place fault others also bad

  fails_here : {run build : Option (List ℕ)} {budget : ℕ} {P Q : Tables} {fault : OptionFault} → IsProgramOf texts P
      → IsProgramOf moved Q → OptionsFail Q run build budget fault → OptionsFail P run build budget fault
  fails_here {run} {build} {budget} {P} {Q} {fault} of other fails =
      let program : P ≡ Q = one_program texts moved P Q same of other in
      subst (λ (R : Tables). OptionsFail R run build budget fault) (sym program) fails

  one_told : {run build : Option (List ℕ)} {budget : ℕ} {f g : BuildFault} → BuildFails texts run build budget f
      → BuildFails moved run build budget g → TellTheSame f g
  one_told (BuildFails.range wrong) (BuildFails.range never) = refl
  one_told (BuildFails.range wrong) (BuildFails.class ok bad) = absurd (wrong ok)
  one_told (BuildFails.range wrong) (BuildFails.link ok are fails) = absurd (wrong ok)
  one_told (BuildFails.range wrong) (BuildFails.options ok of fails) = absurd (wrong ok)
  one_told (BuildFails.class ok bad) (BuildFails.range wrong) = absurd (wrong ok)
  one_told (BuildFails.class ok bad) (BuildFails.class also worse) = tt
  one_told (BuildFails.class {place} {fault} ok bad) (BuildFails.link {files} also are fails) =
      absurd (no_bad_before files place fault are bad)
  one_told (BuildFails.class {place} {fault} ok bad) (BuildFails.options also of fails) =
      absurd (no_bad_before of.files place fault of.are bad)
  one_told (BuildFails.link ok are fails) (BuildFails.range wrong) = absurd (wrong ok)
  one_told (BuildFails.link {files} ok are fails) (BuildFails.class {place} {fault} also bad) =
      absurd (no_bad_moved files place fault are bad)
  one_told (BuildFails.link {files} {fault = f} ok are fails)
      (BuildFails.link {files = others} {fault = g} also there too) =
      ap faults.Link (one_link_fault texts moved files others f g same are fails there too)
  one_told (BuildFails.link {files} {fault = f} ok are fails) (BuildFails.options {P} also of too) =
      absurd (no_link_fault moved texts P files f (IsPermutation-sym texts moved same) of are fails)
  one_told (BuildFails.options ok of fails) (BuildFails.range wrong) = absurd (wrong ok)
  one_told (BuildFails.options ok of fails) (BuildFails.class {place} {fault} also bad) =
      absurd (no_bad_moved of.files place fault of.are bad)
  one_told (BuildFails.options {P} ok of fails) (BuildFails.link {files} {fault = g} also are too) =
      absurd (no_link_fault texts moved P files g same of are too)
  one_told {run} {build} {budget} (BuildFails.options {P} {fault = f} ok of fails)
      (BuildFails.options {P = Q} {fault = g} also other too) =
      one_fault_lem P run build budget f g fails (fails_here of other too)

  not_refused : {run build : Option (List ℕ)} {budget : ℕ} {fault : BuildFault} (P : Tables) (settled : Settled)
      → IsBudget budget → IsProgramOf texts P → IsSettledAs P run build budget settled
      → BuildFails moved run build budget fault → ⊥
  not_refused P settled ok of by (BuildFails.range wrong) = wrong ok
  not_refused P settled ok of by (BuildFails.class {place} {fault} also bad) =
      no_bad_moved of.files place fault of.are bad
  not_refused P settled ok of by (BuildFails.link {files} {fault = g} also are fails) =
      no_link_fault texts moved P files g same of are fails
  not_refused {run} {build} {budget} P settled ok of by (BuildFails.options {fault = g} also other fails) =
      settled_have_no_fault_lem P run build budget settled g by (fails_here of other fails)

pub one_build_fault : OneBuildFault
one_build_fault texts moved run build budget f g bytes same fails also = one_told texts moved bytes same fails also

pub built_or_refused : BuiltOrRefused
built_or_refused texts moved run build budget I outcomes fault bytes same ok of built fails =
    not_refused texts moved bytes same I.program built.settled ok of built.by fails
