-- The classes of a program of class files are from files; the classes of an image that have a wave have a region; what
-- refuses a program or its options refuses a build.
use Rattle.std.proofs.Common.{◌≡◌, ◌↔◌, ℕ, List, map, Option, Some, None, option_map, slice_get}
use Rattle.std.proofs.Common.{refl, sym, ap, subst, ◌∙◌, MatchOption, IsSomeAnd, Result, Ok, Err, IfOk, IfErr}
use Rattle.std.proofs.Common.{◌≢◌, ◌⊎◌, inl, inr, Bool, true, false, IsTrue}
use Rattle.std.specs.List.{Contains}
use Rattle.std.proofs.lemmas.Option.{slice_get-map, slice_get-get_or, slice_get_within, get_or_from_slice_get}
use Rattle.std.proofs.lemmas.Slice.Zip.{AllZip-right}
use Rattle.classfile.specs.ClassFile.{ClassFile}
use Rattle.classfile.specs.Class.{IsClassText, IsClassFile}
use Rattle.loading.specs.declared.given.GivenClass.{GivenClass}
use Rattle.loading.specs.Families.{file_of}
use Rattle.program.specs.Tables.{Tables}
use Rattle.region_shape.specs.Laws.{IsFromFile}
use Rattle.building.specs.declared.build.Built.{Built}
use Rattle.building.specs.declared.build.BuildFault.{BuildFault}
use Rattle.building.specs.declared.build.BuildOptions.{BuildOptions}
use Rattle.building.specs.Builds.{IsBuildOfProgram}
use Rattle.options.specs.declared.fault.OptionFault.{OptionFault}
use Rattle.building.specs.declared.build.BuildFault.TheVariants as faults
use Rattle.building.specs.Refusals.{IsOption, option, OptionsFail}
use Rattle.wave_scheduler.specs.Outcomes.{CanWork}
use Rattle.wave_scheduler.specs.declared.outcome.WaveFault.TheVariants as waves
use Rattle.cli.specs.declared.fault.CommandFault.{CommandFault}
use Rattle.cli.specs.declared.fault.CommandFault.TheVariants as refusals
use Rattle.cli.specs.Builds.{BuildFails, IsBudget, IsBuildOfClassFiles, class, link, options}
use Rattle.cli.specs.Runs.{IsProgramOf, NotLinked}
use Rattle.cli.specs.Runs as runs
use Rattle.cli.specs.steps.Builds.{fault_of}
use Rattle.cli.proofs.HeadlineLemmas.{entries_alike, shows_image, shows_class_files}

pub is_from_file : (texts : List (List ℕ)) (P : Tables) → IsProgramOf texts P → (c : ℕ) → IsFromFile P c
is_from_file texts P of c f at = by (slice_get P.family c) refl
  where
    in_files : Contains of.files f → IsClassFile f
    in_files (k, low, is) =
        let here : slice_get of.files k ≡ Some f = slice_get-get_or of.files k f low ∙ ap Some is in
        let pair = AllZip-right IsClassText texts of.files of.are k in
        let text =
        subst (λ (o : Option ClassFile).
        MatchOption o (Unit {0}) (λ y. IsSomeAnd (slice_get texts k) (λ x. IsClassText x y))) here pair in
        by_text (slice_get texts k) text
      where
        by_text : (o : Option (List ℕ)) → IsSomeAnd o (λ x. IsClassText x f) → IsClassFile f
        by_text None never = absurd never
        by_text (Some x) text = text.fits

    by : (o : Option GivenClass) → slice_get P.family c ≡ o → IsClassFile f
    by None none = absurd (let clash : None ≡ Some f = sym (ap file_of none) ∙ at in cc)
    by (Some g) some =
        let same : Some g.file ≡ Some f = sym (ap file_of some) ∙ at in
        let one : g.file ≡ f = cc in
        let there : slice_get (map (λ (x : GivenClass). x.file) P.family) c ≡ Some f =
        slice_get-map (λ (x : GivenClass). x.file) P.family c
        ∙ ap (option_map (λ (x : GivenClass). x.file)) some ∙ ap Some one in
        in_files ((of.family.members f).1 (
          c,
          slice_get_within (map (λ (x : GivenClass). x.file) P.family) c f there,
          get_or_from_slice_get (map (λ (x : GivenClass). x.file) P.family) c f f there,
        ))

pub is_build : (texts : List (List ℕ)) (chosen : BuildOptions) (P : Tables) (r : Result Built BuildFault)
    → IsBudget chosen.budget → IsProgramOf texts P → IfOk r (IsBuildOfProgram P chosen)
    → IfOk r (IsBuildOfClassFiles texts chosen)
is_build texts chosen P (Ok answer) range of is =
    let here : IsProgramOf texts answer.image.program =
    subst (λ (Q : Tables). IsProgramOf texts Q) (sym is.program) of in
    record {
      program = here;
      built = is.built;
      range = range;
      exact = is.exact;
      to_image = shows_image answer.image here.family.fits is.shows;
      to_class_files = shows_class_files answer.image here.family.fits is.shows;
      entries = entries_alike answer.image here.family.fits;
      waves = record { count = is.count; each = is.waves };
    }
is_build texts chosen P (Err fault) range of is = tt

-- ---- refusals

-- memory, the number of workers, or such a fault
abbrev pub IsOfWorkers : (BuildFault → Type 0) → BuildFault → Type 0
IsOfWorkers Fails fault = (fault ≡ faults.Memory) ⊎ (fault ≡ faults.Wave waves.Workers) ⊎ Fails fault

pub of_workers : (Fails : BuildFault → Type 0) (fault : BuildFault) → (fault ≡ faults.Memory) ⊎ Fails fault
    → IsOfWorkers Fails fault
of_workers Fails fault (inl memory) = inl memory
of_workers Fails fault (inr fails) = inr (inr fails)

module _ (texts : List (List ℕ)) (run build : Option (List ℕ)) (budget : ℕ) (range : IsBudget budget) where
  unlinked_build : {r : CommandFault} → NotLinked texts r → BuildFails texts run build budget (fault_of r)
  unlinked_build (runs.class bad) = class range bad
  unlinked_build (runs.link are fails) = link range are fails

  pub not_linked_build : (r : CommandFault) (fault : BuildFault) → (r ≡ refusals.Memory) ⊎ NotLinked texts r
      → fault ≡ fault_of r → (fault ≡ faults.Memory) ⊎ BuildFails texts run build budget fault
  not_linked_build r fault (inl memory) is = inl (is ∙ ap fault_of memory)
  not_linked_build r fault (inr wrong) is =
      inr (subst (λ (f : BuildFault). BuildFails texts run build budget f) (sym is) (unlinked_build wrong))

  option_build : {P : Tables} {fault : BuildFault} → IsProgramOf texts P
      → IsOption (OptionsFail P run build budget) fault → BuildFails texts run build budget fault
  option_build of (option fails) = options range of fails

  -- the same by workers
  pub not_built_by : (P : Tables) (fault : BuildFault) → IsProgramOf texts P
      → (fault ≡ faults.Memory) ⊎ (fault ≡ faults.Wave waves.Workers) ⊎ IsOption (OptionsFail P run build budget) fault
      → IsOfWorkers (BuildFails texts run build budget) fault
  not_built_by P fault of (inl memory) = inl memory
  not_built_by P fault of (inr (inl workers)) = inr (inl workers)
  not_built_by P fault of (inr (inr wrong)) = inr (inr (option_build of wrong))

  pub not_built : (P : Tables) (fault : BuildFault) → IsProgramOf texts P
      → (fault ≡ faults.Memory) ⊎ IsOption (OptionsFail P run build budget) fault
      → (fault ≡ faults.Memory) ⊎ BuildFails texts run build budget fault
  not_built P fault of (inl memory) = inl memory
  not_built P fault of (inr wrong) = inr (option_build of wrong)

-- ---- the budget

pub wrong_budget : (budget : ℕ) (test : Bool) → (IsTrue test ↔ IsBudget budget) → test ≡ false → ¬ IsBudget budget
wrong_budget budget test says failed = λ good. (let clash : true ≡ false = sym (says.1 good) ∙ failed in cc)

no_budget_fault : (F : OptionFault → Type 0) (fault : BuildFault) → IsOption F fault → fault ≢ faults.Budget
no_budget_fault F fault (option fails) e = cc

pub no_option_is_budget : (F : OptionFault → Type 0) (r : Result Built BuildFault)
    → IfErr r (λ fault. (fault ≡ faults.Memory) ⊎ IsOption F fault) → r ≢ Err faults.Budget
no_option_is_budget F (Ok built) wrong e = cc
no_option_is_budget F (Err fault) (inl memory) e = cc
no_option_is_budget F (Err fault) (inr wrong) e = no_budget_fault F fault wrong (cc)

no_refusal_is_budget : (refusal : CommandFault) → fault_of refusal ≢ faults.Budget
no_refusal_is_budget (refusals.Class place fault) e = cc
no_refusal_is_budget (refusals.Link fault) e = cc
no_refusal_is_budget refusal e = cc

pub refused_for_no_budget : (refusal : CommandFault) (fault : BuildFault) (r : Result Built BuildFault)
    → fault ≡ fault_of refusal → r ≡ Err fault → r ≢ Err faults.Budget
refused_for_no_budget refusal fault r is was told =
    let same : fault ≡ faults.Budget = cc in
    no_refusal_is_budget refusal (sym is ∙ same)

-- ---- the number of workers

pub no_workers_is_budget : (F : OptionFault → Type 0) (r : Result Built BuildFault)
    → IfErr r (λ fault. IsOfWorkers (IsOption F) fault) → r ≢ Err faults.Budget
no_workers_is_budget F (Ok built) wrong e = cc
no_workers_is_budget F (Err fault) (inl memory) e = cc
no_workers_is_budget F (Err fault) (inr (inl workers)) e = cc
no_workers_is_budget F (Err fault) (inr (inr wrong)) e = no_budget_fault F fault wrong (cc)

no_refusal_is_wave : (refusal : CommandFault) → fault_of refusal ≢ faults.Wave waves.Workers
no_refusal_is_wave (refusals.Class place fault) e = cc
no_refusal_is_wave (refusals.Link fault) e = cc
no_refusal_is_wave refusal e = cc

pub refused_for_no_workers : (refusal : CommandFault) (fault : BuildFault) (r : Result Built BuildFault)
    → fault ≡ fault_of refusal → r ≡ Err fault → r ≢ Err (faults.Wave waves.Workers)
refused_for_no_workers refusal fault r is was told =
    let same : fault ≡ faults.Wave waves.Workers = cc in
    no_refusal_is_wave refusal (sym is ∙ same)

pub wrong_number : (workers : ℕ) (test : Bool) → (IsTrue test ↔ CanWork workers) → test ≡ false → ¬ CanWork workers
wrong_number workers test says failed = λ good. (let clash : true ≡ false = sym (says.1 good) ∙ failed in cc)
