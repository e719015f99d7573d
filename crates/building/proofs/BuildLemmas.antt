-- What an image is of.
use Rattle.std.proofs.Common.{◌≡◌, ◌↔◌, ℕ, ◌<◌, ◌^◌, List, Option, Some, option_map, IsSome, is_some}
use Rattle.std.proofs.Common.{slice_get, refl, sym, ap, subst, ◌∙◌, arith}
use Rattle.std.proofs.Math.Path.{fun_ext}
use Rattle.std.proofs.lemmas.List.{length-map}
use Rattle.std.proofs.lemmas.Option.{slice_get-map, slice_get_within}
use Rattle.vm_state.specs.SharedState.{Region}
use Rattle.semantics.specs.Acceptance.{Accepted}
use Rattle.semantics.proofs.AcceptedRegionsLemmas.{one_region_lem}
use Rattle.semantics.proofs.BranchesLemmas.{value_in}
use Rattle.semantics.proofs.TestsLemmas.{from_some}
use Rattle.program.specs.Tables.{Tables}
use Rattle.region_shape.specs.declared.regions.Region.{Region as Held}
use Rattle.region_shape.specs.Regions.{environment_of}
use Rattle.region_shape.specs.Laws.{IsLinked, IsFromFile}
use Rattle.region_shape.specs.Sizes.{IsWithin}
use Rattle.region_shape.specs.Wholes.{AreWhole}
use Rattle.wave_scheduler.specs.Settled.{Wave, Settled, HasWave, region_in}
use Rattle.wave_scheduler.specs.Laws.{HasRegions}
use Rattle.wave_scheduler.specs.Outcomes.{outcome_of, settled_of}
use Rattle.initializer_analysis.specs.declared.verdict.Verdict.{Verdict}
use Rattle.initializer_analysis.specs.declared.verdict.Verdict.TheVariants as verdicts_are
use Rattle.initializer_analysis.specs.Verdicts.{IsAccepted}
use Rattle.wave_scheduler.specs.declared.outcome.Settled.{Settled as Answer}
use Rattle.wave_scheduler.proofs.FindingLemmas.{region_seen, no_wave}
use Rattle.initializer_analysis.proofs.ReachesLemmas.{one_of}
use Rattle.wave_scheduler.proofs.AnalysisLemmas.{has_analysis_lem}
use Rattle.wave_scheduler.proofs.ExactLemmas.{settled_are_exact_lem}
use Rattle.wave_scheduler.proofs.HeadlineLemmas.{settled_show_the_same_lem}
use Rattle.wave_scheduler.proofs.WholesLemmas.{settled_are_whole_lem, settled_are_small_lem}
use Rattle.machine.specs.Linked.{program_of}
use Rattle.object_graph.specs.Cuts.{IsCutOf}
use Rattle.object_graph.specs.Reached.{IsReached}
use Rattle.object_graph.proofs.CutStartsLemmas.{cut_unseen_lem, same_some}
use Rattle.semantics.specs.Quiet.{Environment}
use Rattle.object_graph.specs.Images.{ImageTables, AreSmall, start_image, region_or}
use Rattle.building.specs.declared.build.BuildOptions.{BuildOptions}
use Rattle.building.specs.Builds.{text_of, IsSettledAs, HoldsAccepted, StartsShowTheSame, IsBuildOfProgram}
use Rattle.building.specs.declared.build.Built.{Built}
use Rattle.building.specs.steps.Gathered.{IsGathered}

-- ---- regions

pub seen_regions : (s : Answer) → environment_of s.regions ≡ region_in (settled_of s)
seen_regions s = fun_ext (λ c. region_seen s.regions c)

has_regions : (S : Settled) (I : ImageTables) → ((c : ℕ) → environment_of I.regions c ≡ region_in S c)
    → HasRegions S (start_image I)
has_regions S I same = record {
  holds = λ c. ap is_some (same c);
  region = λ c r has. ap (region_or _) (same c ∙ has);
}

module _ (P : Tables) (run build : Option (List ℕ)) (budget : ℕ) (linked : IsLinked P) where
  pub whole_by : (s : Answer) → ((c : ℕ) → IsFromFile P c) → IsSettledAs P run build budget (settled_of s)
      → AreWhole P (environment_of s.regions)
  whole_by s from by =
      subst (AreWhole P) (sym (seen_regions s))
      (settled_are_whole_lem P by.patterns.forced budget (settled_of s) linked from by.patterns.settled)

  pub small_by : (s : Answer) → budget < 2 ^ 31 → ((c : ℕ) → IsFromFile P c)
      → IsSettledAs P run build budget (settled_of s) → AreSmall P (environment_of s.regions)
  small_by s less from by = record {
    classes = λ c r here.
        let (n, at) = by.patterns.settled.only c r (seen c r here) in
        let low = slice_get_within (settled_of s).outcomes c (Wave n) at in
        omega (arith, low, by.patterns.settled.count);
    objects = λ c r here. let few = (sizes c r here).count in omega arith;
    elements = λ c n r object here at. let few = (sizes c r here).arrays n object at in omega arith;
  }
    where
      seen : (c : ℕ) (r : Region) → environment_of s.regions c ≡ Some r → region_in (settled_of s) c ≡ Some r
      seen c r here = sym (region_seen s.regions c) ∙ here

      sizes : (c : ℕ) (r : Region) → environment_of s.regions c ≡ Some r → IsWithin budget r
      sizes c r here =
          settled_are_small_lem P by.patterns.forced budget (settled_of s) linked from by.patterns.settled c r
          (seen c r here)

  shows_by : (S : Settled) (I : ImageTables) → I.program ≡ P → IsSettledAs P run build budget S
      → ((c : ℕ) → environment_of I.regions c ≡ region_in S c) → StartsShowTheSame I
  shows_by S I is by same entries s =
      let as_here = subst (λ (Q : Tables). IsSettledAs Q run build budget S) (sym is) by in
      let here = subst (λ (Q : Tables). IsLinked Q) (sym is) linked in
      settled_show_the_same_lem I.program as_here.patterns.forced budget S (start_image I) entries here.program
      here.family here.within as_here.patterns.settled (has_regions S I same) s

  exact_by : (S : Settled) (regions : List (Option Held)) → IsSettledAs P run build budget S
      → ((c : ℕ) → environment_of regions c ≡ region_in S c) → (left : List (Option Held))
      → IsCutOf P (environment_of regions) (environment_of left)
      → HoldsAccepted run budget (record { program = P; regions = left })
  exact_by S regions by same left cut =
      let (A, analysis, parents) =
      has_analysis_lem P by.patterns.forced budget linked.program linked.family linked.within in
      let exact =
      settled_are_exact_lem P by.patterns.forced budget S A (start_image (record { program = P; regions = regions }))
      by.patterns.settled analysis (has_regions S (record { program = P; regions = regions }) same) in
      let there : (c : ℕ) (r : Region) → environment_of regions c ≡ Some r → Accepted (program_of P) A c r =
      λ c r at.
      subst (λ (t : Region). Accepted (program_of P) A c t) (ap (region_or _) at) (exact.sound c (ap is_some at)) in
      record {
        forced = by.patterns.forced;
        are = by.patterns.are;
        analysis = A;
        is = analysis;
        whole = environment_of regions;
        exactly = λ c r. (
          there c r,
          λ accepted.
              let (s, at) = value_in (environment_of regions c) (exact.complete c r accepted) in
              at ∙ ap Some (one_region_lem (program_of P) A c s r (there c s at) accepted),
        );
        cut = cut;
      }

-- the image of these regions, with the verdicts
abbrev left_built : Tables → Answer → List (Option Held) → Built
left_built P s left = record { image = record { program = P; regions = left }; verdicts = s.verdicts }

module _ (P : Tables) (options : BuildOptions) (s : Answer)
    (by : IsSettledAs P (text_of options.run_time) (text_of options.build_time) options.budget (settled_of s)) where
  seen_in : (c : ℕ) → environment_of s.regions c ≡ region_in (settled_of s) c
  seen_in c = region_seen s.regions c

  waves_built : (c : ℕ) → IsAccepted s.verdicts c ↔ IsSome (environment_of s.regions c)
  waves_built c = (there, back)
    where
      there : IsAccepted s.verdicts c → IsSome (environment_of s.regions c)
      there (n, at) =
          let here : HasWave (settled_of s) c n =
          slice_get-map outcome_of s.verdicts c ∙ ap (option_map outcome_of) at in
          let (none, wave, r, has, leaves) = by.patterns.settled.each c (Wave n) here in
          ap is_some (seen_in c ∙ has)

      one : (n : ℕ) (v : Verdict) → slice_get s.verdicts c ≡ Some v → outcome_of v ≡ Wave n → IsAccepted s.verdicts c
      one n (verdicts_are.Wave m) at is = (m, at)
      one n (verdicts_are.Refused reason) at is = absurd (no_wave reason n is)

      held : (r : Region) → environment_of s.regions c ≡ Some r → IsAccepted s.verdicts c
      held r here =
          let (n, at) = by.patterns.settled.only c r (sym (seen_in c) ∙ here) in
          let low = slice_get_within (settled_of s).outcomes c (Wave n) at in
          let (v, there) = one_of s.verdicts c (omega (arith, low, length-map s.verdicts outcome_of)) in
          let seen : slice_get (settled_of s).outcomes c ≡ Some (outcome_of v) =
          slice_get-map outcome_of s.verdicts c ∙ ap (option_map outcome_of) there in
          one n v there (from_some (sym seen ∙ at))

      back : IsSome (environment_of s.regions c) → IsAccepted s.verdicts c
      back some = let (r, here) = value_in (environment_of s.regions c) some in held r here

  module _ (linked : IsLinked P) (fits : AreWhole P (environment_of s.regions)) (left : List (Option Held))
      (cut : IsCutOf P (environment_of s.regions) (environment_of left)) where
    shows_left : StartsShowTheSame (record { program = P; regions = left })
    shows_left entries o =
        let whole =
        shows_by P (text_of options.run_time) (text_of options.build_time) options.budget linked (settled_of s)
        (record { program = P; regions = s.regions }) refl by seen_in entries o in
        let unseen = cut_unseen_lem P (environment_of s.regions) (environment_of left) entries linked.program fits
        cut o in
        (λ shown. unseen.0 (whole.0 shown), λ shown. whole.1 (unseen.1 shown))

    waves_left : (c : ℕ) → IsAccepted s.verdicts c ↔ IsSome (environment_of left c)
    waves_left c =
        let same = same_some (IsReached P (environment_of s.regions)) c (environment_of s.regions c)
        (environment_of left c) (cut c) in
        (λ accepted. same ∙ (waves_built c).0 accepted, λ some. (waves_built c).1 (sym same ∙ some))

    build_left : IsBuildOfProgram P options (left_built P s left)
    build_left = record {
      program = refl;
      built = record {
        settled = settled_of s;
        by = by;
        cut = subst (λ (env : Environment). IsCutOf P env (environment_of left)) (seen_regions s) cut;
        told = refl;
      };
      exact =
          exact_by P (text_of options.run_time) (text_of options.build_time) options.budget linked (settled_of s)
          s.regions by seen_in left cut;
      shows = shows_left;
      count = sym (length-map s.verdicts outcome_of) ∙ by.patterns.settled.count;
      waves = waves_left;
    }

  pub is_build : (built : Built) → IsLinked P → AreWhole P (environment_of s.regions) → IsGathered P s built
      → IsBuildOfProgram P options built
  is_build built linked fits is =
      subst (IsBuildOfProgram P options) same (build_left linked fits built.image.regions is.cut)
    where
      same : left_built P s built.image.regions ≡ built
      same = λ i. record {
        image = record { program = sym is.program i; regions = built.image.regions };
        verdicts = sym is.verdicts i;
      }
