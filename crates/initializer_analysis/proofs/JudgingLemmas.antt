-- Verdicts from what is known of each class.
use Rattle.std.proofs.Common.{◌≡◌, ◌≢◌, ◌⊎◌, ℕ, ◌+◌, ◌<◌, ◌≤◌, Bool, true, false, List, length, Option, Some, None}
use Rattle.std.proofs.Common.{IsTrue, IsSome, MatchOption, is_some, slice_get, slice_index}
use Rattle.std.proofs.Common.{slice_index_or, refl, sym, ap}
use Rattle.std.proofs.Common.{subst, ◌∙◌, inl, inr, arith}
use Rattle.std.proofs.lemmas.Option.{slice_get_within}
use Rattle.std.proofs.lemmas.Grind.{common_steps}
use Rattle.graph.specs.Rows.{Rows}
use Rattle.graph.specs.Reaches.{Reaches, itself}
use Rattle.graph.proofs.ReachesLemmas.{Reaches-joined}
use Rattle.program.specs.Tables.{Tables}
use Rattle.use_graph.specs.declared.whole_program.UseGraph.{UseGraph}
use Rattle.use_graph.specs.steps.Bodies.{IsUseGraph}
use Rattle.use_graph.specs.Uses.{IsUse}
use Rattle.initializer_analysis.specs.declared.labels.Least.{Least}
use Rattle.initializer_analysis.specs.declared.verdict.Reason.{Reason}
use Rattle.initializer_analysis.specs.declared.verdict.Reason.TheVariants as reasons
use Rattle.initializer_analysis.specs.declared.verdict.Verdict.{Verdict}
use Rattle.initializer_analysis.specs.declared.verdict.Verdict.TheVariants.{Wave, Refused}
use Rattle.initializer_analysis.specs.steps.Heights.{AreHeights}
use Rattle.initializer_analysis.specs.Least.{AreLeast}
use Rattle.initializer_analysis.specs.steps.LeastReached.{no_labels, IsReachedLabel, AreLeastReached}
use Rattle.initializer_analysis.specs.steps.OwnReasons.{AreOwnReasons}
use Rattle.initializer_analysis.specs.RefusedUses.{IsRefusedUse, AreFirstRefused}
use Rattle.initializer_analysis.specs.Verdicts.{NoneHolds, HasWave, IsFirstReason}
use Rattle.initializer_analysis.specs.Verdicts.{IsAccepted, IsVerdict, AreVerdicts}
use Rattle.initializer_analysis.specs.steps.Dependence.{vertex_of, IsDependence}
use Rattle.initializer_analysis.specs.steps.Judging.{own_reason, AreOwnLabels, AreFirstThere}
use Rattle.initializer_analysis.specs.steps.Judging.{DependsOnRefused, AreRefused}
use Rattle.initializer_analysis.specs.steps.Judging.{AreClassFlags, verdict_by, AreVerdictsBy}
use Rattle.initializer_analysis.proofs.LeastLemmas.{IsFirst-least, IsFirst-is}
use Rattle.initializer_analysis.proofs.DependenceLemmas.{use_reached, next_use, two_on_cycle}

some_or_none : {A : Type 0} (o : Option A) → ((x : A) × (o ≡ Some x)) ⊎ (o ≡ None)
some_or_none None = inr refl
some_or_none (Some x) = inl (x, refl)

is_there : {A : Type 0} (o : Option A) (x : A) → o ≡ Some x → IsSome o
is_there o x e = ap is_some e

within : {A : Type 0} (xs : List (Option A)) (n : ℕ) → IsSome (slice_index_or xs n None) → n < length xs
within xs n there = by (less n (length xs))
  where
    less : (n m : ℕ) → (n < m) ⊎ (m ≤ n)
    less n m = grind arith

    past : length xs ≤ n → slice_index_or xs n None ≡ None
    past h = grind (arith, common_steps)

    by : (n < length xs) ⊎ (length xs ≤ n) → n < length xs
    by (inl low) = low
    by (inr high) = absurd (let none : is_some (slice_index_or xs n None) ≡ false = ap is_some (past high) in cc)

module _ (P : Tables) (uses : UseGraph) (graph : Rows) (whole : IsUseGraph P uses)
    (is : IsDependence P uses graph) where
  abbrev at : ℕ → ℕ
  at c = vertex_of uses c

  -- ---- classes that depend on one that is refused

  pub are_refused : (own : List (Option Reason)) (labels least : List Least) (there : List Bool)
      → length own ≡ length P.classes → AreOwnLabels uses own (length P.classes) labels
      → AreLeastReached graph labels least → AreFirstThere uses least (length P.classes) there
      → AreRefused P uses graph own there
  are_refused own labels least there count o l t = record {
    count = t.count;
    each = λ c low. (
      λ held. first_there c low (slice_index_or least (at c) no_labels).first refl
          (sym (t.each c low) ∙ held),
      λ (e, path, some). (let found = IsFirst-least (IsReachedLabel graph labels (at c))
          (slice_index_or least (at c) no_labels).first e (is_least c low).first
          (at e, path, o.there e (let less = within own e some in omega (arith, count)) some) in
          t.each c low ∙ ap is_some found.1),
    );
  }
    where
      is_least : (c : ℕ) → c < length P.classes
          → AreLeast (IsReachedLabel graph labels (at c)) (slice_index_or least (at c) no_labels)
      is_least c low = l (at c) (omega (arith, is.vertices))

      first_there : (c : ℕ) → c < length P.classes → (f : Option ℕ) → (slice_index_or least (at c) no_labels).first ≡ f
          → is_some (slice_index_or least (at c) no_labels).first ≡ true → DependsOnRefused uses graph own c
      first_there c low None none held =
          absurd (let denied : is_some (slice_index_or least (at c) no_labels).first ≡ false =
          ap is_some none in cc)
      first_there c low (Some e) found held =
          let (u, path, label) = IsFirst-is (IsReachedLabel graph labels (at c))
          (slice_index_or least (at c) no_labels).first e (is_least c low).first found in
          let (same, some) = o.only u e label in
          (e, subst (λ (v : ℕ). Reaches graph (at c) v) same path, some)

  -- ---- verdicts

  module _ (forced : List Bool) (own : List (Option Reason)) (refused : List Bool) (first : List (Option ℕ))
      (heights : List ℕ) (flags : List Bool) (verdicts : List Verdict) (o : AreOwnReasons P forced own)
      (r : AreRefused P uses graph own refused) (f : AreFirstRefused P refused first)
      (m : AreClassFlags uses (length P.classes) flags) (h : AreHeights graph flags heights)
      (v : AreVerdictsBy uses own first heights (length P.classes) verdicts) where
    abbrev first_of : ℕ → Option ℕ
    first_of c = slice_index_or first c None

    abbrev height_of : ℕ → ℕ
    height_of c = slice_index heights (at c)

    abbrev IsRefused : ℕ → Type 0
    IsRefused c = IsTrue (slice_index_or refused c false)

    below : (c : ℕ) → c < length P.classes → at c < length graph
    below c low = omega (arith, is.vertices)

    verdict_is : (c : ℕ) → c < length P.classes → (reason : Option Reason) (e : Option ℕ) → own_reason own c ≡ reason
        → first_of c ≡ e → slice_get verdicts c ≡ Some (verdict_by reason e (height_of c))
    verdict_is c low reason e own_is first_is =
        v.each c low ∙ ap (λ (x : Option Reason). Some (verdict_by x (first_of c) (height_of c))) own_is
        ∙ ap (λ (x : Option ℕ). Some (verdict_by reason x (height_of c))) first_is

    -- a class that is not refused has a wave
    not_refused : (c : ℕ) → c < length P.classes → (IsRefused c → ⊥) → (own_reason own c ≡ None) × (first_of c ≡ None)
    not_refused c low denied = (by_own (some_or_none (own_reason own c)), by_first (some_or_none (first_of c)))
      where
        by_own : ((x : Reason) × (own_reason own c ≡ Some x)) ⊎ (own_reason own c ≡ None) → own_reason own c ≡ None
        by_own (inr none) = none
        by_own (inl (x, e)) = absurd (denied ((r.each c low).1 (c, itself, is_there (own_reason own c) x e)))

        by_first : ((x : ℕ) × (first_of c ≡ Some x)) ⊎ (first_of c ≡ None) → first_of c ≡ None
        by_first (inr none) = none
        by_first (inl (e, found)) =
            let (used, there) = IsFirst-is (IsRefusedUse P refused c) (first_of c) e (f.each c low) found in
            let (x, path, some) = (r.each e used.0).0 there in
            absurd (denied ((r.each c low).1
            (x, Reaches-joined graph (at c) (at e) (at x) (use_reached P uses graph whole is c e used low) path, some)))

    wave_of : (c : ℕ) → c < length P.classes → (IsRefused c → ⊥) → HasWave verdicts c (height_of c)
    wave_of c low denied =
        (let (own_is, first_is) = not_refused c low denied in verdict_is c low None None own_is first_is)

    decide : (b : Bool) → (b ≡ true) ⊎ (b ≡ true → ⊥)
    decide true = inl refl
    decide false = inr (λ e. cc)

    -- one that is refused has none
    refused_none : (c : ℕ) → c < length P.classes → IsRefused c → IsAccepted verdicts c → ⊥
    refused_none c low held (n, wave) = by (some_or_none (own_reason own c)) (some_or_none (first_of c))
      where
        none_reaches : own_reason own c ≡ None → first_of c ≡ None → ⊥
        none_reaches own_is first_is =
            let (x, path, some) = (r.each c low).0 held in
            elim (next_use P uses graph whole is c x low path) [
              | inl same ↦ (let there : IsSome (own_reason own c) =
                  subst (λ (y : ℕ). IsSome (own_reason own y)) (sym same) some in
                  let denied : is_some (own_reason own c) ≡ false = ap is_some own_is in cc)
              | inr (d, used, rest) ↦
                  (let found = IsFirst-least (IsRefusedUse P refused c) (first_of c) d (f.each c low)
                  (used, (r.each d used.0).1 (x, rest, some)) in
                  let clash : None ≡ Some found.0 = sym first_is ∙ found.1 in cc)
            ]

        by : ((x : Reason) × (own_reason own c ≡ Some x)) ⊎ (own_reason own c ≡ None)
            → ((x : ℕ) × (first_of c ≡ Some x)) ⊎ (first_of c ≡ None) → ⊥
        by (inl (x, own_is)) found =
            (let two : Some (Wave n) ≡ Some (Refused x) =
            sym wave ∙ verdict_is c low (Some x) (first_of c) own_is refl in cc)
        by (inr own_is) (inl (e, first_is)) =
            (let two : Some (Wave n) ≡ Some (Refused (reasons.DependsOn e)) =
            sym wave ∙ verdict_is c low None (Some e) own_is first_is in cc)
        by (inr own_is) (inr first_is) = none_reaches own_is first_is

    -- ---- a class of a wave

    no_reason : (c : ℕ) → c < length P.classes → own_reason own c ≡ None → NoneHolds P forced c
    no_reason c low none =
        subst (λ (x : Option Reason). MatchOption x (NoneHolds P forced c) (IsFirstReason P forced c)) none
        (o.each c low)

    -- what uses denied refused class uses none that uses it
    no_return : (c e : ℕ) → c < length P.classes → own_reason own c ≡ None → e < length P.classes → e ≢ c
        → Reaches graph (at c) (at e) → Reaches graph (at e) (at c) → ⊥
    no_return c e low none less other there back =
        no_reason c low none reasons.Cycle (two_on_cycle P uses graph whole is c e low less other (there, back))

    module _ (c : ℕ) (low : c < length P.classes) (own_is : own_reason own c ≡ None)
        (first_is : first_of c ≡ None) where
      fine : (e : ℕ) → IsUse P c e → IsRefused e → ⊥
      fine e used held =
          let found = IsFirst-least (IsRefusedUse P refused c) (first_of c) e (f.each c low) (used, held) in
          let clash : None ≡ Some found.0 = sym first_is ∙ found.1 in cc

      lower : (e : ℕ) → IsUse P c e → height_of e < height_of c
      lower e used =
          let path = use_reached P uses graph whole is c e used low in
          h.higher (at c) (at e) (below c low)
          (path, no_return c e low own_is used.0 used.1 path, m.classes e used.0)

      above : (e : ℕ) → IsUse P c e → (n : ℕ) × HasWave verdicts e n × (n < height_of c)
      above e used = (height_of e, wave_of e used.0 (fine e used), lower e used)

      same_or : (d e : ℕ) → (d ≡ e) ⊎ (d ≡ e → ⊥)
      same_or d e = grind arith

      some_or_zero : (n : ℕ) → (n ≡ 0) ⊎ (0 < n)
      some_or_zero n = grind arith

      -- what is used first on the way to the highest below is that itself
      used_first : (e d : ℕ) → e < length P.classes → height_of c ≡ height_of e + 1 → IsUse P c d
          → Reaches graph (at d) (at e) → (d ≡ e) ⊎ (d ≡ e → ⊥) → IsUse P c e
      used_first e d less high used rest (inl same) = subst (λ (x : ℕ). IsUse P c x) same used
      used_first e d less high used rest (inr other) =
          let (d_own, d_first) = not_refused d used.0 (fine d used) in
          let falls = h.higher (at d) (at e) (below d used.0)
          (rest, no_return d e used.0 d_own less (λ e. other (sym e)) rest, m.classes e less) in
          absurd (omega (arith, falls, lower d used, high))

      least : (height_of c ≡ 0) ⊎ ((e : ℕ) × IsUse P c e × (n : ℕ) × HasWave verdicts e n × (height_of c ≡ n + 1))
      least = elim (some_or_zero (height_of c)) [
        | inl none ↦ inl none
        | inr some ↦ inr (by (h.attained (at c) (below c low) some))
      ]
        where
          reached : (e : ℕ) → e < length P.classes → height_of c ≡ height_of e + 1
              → Reaches graph (at c) (at e) → (Reaches graph (at e) (at c) → ⊥) → IsUse P c e
          reached e less high path no_way =
              elim (next_use P uses graph whole is c e low path) [
                | inl same ↦ absurd (no_way (subst (λ (x : ℕ). Reaches graph (at x) (at c)) same itself))
                | inr (d, used, rest) ↦ used_first e d less high used rest (same_or d e)
              ]

          by : (x : ℕ) × (Reaches graph (at c) x × (¬ Reaches graph x (at c)) × IsTrue (slice_index_or flags x false))
              × (height_of c ≡ slice_index heights x + 1)
              → (e : ℕ) × IsUse P c e × (n : ℕ) × HasWave verdicts e n × (height_of c ≡ n + 1)
          by (x, (path, no_way, flagged), high) =
              let (e, less, same) = m.only x flagged in
              let up : height_of c ≡ height_of e + 1 =
              subst (λ (y : ℕ). height_of c ≡ slice_index heights y + 1) same high in
              let used = reached e less up (subst (λ (y : ℕ). Reaches graph (at c) y) same path)
              (λ back. no_way (subst (λ (y : ℕ). Reaches graph y (at c)) (sym same) back)) in
              (e, used, height_of e, wave_of e less (fine e used), up)

    -- ---- all

    own_verdict : (c : ℕ) (x : Reason) → IsFirstReason P forced c x → IsVerdict P forced verdicts c (Refused x)
    own_verdict c (reasons.DependsOn e) is_first = absurd is_first.0
    own_verdict c reason is_first = is_first

    verdict_of : (c : ℕ) → c < length P.classes → (x : Option Reason) (e : Option ℕ) → own_reason own c ≡ x
        → first_of c ≡ e → IsVerdict P forced verdicts c (verdict_by x e (height_of c))
    verdict_of c low (Some x) e own_is first_is =
        own_verdict c x
        (subst (λ (y : Option Reason). MatchOption y (NoneHolds P forced c) (IsFirstReason P forced c)) own_is
        (o.each c low))
    verdict_of c low None (Some e) own_is first_is =
        let (used, there) = IsFirst-is (IsRefusedUse P refused c) (first_of c) e (f.each c low) first_is in (
          no_reason c low own_is,
          (used, (λ accepted. refused_none e used.0 there accepted), (λ d uses_it denied. earlier d uses_it denied)),
        )
      where
        earlier : (d : ℕ) → IsUse P c d → (IsAccepted verdicts d → ⊥) → e ≤ d
        earlier d uses_it denied = elim (decide (slice_index_or refused d false)) [
          | inl held ↦
              (let found = IsFirst-least (IsRefusedUse P refused c) (first_of c) d (f.each c low) (uses_it, held) in
              let same : Some e ≡ Some found.0 = sym first_is ∙ found.1 in
              let is : e ≡ found.0 = cc in omega (arith, is, found.2))
          | inr fine ↦ absurd (denied (height_of d, wave_of d uses_it.0 fine))
        ]
    verdict_of c low None None own_is first_is = (
      no_reason c low own_is,
      record { above = above c low own_is first_is; least = least c low own_is first_is },
    )

    pub are_verdicts : AreVerdicts P forced verdicts
    are_verdicts = record {
      count = v.count;
      each = λ c x here.
          (let low : c < length P.classes = (let less = slice_get_within verdicts c x here in omega (arith, v.count)) in
          let two : Some (verdict_by (own_reason own c) (first_of c) (height_of c)) ≡ Some x =
          sym (v.each c low) ∙ here in
          let same : verdict_by (own_reason own c) (first_of c) (height_of c) ≡ x = cc in
          subst (λ (y : Verdict). IsVerdict P forced verdicts c y) same
          (verdict_of c low (own_reason own c) (first_of c) refl refl));
    }
