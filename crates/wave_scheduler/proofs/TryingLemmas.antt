-- The classes of a wave, tried one after another.
use Rattle.std.proofs.Common.{◌≡◌, ◌≢◌, inl, inr, ℕ, zero, suc, ◌+◌, ◌<◌, Bool, List, [], ◌∷◌, ◌++◌, length}
use Rattle.std.proofs.Common.{take}
use Rattle.std.proofs.Common.{Option, Some, None, slice_get, slice_index, refl, sym, subst, ◌∙◌, arith}
use Rattle.std.proofs.lemmas.Bool.{cases_eq}
use Rattle.std.specs.List.{Contains}
use Rattle.std.proofs.lemmas.List.{take_more}
use Rattle.std.proofs.lemmas.List.Elements.{Contains-push, Contains-push_cases, Contains-append_left}
use Rattle.std.proofs.lemmas.List.Elements.{All-get_or, All-contains_itself}
use Rattle.std.proofs.lemmas.Option.{slice_get_within}
use Rattle.vm_state.specs.SharedState.{Region}
use Rattle.semantics.specs.Quiet.{Environment}
use Rattle.semantics.specs.Quiet as quiet
use Rattle.semantics.specs.Settling.{StoppedBy}
use Rattle.semantics.proofs.TestsLemmas.{from_some}
use Rattle.loading.specs.Families.{IsFamily, AreParentsWithin}
use Rattle.program.specs.Programs.{IsProgram}
use Rattle.program.specs.Tables.{Tables}
use Rattle.machine.specs.Linked.{program_of}
use Rattle.use_graph.specs.Uses.{IsUse}
use Rattle.initializer_analysis.specs.declared.verdict.Verdict.{Verdict}
use Rattle.initializer_analysis.specs.declared.verdict.Verdict.TheVariants as verdicts
use Rattle.initializer_analysis.specs.Verdicts as before
use Rattle.initializer_analysis.proofs.VerdictsLemmas.{waves_fall}
use Rattle.wave_scheduler.specs.declared.tainted.Tainted.{Tainted}
use Rattle.wave_scheduler.specs.Settled.{Outcome, Wave, Settled, IsAccepted, region_in, below}
use Rattle.wave_scheduler.specs.steps.Judged.{UsesAccepted}
use Rattle.wave_scheduler.specs.steps.Waves.{IsTriedIn, AreTriedBelow, TriesWave, Decides}
use Rattle.wave_scheduler.specs.steps.Finding.{IsFound, SetsClass, TriesThese}
use Rattle.wave_scheduler.specs.steps.Tainting.{vertex_in, IsSeen, IsTaint, TriesClass, AreTainted}
use Rattle.wave_scheduler.specs.steps.WaveMembers.{AreMembers}
use Rattle.wave_scheduler.proofs.SettledLemmas.{from_below}
use Rattle.wave_scheduler.proofs.WavesLemmas.{had_wave, one_before}
use Rattle.wave_scheduler.proofs.TriesLemmas.{tries_decide_lem}
use Rattle.wave_scheduler.proofs.FindingLemmas.{accepted_or}
use Rattle.wave_scheduler.proofs.TaintedLemmas.{use_seen, IsFrom, seen_from, next_from, tainted_more}

module _ (P : Tables) (forced : List Bool) (budget : ℕ) (judged : List Verdict) (n : ℕ) (old : Settled)
    (is : IsProgram P) (fits : IsFamily P.family) (within : AreParentsWithin P.family)
    (are : before.AreVerdicts P forced judged) (tried : AreTriedBelow P budget judged n old) where
  is_given : (c m : ℕ) → before.HasWave judged c m → c < length P.classes
  is_given c m at = let low = slice_get_within judged c (verdicts.Wave m) at in omega (arith, are.count)

  pub tries_none : TriesThese P budget judged n [] old old
  tries_none = record {
    count = tried.count;
    regions = tried.regions;
    wave = λ c there. absurd (omega (arith, there.1));
    here = λ c o there at. absurd (omega (arith, there.1));
    others = λ c never. (refl, refl);
  }

  pub tries_all : (members : List ℕ) (new : Settled) → AreMembers judged n members → TriesThese P budget judged n
      members old new
      → TriesWave P budget judged n old new
  tries_all members new of_wave tries = record {
    count = tries.count;
    regions = tries.regions;
    here = λ c o wave at. tries.here c o (of_wave.all c wave) at;
    others = λ c never. tries.others c (λ there. never (of_wave.has c there));
  }

  module _ (done : List ℕ) (cur : Settled) (t : Tainted) (tries : TriesThese P budget judged n done old cur)
      (tainted : AreTainted P cur t) where
    -- a class of another wave was not tried in this one
    apart : (d m : ℕ) → before.HasWave judged d m → m ≢ n → ¬ Contains done d
    apart d m wave other there = other (one_before judged d m n wave (tries.wave d there))

    at_hand : (d : ℕ) (r : Region) → below old n d ≡ Some r → region_in cur d ≡ Some r
    at_hand d r here =
        let (m, at, less, has) = from_below old n d r here in
        elim (had_wave judged d n) [
          | inl wave ↦ absurd (let none = (tried.waits d n wave (omega arith)).1 in
              let clash : None ≡ Some r = sym none ∙ has in cc)
          | inr never ↦ (tries.others d (λ there. never (tries.wave d there))).1 ∙ has
        ]

    -- what is accepted of lower waves is so before the wave and in it
    accepted_now : (d m : ℕ) → before.HasWave judged d m → m ≢ n → IsAccepted old d → IsAccepted cur d
    accepted_now d m wave other (k, at) = (k, (tries.others d (apart d m wave other)).0 ∙ at)

    accepted_then : (d m : ℕ) → before.HasWave judged d m → m ≢ n → IsAccepted cur d → IsAccepted old d
    accepted_then d m wave other (k, at) = (k, sym (tries.others d (apart d m wave other)).0 ∙ at)

    -- a class that waits is not refused
    waits : (c : ℕ) → before.HasWave judged c n → (¬ Contains done c) → IsAccepted cur c
    waits c wave new = (n, (tries.others c new).0 ∙ (tried.waits c n wave (omega arith)).0)

    pub nothing_yet : (c : ℕ) → before.HasWave judged c n → (¬ Contains done c) → region_in cur c ≡ None
    nothing_yet c wave new = (tries.others c new).1 ∙ (tried.waits c n wave (omega arith)).1

    -- An accepted class of a lower wave leads to accepted ones alone.
    no_path : (limit m d e : ℕ) → m < limit → m < n → before.HasWave judged d m → IsAccepted old d
        → (¬ IsAccepted cur e) → IsFrom P cur t tainted d e → ⊥
    no_path zero m d e small low wave accepted never path = omega arith
    no_path (suc limit) m d e small low wave accepted never path =
        elim (next_from P cur t tainted d e (is_given d m wave) path) [
          | inl same ↦ never (subst (IsAccepted cur) same (accepted_now d m wave (omega arith) accepted))
          | inr (x, used, rest) ↦
              let (k, less_wave, less) = waves_fall P forced judged are d m x wave used in
              let (j, here) = accepted in
              let found = tried.tried d m (Wave j) wave low here in
              no_path limit k x e (omega arith) (omega arith) less_wave (found.1 x used) never rest
        ]

    module _ (c : ℕ) (wave : before.HasWave judged c n) (new : ¬ Contains done c) where
      none_refused : (¬ IsSeen t (vertex_in t c)) → UsesAccepted P old c
      none_refused unseen e used =
          let (m, at, less) = waves_fall P forced judged are c n e wave used in
          elim (accepted_or cur e) [
            | inl accepted ↦ accepted_then e m at (omega arith) accepted
            | inr never ↦ absurd (unseen (use_seen P cur t tainted c e (is_given c n wave) used never))
          ]

      one_refused : IsSeen t (vertex_in t c) → (d : ℕ) × IsUse P c d × (¬ IsAccepted old d)
      one_refused seen =
          let (e, low, never, path) = seen_from P cur t tainted c seen in
          elim (next_from P cur t tainted c e (is_given c n wave) path) [
            | inl same ↦ absurd (never (subst (IsAccepted cur) same (waits c wave new)))
            | inr (d, used, rest) ↦ elim (accepted_or old d) [
              | inr refused ↦ (d, used, refused)
              | inl accepted ↦ absurd (let (m, at, less) = waves_fall P forced judged are c n d wave used in
                  no_path n m d e less less at accepted never rest)
            ]
          ]

      decides : (env : Environment) → ((d : ℕ) (r : Region) → below old n d ≡ Some r → env d ≡ Some r)
          → (¬ IsSeen t (vertex_in t c)) → Decides P budget old n c env
      decides env has unseen =
          tries_decide_lem P forced budget judged n old is fits within are tried c wave (none_refused unseen) env has

      has_now : (env : Environment) → ((d : ℕ) → env d ≡ region_in cur d) → (d : ℕ) (r : Region)
          → below old n d ≡ Some r → env d ≡ Some r
      has_now env same d r here = same d ∙ at_hand d r here

      pub can_run : (env : Environment) → ((d : ℕ) → env d ≡ region_in cur d) → (¬ IsSeen t (vertex_in t c))
          → StoppedBy (program_of P) env c budget quiet.Barred → ⊥
      can_run env same unseen = (decides env (has_now env same) unseen).unbarred

      is_tried : (env : Environment) → ((d : ℕ) (r : Region) → below old n d ≡ Some r → env d ≡ Some r)
          → (taint : Option ℕ) (o : Outcome) (r : Option Region) → IsTaint t c taint
          → IsFound (program_of P) env budget n c taint o r → IsTriedIn P budget old c n o r
      is_tried env has (Some e) o r seen (so, none) =
          let (d, used, never) = one_refused seen in rw so (d, used, never, none)
      is_tried env has None o (Some region) unseen (so, cost, settles, small) =
          rw so ((decides env has unseen).settles cost region settles small)
      is_tried env has None o None unseen (why, so, stops) = rw so ((decides env has unseen).stops why stops)

      more_tried : (next : Settled) (o : Outcome) (r : Option Region) → IsTriedIn P budget old c n o r
          → SetsClass c o r cur next → TriesThese P budget judged n (done ++ c ∷ []) old next
      more_tried next outcome held found sets = record {
        count = sets.count ∙ tries.count;
        regions = sets.regions ∙ tries.regions;
        wave = λ x there. elim (Contains-push_cases done c x there) [
          | inl past ↦ tries.wave x past
          | inr last ↦ subst (λ (y : ℕ). before.HasWave judged y n) last wave
        ];
        here = λ x o there at. elim (cases_eq x c) [
          | inr other ↦ elim (Contains-push_cases done c x there) [
            | inr last ↦ absurd (other (sym last))
            | inl past ↦
                let (same_o, same_r) = sets.others x other in
                subst (IsTriedIn P budget old x n o) (sym same_r) (tries.here x o past (sym same_o ∙ at))
          ]
          | inl last ↦
              let now : slice_get next.outcomes c ≡ Some o =
              subst (λ (y : ℕ). slice_get next.outcomes y ≡ Some o) last at in
              let one : outcome ≡ o = from_some (sym sets.here ∙ now) in
              subst (λ (y : ℕ). IsTriedIn P budget old y n o (region_in next y)) (sym last)
              (subst (IsTriedIn P budget old c n o) (sym sets.region)
              (subst (λ (y : Outcome). IsTriedIn P budget old c n y held) one found))
        ];
        others = λ x never.
            let other : x ≢ c = λ e. never (subst (Contains (done ++ c ∷ [])) (sym e) (Contains-push done c)) in
            let unseen : ¬ Contains done x = λ past. never (Contains-append_left done (c ∷ []) x past) in
            let (same_o, same_r) = sets.others x other in
            let (was_o, was_r) = tries.others x unseen in
            (same_o ∙ was_o, same_r ∙ was_r);
      }

      module _ (lent env : Environment) (had : (d : ℕ) (r : Region) → below old n d ≡ Some r → lent d ≡ Some r)
          (same : (d : ℕ) → env d ≡ region_in cur d) where
        -- one class more is tried, and what depends on it is seen where it is not accepted
        pub goes_on : (next : Settled) (more : Tainted) → TriesClass P lent env budget n c t cur more next
            → TriesThese P budget judged n (done ++ c ∷ []) old next × AreTainted P next more
        goes_on next more one =
            let (outcome, held, found, sets) = one.finds in (
              more_tried next outcome held (elim found [
                | inl theirs ↦ is_tried lent had one.taint outcome held one.so theirs
                | inr own ↦ is_tried env (has_now env same) one.taint outcome held one.so own
              ]) sets,
              tainted_more P cur next c t more tainted (is_given c n wave) (waits c wave new)
                  (λ e other. (sets.others e other).0) one.spreads,
            )

-- ---- by the places of a wave's classes

pub next_done : (members : List ℕ) (i : ℕ) → i < length members → take (i + 1) members ≡ take i members ++ slice_index
    members i ∷ []
next_done members i low = take_more members i 0 low

pub wave_at : (judged : List Verdict) (n : ℕ) (members : List ℕ) (i : ℕ) → AreMembers judged n members → i < length
    members
    → before.HasWave judged (slice_index members i) n
wave_at judged n members i of_wave low =
    of_wave.has (slice_index members i) (All-get_or (Contains members) members i 0 low (All-contains_itself members))

pub low_at : (P : Tables) (forced : List Bool) (judged : List Verdict) (n : ℕ) (members : List ℕ) (i : ℕ)
    → before.AreVerdicts P forced judged → AreMembers judged n members → i < length members → slice_index members i <
    length P.classes
low_at P forced judged n members i are of_wave low =
    let small = slice_get_within judged (slice_index members i) (verdicts.Wave n) (wave_at judged n members i of_wave
    low) in
    omega (arith, are.count)
