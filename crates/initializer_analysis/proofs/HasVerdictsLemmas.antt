-- There are verdicts on the classes of each program.
use Rattle.std.proofs.Common.{◌≡◌, ◌⊎◌, inl, inr, ℕ, ◌<◌, Bool, List, [], ◌∷◌, length}
use Rattle.std.proofs.Common.{Some, slice_get, refl, sym, ap, subst, ◌∙◌, arith}
use Rattle.std.specs.List.{Contains}
use Rattle.std.proofs.lemmas.Option.{slice_get_within}
use Rattle.program.specs.Tables.{Tables}
use Rattle.use_graph.specs.Uses.{IsUse}
use Rattle.use_graph.specs.declared.mark.Mark.{Mark}
use Rattle.use_graph.specs.declared.mark.Mark.TheVariants as marks
use Rattle.initializer_analysis.specs.Forced.{has_class}
use Rattle.initializer_analysis.specs.declared.verdict.Reason.{Reason}
use Rattle.initializer_analysis.specs.declared.verdict.Reason.TheVariants as reasons
use Rattle.initializer_analysis.specs.declared.verdict.Verdict.{Verdict}
use Rattle.initializer_analysis.specs.declared.verdict.Verdict.TheVariants.{Wave, Refused}
use Rattle.initializer_analysis.specs.Verdicts.{UsesAlong, one, more, Holds, rank, rank_of, IsFirstReason, NoneHolds}
use Rattle.initializer_analysis.specs.Verdicts.{HasWave, IsVerdict, AreVerdicts, HasVerdicts}
use Rattle.initializer_analysis.proofs.ReachesLemmas.{Decided, decided_as, decided_both, decided_not, decided_same}
use Rattle.initializer_analysis.proofs.ReachesLemmas.{decided_below, decided_true, decided_among, Through, least_below}
use Rattle.initializer_analysis.proofs.ReachesLemmas.{IsLeast, table, length_table, at_table}
use Rattle.initializer_analysis.proofs.UsesLemmas.{decided_use, decided_mark}
use Rattle.initializer_analysis.proofs.AcyclicLemmas.{numbers, Along, decided_along, along_edge, along_joined}
use Rattle.initializer_analysis.proofs.AcyclicLemmas.{IsAcyclic, height, height_above, height_attained}

-- ---- reasons

-- those that can hold of a class by itself
own_reasons : List Reason
own_reasons = reasons.Forced ∷ reasons.Cycle ∷ reasons.Marked marks.Prints ∷ reasons.Marked marks.Throws
    ∷ reasons.Marked marks.Monitors ∷ reasons.Marked marks.ForeignWrite ∷ reasons.Marked marks.ForeignRead
    ∷ reasons.Marked marks.Unsupported ∷ reasons.Marked marks.Missing ∷ []

listed_mark : (mark : Mark) → Contains own_reasons (reasons.Marked mark)
unfolding own_reasons
listed_mark marks.Prints = (2, omega arith, refl)
listed_mark marks.Throws = (3, omega arith, refl)
listed_mark marks.Monitors = (4, omega arith, refl)
listed_mark marks.ForeignWrite = (5, omega arith, refl)
listed_mark marks.ForeignRead = (6, omega arith, refl)
listed_mark marks.Unsupported = (7, omega arith, refl)
listed_mark marks.Missing = (8, omega arith, refl)

mark_small : (mark : Mark) → rank_of mark < 10
mark_small marks.Prints = omega arith
mark_small marks.Throws = omega arith
mark_small marks.Monitors = omega arith
mark_small marks.ForeignWrite = omega arith
mark_small marks.ForeignRead = omega arith
mark_small marks.Unsupported = omega arith
mark_small marks.Missing = omega arith

module _ (P : Tables) (forced : List Bool) where
  used_within : (a b : ℕ) → IsUse P a b → b < length P.classes
  used_within a b used = used.0

  -- ---- what a class uses by way of others

  abbrev Uses : ℕ → ℕ → Type 0
  Uses a b = Along (length P.classes) (IsUse P) (decided_use P) used_within a b

  uses_joined : {a b c : ℕ} → UsesAlong P a b → UsesAlong P b c → UsesAlong P a c
  uses_joined first (one used) = more first used
  uses_joined first (more way used) = more (uses_joined first way) used

  from_way : (vs : List ℕ) (a b : ℕ) → Through (IsUse P) vs a b → UsesAlong P a b
  from_way [] a b used = one used
  from_way (v ∷ vs) a b (inl way) = from_way vs a b way
  from_way (v ∷ vs) a b (inr ways) = uses_joined (from_way vs a v ways.0) (from_way vs v b ways.1)

  to_way : {a b : ℕ} → UsesAlong P a b → Uses a b
  to_way (one used) = along_edge (length P.classes) (IsUse P) (decided_use P) used_within used
  to_way {a = a} {b = b} (more {d = d} way used) =
      along_joined (length P.classes) (IsUse P) (decided_use P) used_within a d b (to_way way)
      (along_edge (length P.classes) (IsUse P) (decided_use P) used_within used)

  decided_uses : (a b : ℕ) → Decided (UsesAlong P a b)
  decided_uses a b =
      decided_as (from_way (numbers (length P.classes)) a b) (λ way. to_way way)
      (decided_along (length P.classes) (IsUse P) (decided_use P) used_within a b)

  -- ---- the first reason that holds of a class by itself

  decided_holds : (c : ℕ) (reason : Reason) → Decided (Holds P forced c reason)
  decided_holds c reasons.Forced = decided_true (has_class forced c)
  decided_holds c (reasons.Marked mark) = decided_mark P c mark
  decided_holds c reasons.Cycle = decided_uses c c
  decided_holds c reason = inr (λ never. never)

  listed_reason : (c : ℕ) (reason : Reason) → Holds P forced c reason → Contains own_reasons reason × (rank reason < 10)
  unfolding own_reasons
  listed_reason c reasons.Forced holds = ((0, omega arith, refl), omega arith)
  listed_reason c (reasons.Marked mark) holds = (listed_mark mark, mark_small mark)
  listed_reason c reasons.Cycle holds = ((1, omega arith, refl), omega arith)
  listed_reason c reason holds = absurd holds

  -- one of this rank holds
  abbrev HoldsAt : ℕ → ℕ → Type 0
  HoldsAt c k = (reason : Reason) × Contains own_reasons reason × ((rank reason ≡ k) × Holds P forced c reason)

  first_reason : (c : ℕ) → ((reason : Reason) × IsFirstReason P forced c reason) ⊎ NoneHolds P forced c
  first_reason c = elim (least_below 10 (HoldsAt c) (λ k.
      decided_among own_reasons (λ reason. (rank reason ≡ k) × Holds P forced c reason) (λ reason.
      decided_both (decided_same (rank reason) k) (decided_holds c reason)))) [
        | inl (k, ((reason, at, (same, holds)), least)) ↦ inl (
          reason,
          (
            holds,
            λ other also.
                let (among, low) = listed_reason c other also in
                let less = least (rank other) (other, among, (refl, also)) in
                omega (arith, same),
          ),
        )
        | inr none ↦ inr (λ reason holds.
            let (among, low) = listed_reason c reason holds in
            none (rank reason) low (reason, among, (refl, holds)))
      ]

  decided_none : (c : ℕ) → Decided (NoneHolds P forced c)
  decided_none c = elim (first_reason c) [
    | inl (reason, (holds, least)) ↦ inr (λ none. none reason holds)
    | inr none ↦ inl none
  ]

  -- ---- classes that will be accepted

  -- no reason holds of a class, nor of what it uses by way of others
  record IsClear (c : ℕ) : Type 0 where
    none : NoneHolds P forced c
    below : (e : ℕ) → UsesAlong P c e → NoneHolds P forced e

  decided_clear : (c : ℕ) → Decided (IsClear c)
  decided_clear c =
      decided_as
      (λ (none, rest). record {
        none = none;
        below = λ e way reason holds. rest (
          e,
          last_within way,
          (way, λ nor. nor reason holds),
        );
      })
      (λ clear. (clear.none, λ (e, low, (way, some)). some (clear.below e way)))
      (decided_both (decided_none c) (decided_not (decided_below (length P.classes)
      (λ e. UsesAlong P c e × (NoneHolds P forced e → ⊥))
      (λ e low. decided_both (decided_uses c e) (decided_not (decided_none e))))))
    where
      last_within : {e : ℕ} → UsesAlong P c e → e < length P.classes
      last_within {e = e} (one used) = used_within c e used
      last_within {e = e} (more {d = d} way used) = used_within d e used

  clear_next : (c e : ℕ) → IsClear c → IsUse P c e → IsClear e
  clear_next c e clear used = record {
    none = clear.below e (one used);
    below = λ d way. clear.below d (uses_joined (one used) way);
  }

  -- all that it uses is clear
  clear_by : (c : ℕ) → NoneHolds P forced c → ((e : ℕ) → IsUse P c e → IsClear e) → IsClear c
  clear_by c none each = record { none = none; below = λ e way. (clear_along way).none }
    where
      clear_along : {e : ℕ} → UsesAlong P c e → IsClear e
      clear_along {e = e} (one used) = each e used
      clear_along {e = e} (more {d = d} way used) = clear_next d e (clear_along way) used

  acyclic : (c : ℕ) → IsClear c → IsAcyclic (length P.classes) (IsUse P) (decided_use P) used_within c
  acyclic c clear b way cycle =
      clear.below b (from_way (numbers (length P.classes)) c b way) reasons.Cycle
      (from_way (numbers (length P.classes)) b b cycle)

  wave : ℕ → ℕ
  wave c = height (length P.classes) (IsUse P) (decided_use P) used_within c

  -- ---- verdicts

  abbrev IsUnclear : ℕ → ℕ → Type 0
  IsUnclear c e = IsUse P c e × (IsClear e → ⊥)

  data Judged (c : ℕ) : Verdict → Type 0 where
    own : {reason : Reason} → IsFirstReason P forced c reason → Judged c (Refused reason)
    dependent : {e : ℕ} → NoneHolds P forced c → IsLeast (IsUnclear c) e → Judged c (Refused (reasons.DependsOn e))
    accepted : IsClear c → Judged c (Wave (wave c))

  judged : (c : ℕ) → (verdict : Verdict) × Judged c verdict
  judged c = elim (first_reason c) [
    | inl (reason, first) ↦ (Refused reason, own first)
    | inr none ↦ elim (least_below (length P.classes) (IsUnclear c) (λ e.
        decided_both (decided_use P c e) (decided_not (decided_clear e)))) [
          | inl (e, least) ↦ (Refused (reasons.DependsOn e), dependent none least)
          | inr all ↦ (
            Wave (wave c),
            accepted (clear_by c none (λ e used. is_clear e (decided_clear e)
                (λ never. all e (used_within c e used) (used, never)))),
          )
        ]
  ]
    where
      is_clear : (e : ℕ) → Decided (IsClear e) → ((IsClear e → ⊥) → ⊥) → IsClear e
      is_clear e (inl clear) not = clear
      is_clear e (inr never) not = absurd (not never)

  verdicts : List Verdict
  verdicts = table (length P.classes) (λ c. (judged c).0)

  verdict_at : (c : ℕ) → c < length P.classes → slice_get verdicts c ≡ Some (judged c).0
  unfolding verdicts
  verdict_at c low = at_table (length P.classes) (λ c. (judged c).0) c low

  count : length verdicts ≡ length P.classes
  unfolding verdicts
  count = length_table (length P.classes) (λ c. (judged c).0)

  same_at : (c : ℕ) (verdict : Verdict) → slice_get verdicts c ≡ Some verdict
      → (c < length P.classes) × ((judged c).0 ≡ verdict)
  same_at c verdict at =
      let small = slice_get_within verdicts c verdict at in
      let low : c < length P.classes = omega (arith, count) in
      let two : Some (judged c).0 ≡ Some verdict = sym (verdict_at c low) ∙ at in
      (low, cc)

  clear_has_wave : (c : ℕ) → c < length P.classes → IsClear c → HasWave verdicts c (wave c)
  clear_has_wave c low is = verdict_at c low ∙ ap (λ (v : Verdict). Some v) (by (judged c).0 (judged c).1)
    where
      by : (v : Verdict) → Judged c v → v ≡ Wave (wave c)
      by (Refused reason) (own first) = absurd (is.none reason first.0)
      by (Refused (reasons.DependsOn e)) (dependent none ((used, never), least)) =
          absurd (never (clear_next c e is used))
      by (Wave n) (accepted too) = refl

  wave_is_clear : (c n : ℕ) → HasWave verdicts c n → IsClear c
  wave_is_clear c n at = let (low, same) = same_at c (Wave n) at in by (judged c).0 (judged c).1 same
    where
      by : (v : Verdict) → Judged c v → v ≡ Wave n → IsClear c
      by (Refused reason) (own first) is = absurd cc
      by (Refused (reasons.DependsOn e)) (dependent none least) is = absurd cc
      by (Wave m) (accepted too) is = too

  used_has_wave : (c e : ℕ) → IsClear c → IsUse P c e → HasWave verdicts e (wave e)
  used_has_wave c e is used = clear_has_wave e (used_within c e used) (clear_next c e is used)

  is_own : (c : ℕ) (reason : Reason) → IsFirstReason P forced c reason
      → IsVerdict P forced verdicts c (Refused reason)
  is_own c (reasons.DependsOn e) first = absurd first.0
  is_own c reason first = first

  is_verdict : (c : ℕ) (verdict : Verdict) → Judged c verdict → IsVerdict P forced verdicts c verdict
  unfolding wave
  is_verdict c (Refused reason) (own first) = is_own c reason first
  is_verdict c (Refused (reasons.DependsOn e)) (dependent none ((used, never), least)) = (
    none,
    (
      used,
      λ (n, at). never (wave_is_clear e n at),
      λ d uses refused. least d (uses, λ is. refused (wave d, clear_has_wave d (used_within c d uses) is)),
    ),
  )
  is_verdict c (Wave n) (accepted is) = (
    is.none,
    record {
      above = λ e used. (
        wave e,
        used_has_wave c e is used,
        height_above (length P.classes) (IsUse P) (decided_use P) used_within c e used (acyclic c is),
      );
      least = elim (height_attained (length P.classes) (IsUse P) (decided_use P) used_within c (acyclic c is)) [
        | inl none ↦ inl none
        | inr (e, used, next) ↦ inr (e, used, wave e, used_has_wave c e is used, next)
      ];
    },
  )

  are_verdicts : AreVerdicts P forced verdicts
  are_verdicts = record {
    count = count;
    each = λ c verdict at.
        let (low, same) = same_at c verdict at in
        subst (IsVerdict P forced verdicts c) same (is_verdict c (judged c).0 (judged c).1);
  }

pub has_verdicts_lem : HasVerdicts
has_verdicts_lem P forced = (verdicts P forced, are_verdicts P forced)
