-- Reasons of given classes, added by their ranks.
use Rattle.std.proofs.Common.{◌≡◌, ◌≢◌, ◌↔◌, ◌⊎◌, ℕ, zero, suc, ◌+◌, ◌<◌, ◌≤◌, Bool, false, IsTrue, List, [], ◌∷◌}
use Rattle.std.proofs.Common.{length, set, replicate}
use Rattle.std.proofs.Common.{Option, Some, None, MatchOption, slice_index_or, inl, inr, refl, sym, subst, ◌∙◌, arith}
use Rattle.std.proofs.lemmas.Grind.{common_steps}
use Rattle.std.proofs.lemmas.List.{get_or-set_same, get_or-set_other, length-set}
use Rattle.program.specs.Tables.{Tables}
use Rattle.use_graph.specs.declared.mark.Mark.{Mark}
use Rattle.use_graph.specs.declared.mark.Mark.TheVariants as marks
use Rattle.use_graph.specs.Uses.{HasMark}
use Rattle.initializer_analysis.specs.Forced.{has_class}
use Rattle.initializer_analysis.specs.declared.verdict.Reason.{Reason}
use Rattle.initializer_analysis.specs.declared.verdict.Reason.TheVariants as reasons
use Rattle.initializer_analysis.specs.Verdicts.{UsesAlong, Holds, IsFirstReason, NoneHolds, rank, rank_of}
use Rattle.initializer_analysis.specs.steps.OwnReasons.{AreOnCycles, AreOwnReasons}
use Rattle.initializer_analysis.specs.steps.Reasons.{IsNext, AddsReason, IsFirstBelow, AreFirstBelow}
use Rattle.initializer_analysis.proofs.VerdictsLemmas.{same_mark, mark_between}

-- ---- a list is filled

-- the first so many are told
pub record AddsBelow (Is : ℕ → Type 0) (reason : Reason) (i : ℕ) (old new : List (Option Reason)) : Type 0 where
  pub len : length new ≡ length old
  pub told : (c : ℕ) → c < i → IsNext (Is c) reason (slice_index_or old c None) (slice_index_or new c None)
  pub kept : (c : ℕ) → i ≤ c → slice_index_or new c None ≡ slice_index_or old c None

IsNext-same : (A B : Type 0) (reason : Reason) (old new : Option Reason) → (A ↔ B) → IsNext A reason old new
    → IsNext B reason old new
IsNext-same A B reason (Some known) new same is = is
IsNext-same A B reason None new same (inl (a, is)) = inl (same.0 a, is)
IsNext-same A B reason None new same (inr (not, is)) = inr (λ b. not (same.1 b), is)

pub adds_more : (Is : ℕ → Type 0) (reason : Reason) (i : ℕ) (old mid : List (Option Reason)) (known x : Option Reason)
    (holds : Bool)
    → i < length mid → known ≡ slice_index_or mid i None → AddsBelow Is reason i old mid
    → (IsTrue holds ↔ Is i) → IsNext (IsTrue holds) reason known x
    → AddsBelow Is reason (i + 1) old (set mid i x)
adds_more Is reason i old mid known x holds small was before means next = record {
  len = rw (length-set mid i x) before.len;
  told = λ c low. elim (below_or c low) [
    | inl less ↦ rw (get_or-set_other mid i c x None (λ e. absurd (omega arith))) (before.told c less)
    | inr is ↦ subst (λ (d : ℕ). IsNext (Is d) reason (slice_index_or old d None) (slice_index_or (set mid i x) d None))
        (sym is) (rw (get_or-set_same mid i x None small) here)
  ];
  kept = λ c more. rw (get_or-set_other mid i c x None (λ e. absurd (omega arith))) (before.kept c (omega arith));
}
  where
    below_or : (u : ℕ) → u < i + 1 → (u < i) ⊎ (u ≡ i)
    below_or u low = grind arith

    here : IsNext (Is i) reason (slice_index_or old i None) x
    here = IsNext-same (IsTrue holds) (Is i) reason (slice_index_or old i None) x means
        (subst (λ (o : Option Reason). IsNext (IsTrue holds) reason o x) (was ∙ before.kept i (omega arith)) next)

pub adds_all : (Is : ℕ → Type 0) (reason : Reason) (i : ℕ) (old new : List (Option Reason)) → length old ≤ i
    → AddsBelow Is reason i old new → AddsReason Is reason old new
adds_all Is reason i old new end adds = record { len = adds.len; each = λ c small. adds.told c (omega arith) }

-- ---- the next rank

pub next_first : (P : Tables) (forced : List Bool) (c limit : ℕ) (reason : Reason) (Is : Type 0)
    (old new : Option Reason)
    → rank reason ≡ limit → (Is → Holds P forced c reason)
    → ((q : Reason) → Holds P forced c q → rank q ≡ limit → Is)
    → IsFirstBelow P forced limit c old → IsNext Is reason old new → IsFirstBelow P forced (limit + 1) c new
next_first P forced c limit reason Is (Some known) new ranks to only first is =
    subst (IsFirstBelow P forced (limit + 1) c) (sym is) first
next_first P forced c limit reason Is None new ranks to only none (inl (h, is)) =
    subst (IsFirstBelow P forced (limit + 1) c) (sym is) (to h, λ q there. omega (arith, ranks, none q there))
next_first P forced c limit reason Is None new ranks to only none (inr (not, is)) =
    subst (IsFirstBelow P forced (limit + 1) c) (sym is)
    (λ q there. above (rank q) (none q there) (λ e. not (only q there e)))
  where
    above : (r : ℕ) → limit ≤ r → r ≢ limit → limit + 1 ≤ r
    above r low other = omega arith

next_all : (P : Tables) (forced : List Bool) (limit : ℕ) (reason : Reason) (Is : ℕ → Type 0)
    (old new : List (Option Reason))
    → rank reason ≡ limit → ((c : ℕ) → c < length P.classes → Is c → Holds P forced c reason)
    → ((c : ℕ) → c < length P.classes → (q : Reason) → Holds P forced c q → rank q ≡ limit → Is c)
    → AddsReason Is reason old new → AreFirstBelow P forced limit old → AreFirstBelow P forced (limit + 1) new
next_all P forced limit reason Is old new ranks to only adds first = record {
  count = adds.len ∙ first.count;
  each = λ c small. next_first P forced c limit reason (Is c) (slice_index_or old c None) (slice_index_or new c None)
      ranks (to c small) (only c small) (first.each c small) (adds.each c (omega (arith, first.count)));
}

-- ---- of each kind

only_forced : (P : Tables) (forced : List Bool) (c : ℕ) (q : Reason) → Holds P forced c q → rank q ≡ 1
    → IsTrue (has_class forced c)
only_forced P forced c reasons.Forced h e = h
only_forced P forced c (reasons.Marked mark) h e = absurd (omega (arith, mark_between mark))
only_forced P forced c reasons.Cycle h e = absurd (omega arith)
only_forced P forced c _ h e = absurd h

only_marked : (P : Tables) (forced : List Bool) (c : ℕ) (mark : Mark) (q : Reason) → Holds P forced c q
    → rank q ≡ rank_of mark → HasMark P c mark
only_marked P forced c mark reasons.Forced h e = absurd (omega (arith, mark_between mark))
only_marked P forced c mark (reasons.Marked other) h e = subst (HasMark P c) (same_mark other mark e) h
only_marked P forced c mark reasons.Cycle h e = absurd (omega (arith, mark_between mark))
only_marked P forced c mark _ h e = absurd h

only_cycle : (P : Tables) (forced : List Bool) (c : ℕ) (q : Reason) → Holds P forced c q → rank q ≡ 9
    → UsesAlong P c c
only_cycle P forced c reasons.Forced h e = absurd (omega arith)
only_cycle P forced c (reasons.Marked mark) h e = absurd (omega (arith, mark_between mark))
only_cycle P forced c reasons.Cycle h e = h
only_cycle P forced c _ h e = absurd h

rank_positive : (q : Reason) → 1 ≤ rank q
rank_positive (reasons.Marked mark) = omega (arith, mark_between mark)
rank_positive _ = omega arith

-- at first nothing is told
pub forced_first : (P : Tables) (forced : List Bool) (old new : List (Option Reason))
    → old ≡ replicate (length P.classes) None
    → AddsReason (λ c. IsTrue (has_class forced c)) reasons.Forced old new → AreFirstBelow P forced 2 new
forced_first P forced old new empty adds =
    next_all P forced 1 reasons.Forced (λ c. IsTrue (has_class forced c)) old new refl (λ c small h. h)
    (λ c small. only_forced P forced c) adds (record {
      count = count;
      each = λ c small. subst (IsFirstBelow P forced 1 c) (sym (none c)) (λ q h. rank_positive q);
    })
  where
    count : length old ≡ length P.classes
    count = grind (arith, common_steps)

    none : (c : ℕ) → slice_index_or old c None ≡ None
    none c = grind (arith, common_steps)

mark_next : (P : Tables) (forced : List Bool) (mark : Mark) (old new : List (Option Reason))
    → AddsReason (λ c. HasMark P c mark) (reasons.Marked mark) old new → AreFirstBelow P forced (rank_of mark) old
    → AreFirstBelow P forced (rank_of mark + 1) new
mark_next P forced mark old new adds first =
    next_all P forced (rank_of mark) (reasons.Marked mark) (λ c. HasMark P c mark) old new refl (λ c small h. h)
    (λ c small. only_marked P forced c mark) adds first

-- the marks, the least first
abbrev pub all_marks : List Mark
all_marks = marks.Prints ∷ marks.Throws ∷ marks.Monitors ∷ marks.ForeignWrite ∷ marks.ForeignRead ∷ marks.Unsupported
    ∷ marks.Missing ∷ []

pub ranked : (i : ℕ) (d : Mark) → i < 7 → rank_of (slice_index_or all_marks i d) ≡ i + 2
ranked zero d low = refl
ranked (suc zero) d low = refl
ranked (suc (suc zero)) d low = refl
ranked (suc (suc (suc zero))) d low = refl
ranked (suc (suc (suc (suc zero)))) d low = refl
ranked (suc (suc (suc (suc (suc zero))))) d low = refl
ranked (suc (suc (suc (suc (suc (suc zero)))))) d low = refl
ranked (suc (suc (suc (suc (suc (suc (suc i))))))) d low = absurd (omega arith)

pub marks_more : (P : Tables) (forced : List Bool) (i : ℕ) (mark : Mark) (old new : List (Option Reason))
    → rank_of mark ≡ i + 2 → AddsReason (λ c. HasMark P c mark) (reasons.Marked mark) old new
    → AreFirstBelow P forced (i + 2) old → AreFirstBelow P forced (i + 1 + 2) new
marks_more P forced i mark old new ranks adds first =
    subst (λ (n : ℕ). AreFirstBelow P forced n new) next
    (mark_next P forced mark old new adds (subst (λ (n : ℕ). AreFirstBelow P forced n old) (sym ranks) first))
  where
    next : rank_of mark + 1 ≡ i + 1 + 2
    next = omega (arith, ranks)

pub cycle_last : (P : Tables) (forced on_cycle : List Bool) (old new : List (Option Reason)) → AreOnCycles P on_cycle
    → AddsReason (λ c. IsTrue (slice_index_or on_cycle c false)) reasons.Cycle old new
    → AreFirstBelow P forced 9 old → AreOwnReasons P forced new
cycle_last P forced on_cycle old new are adds first = record {
  count = all.count;
  each = λ c small. by (slice_index_or new c None) c (all.each c small);
}
  where
    all : AreFirstBelow P forced 10 new
    all = next_all P forced 9 reasons.Cycle (λ c. IsTrue (slice_index_or on_cycle c false)) old new refl
        (λ c small h. (are.each c small).0 h)
        (λ c small q h e. (are.each c small).1 (only_cycle P forced c q h e)) adds first

    none_holds : (c : ℕ) → ((q : Reason) → Holds P forced c q → 10 ≤ rank q) → (q : Reason) → Holds P forced c q → ⊥
    none_holds c above reasons.Forced h = absurd (omega (arith, above reasons.Forced h))
    none_holds c above (reasons.Marked mark) h =
        absurd (omega (arith, above (reasons.Marked mark) h, mark_between mark))
    none_holds c above reasons.Cycle h = absurd (omega (arith, above reasons.Cycle h))
    none_holds c above _ h = h

    by : (told : Option Reason) (c : ℕ) → IsFirstBelow P forced 10 c told
        → MatchOption told (NoneHolds P forced c) (IsFirstReason P forced c)
    by (Some reason) c is = is
    by None c above = none_holds c above
