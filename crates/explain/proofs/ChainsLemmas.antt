-- Chains of classes, and the first refused class that each uses.
use Rattle.std.proofs.Common.{◌≡◌, ◌∙◌, ◌⊎◌, ℕ, zero, suc, ◌<◌, Bool, true, false, IsTrue, List, [], ◌∷◌, length}
use Rattle.std.proofs.Common.{Option, Some, None, map, option_and_then, slice_get, slice_index_or, refl, sym, ap, subst}
use Rattle.std.proofs.Common.{inl, inr, arith}
use Rattle.program.specs.Tables.{Tables}
use Rattle.use_graph.specs.Uses.{IsUse}
use Rattle.initializer_analysis.specs.declared.verdict.Reason.TheVariants as reasons
use Rattle.initializer_analysis.specs.declared.verdict.Verdict.{Verdict}
use Rattle.initializer_analysis.specs.declared.verdict.Verdict.TheVariants.{Wave, Refused}
use Rattle.initializer_analysis.specs.Verdicts.{IsAccepted}
use Rattle.initializer_analysis.specs.Least.{IsFirst}
use Rattle.initializer_analysis.specs.RefusedUses.{IsRefusedUse, AreFirstRefused}
use Rattle.explain.specs.Chains.{AreFirstUses, Chained, alone, on, DependOnUses, DependsOn, IsFirstUse}
use Rattle.explain.specs.steps.Refused.{depended, is_refused}

-- what leads on by one relation does by a weaker one
pub chained_so : (A B : ℕ → ℕ → Type 0) (c : ℕ) → ((d e : ℕ) → A d e → B d e) → (chain : List ℕ) (last : ℕ)
    → Chained A c chain last → Chained B c chain last
chained_so A B c so chain last alone = alone
chained_so A B c so chain last (on {chain = before} {d = d} row leads) =
    on (chained_so A B c so before d row) (so d last leads)

-- ---- the first refused class

module _ (P : Tables) (verdicts : List Verdict) (whole : length verdicts ≡ length P.classes) where
  marked_at : (verdicts : List Verdict) (e : ℕ) (verdict : Verdict) → slice_get verdicts e ≡ Some verdict
      → slice_index_or (map is_refused verdicts) e false ≡ is_refused verdict
  marked_at [] e verdict at = absurd cc
  marked_at (v ∷ verdicts) zero verdict at = (let same : v ≡ verdict = cc in ap is_refused same)
  marked_at (v ∷ verdicts) (suc e) verdict at = marked_at verdicts e verdict at

  there : (verdicts : List Verdict) (e : ℕ) → e < length verdicts → (verdict : Verdict)
      × (slice_get verdicts e ≡ Some verdict)
  there [] e low = absurd (omega (arith, low))
  there (v ∷ verdicts) zero low = (v, refl)
  there (v ∷ verdicts) (suc e) low = there verdicts e (omega (arith, low))

  accepted_or : (e : ℕ) → e < length P.classes
      → IsAccepted verdicts e ⊎ IsTrue (slice_index_or (map is_refused verdicts) e false)
  accepted_or e low =
      (let (verdict, at) = there verdicts e (omega (arith, low, whole)) in by verdict at)
    where
      by : (verdict : Verdict) → slice_get verdicts e ≡ Some verdict
          → IsAccepted verdicts e ⊎ IsTrue (slice_index_or (map is_refused verdicts) e false)
      by (Wave n) at = inl (n, at)
      by (Refused reason) at = inr (marked_at verdicts e (Refused reason) at)

  refused_not : (e : ℕ) → IsTrue (slice_index_or (map is_refused verdicts) e false) → ¬ IsAccepted verdicts e
  refused_not e marked (n, at) =
      (let none : false ≡ true = sym (marked_at verdicts e (Wave n) at) ∙ marked in absurd cc)

  first_use : (c : ℕ) (first : Option ℕ) → IsFirst (IsRefusedUse P (map is_refused verdicts) c) first
      → IsFirstUse P verdicts c first
  first_use c None none = λ e used. elim (accepted_or e used.0) [
    | inl accepted ↦ accepted
    | inr marked ↦ absurd (none e (used, marked))
  ]
  first_use c (Some e) ((used, marked), least) = (
    used,
    refused_not e marked,
    λ d also refused. elim (accepted_or d also.0) [
      | inl accepted ↦ absurd (refused accepted)
      | inr mark ↦ least d (also, mark)
    ],
  )

  pub first_uses : (refused : List Bool) (first : List (Option ℕ)) → refused ≡ map is_refused verdicts
      → AreFirstRefused P refused first → AreFirstUses P verdicts first
  first_uses refused first is are c low =
      first_use c (slice_index_or first c None)
      (subst (λ (l : List Bool). IsFirst (IsRefusedUse P l c) (slice_index_or first c None)) is (are.each c low))

-- ---- the next in a chain

depended_so : (verdict : Verdict) (e : ℕ) → depended verdict ≡ Some e → verdict ≡ Refused (reasons.DependsOn e)
depended_so (Wave n) e is = absurd cc
depended_so (Refused reasons.Forced) e is = absurd cc
depended_so (Refused (reasons.Marked mark)) e is = absurd cc
depended_so (Refused reasons.Cycle) e is = absurd cc
depended_so (Refused (reasons.DependsOn d)) e is = (let same : d ≡ e = cc in
    ap (λ (n : ℕ). Refused (reasons.DependsOn n)) same)
depended_so (Refused reasons.Raised) e is = absurd cc
depended_so (Refused reasons.ForeignObject) e is = absurd cc
depended_so (Refused reasons.Budget) e is = absurd cc
depended_so (Refused reasons.Faulted) e is = absurd cc

pub next_is : (verdicts : List Verdict) (c e : ℕ) → Some e ≡ option_and_then depended (slice_get verdicts c)
    → DependsOn verdicts c e
next_is verdicts c e is = by (slice_get verdicts c) refl
  where
    by : (o : Option Verdict) → slice_get verdicts c ≡ o → DependsOn verdicts c e
    by None at = absurd (let none : Some e ≡ None = is ∙ ap (option_and_then depended) at in cc)
    by (Some verdict) at = at ∙ ap (λ (v : Verdict). Some v)
        (depended_so verdict e (sym (is ∙ ap (option_and_then depended) at)))

-- where what a class depends on it uses, a chain is one of uses
pub chain_uses : (P : Tables) (verdicts : List Verdict) (c : ℕ) (chain : List ℕ) (last : ℕ)
    → Chained (DependsOn verdicts) c chain last → DependOnUses P verdicts
    → (last : ℕ) × Chained (IsUse P) c chain last
chain_uses P verdicts c chain last row so = (last, chained_so (DependsOn verdicts) (IsUse P) c so chain last row)
