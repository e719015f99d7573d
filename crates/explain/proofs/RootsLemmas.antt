-- The ends of chains.
use Rattle.std.proofs.Common.{◌≡◌, ◌⊎◌, ℕ, zero, suc, ◌<◌, List, [], ◌∷◌, ◌++◌, length, get_or, set}
use Rattle.std.proofs.Common.{Some, slice_get, refl, sym, ap, subst, inl, inr, arith}
use Rattle.initializer_analysis.specs.declared.verdict.Verdict.{Verdict}
use Rattle.explain.specs.Chains.{Chained, alone, on, DependsOn, Leads}
use Rattle.explain.specs.steps.Roots.{AreRoots}

-- ---- one chain after another

chained_on : (L : ℕ → ℕ → Type 0) (c d e : ℕ) (before after : List ℕ) → Chained L c before d → Chained L d after e
    → (chain : List ℕ) × Chained L c chain e
chained_on L c d e before after first alone = (before, first)
chained_on L c d e before after first (on {chain = row} {d = last} rest leads) =
    (let (chain, so_far) = chained_on L c d last before row first rest in (chain ++ e ∷ [], on so_far leads))

pub leads_self : (verdicts : List Verdict) (c : ℕ) → Leads verdicts c c
leads_self verdicts c = (c ∷ [], alone)

pub leads_one : (verdicts : List Verdict) (c e : ℕ) → DependsOn verdicts c e → Leads verdicts c e
leads_one verdicts c e depends = (c ∷ e ∷ [], on alone depends)

pub leads_on : (verdicts : List Verdict) (c d e : ℕ) → Leads verdicts c d → Leads verdicts d e → Leads verdicts c e
leads_on verdicts c d e (before, first) (after, rest) =
    chained_on (DependsOn verdicts) c d e before after first rest

-- ---- what stands where

get_push : (xs : List ℕ) (x c e : ℕ) → slice_get (xs ++ x ∷ []) c ≡ Some e
    → (slice_get xs c ≡ Some e) ⊎ ((c ≡ length xs) × (e ≡ x))
get_push [] x zero e at = (let same : e ≡ x = cc in inr (refl, same))
get_push [] x (suc c) e at = absurd cc
get_push (y ∷ xs) x zero e at = inl at
get_push (y ∷ xs) x (suc c) e at = elim (get_push xs x c e at) [
  | inl before ↦ inl before
  | inr last ↦ inr (ap suc last.0, last.1)
]

get_set : (xs : List ℕ) (i y c e : ℕ) → slice_get (set xs i y) c ≡ Some e
    → (slice_get xs c ≡ Some e) ⊎ ((c ≡ i) × (e ≡ y))
get_set [] i y c e at = inl at
get_set (x ∷ xs) zero y zero e at = (let same : e ≡ y = cc in inr (refl, same))
get_set (x ∷ xs) zero y (suc c) e at = inl at
get_set (x ∷ xs) (suc i) y zero e at = inl at
get_set (x ∷ xs) (suc i) y (suc c) e at = elim (get_set xs i y c e at) [
  | inl before ↦ inl before
  | inr here ↦ inr (ap suc here.0, here.1)
]

pub at_or : {A : Type 0} (xs : List A) (i : ℕ) (other : A) → i < length xs → slice_get xs i ≡ Some (get_or xs i other)
at_or [] i other low = absurd (omega (arith, low))
at_or (x ∷ xs) zero other low = refl
at_or (x ∷ xs) (suc i) other low = at_or xs i other (omega (arith, low))

-- ---- roots

pub roots_push : (verdicts : List Verdict) (roots : List ℕ) (root : ℕ) → AreRoots verdicts roots
    → Leads verdicts (length roots) root → AreRoots verdicts (roots ++ root ∷ [])
roots_push verdicts roots root are leads c e at = elim (get_push roots root c e at) [
  | inl before ↦ are c e before
  | inr last ↦
      subst (λ (n : ℕ). Leads verdicts n e) (sym last.0)
      (subst (λ (n : ℕ). Leads verdicts (length roots) n) (sym last.1) leads)
]

pub roots_set : (verdicts : List Verdict) (roots : List ℕ) (place root : ℕ) → AreRoots verdicts roots
    → Leads verdicts place root → AreRoots verdicts (set roots place root)
roots_set verdicts roots place root are leads c e at = elim (get_set roots place root c e at) [
  | inl before ↦ are c e before
  | inr here ↦
      subst (λ (n : ℕ). Leads verdicts n e) (sym here.0)
      (subst (λ (n : ℕ). Leads verdicts place n) (sym here.1) leads)
]
