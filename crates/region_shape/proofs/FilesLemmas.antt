-- The class files of all classes.
use Rattle.std.proofs.Common.{◌≡◌, ℕ, ◌+◌, ◌<◌, ◌≤◌, inl, inr, length, Some, None, sym, ap, subst, ◌∙◌, arith}
use Rattle.std.proofs.lemmas.Bool.{cases_lt}
use Rattle.std.proofs.lemmas.Option.{slice_get_past}
use Rattle.loading.specs.Families.{file_of}
use Rattle.program.specs.Tables.{Tables}
use Rattle.region_shape.specs.Laws.{IsFromFile}

module _ (P : Tables) where
  pub from_files_more : (n : ℕ) → ((c : ℕ) → c < n → IsFromFile P c) → IsFromFile P n → (c : ℕ) → c < n + 1
      → IsFromFile P c
  from_files_more n before here c low = elim (cases_lt c n) [
    | inl less ↦ before c less
    | inr high ↦ (let same : c ≡ n = omega arith in subst (λ d. IsFromFile P d) (sym same) here)
  ]

  pub from_files_all : (n : ℕ) → length P.family ≤ n → ((c : ℕ) → c < n → IsFromFile P c) → (c : ℕ)
      → IsFromFile P c
  from_files_all n all before c f at = elim (cases_lt c n) [
    | inl less ↦ before c less f at
    | inr high ↦ absurd (let none : file_of None ≡ Some f =
        ap file_of (sym (slice_get_past P.family c (omega (arith, all)))) ∙ at in cc)
  ]
