-- Fields of a class, counted one by one, as each is given how many stand before it.
use Rattle.std.proofs.Common.{◌≡◌, ℕ, ◌+◌, ◌<◌, Bool, true, false, List, [], ◌∷◌, ◌++◌, length}
use Rattle.std.proofs.Common.{take, get_or, Some, slice_get, sym, ap, ◌∙◌, inl, inr, arith}
use Rattle.std.specs.List.{count_by}
use Rattle.std.proofs.lemmas.Bool.{cases_eq}
use Rattle.std.proofs.lemmas.List.Sums.{count_by_more_yes, count_by_more_no}
use Rattle.classfile.specs.declared.member.Member.{Member}
use Rattle.loading.proofs.PlaceLemmas.{kept_at, last_at}

-- the next number is at its place, and those before it stay
pub numbers_next : (of_place : ℕ → ℕ) (numbers new : List ℕ) (i last : ℕ) → length numbers ≡ i → last ≡ of_place i
    → ((k : ℕ) → k < i → slice_get numbers k ≡ Some (of_place k)) → new ≡ numbers ++ last ∷ [] → (k : ℕ) → k < i + 1
    → slice_get new k ≡ Some (of_place k)
numbers_next of_place numbers new i last count is was e k small = elim (cases_eq k i) [
  | inl same ↦ (let at : k ≡ length numbers = same ∙ sym count in
      ap (λ (xs : List ℕ). slice_get xs k) e ∙ ap (slice_get (numbers ++ last ∷ [])) at
      ∙ last_at numbers last ∙ ap Some (is ∙ ap of_place (sym same)))
  | inr other ↦ ap (λ (xs : List ℕ). slice_get xs k) e
      ∙ kept_at numbers last (of_place k) k (was k (omega arith))
]

-- one more field, by whether it passes the test
module _ (test : Member → Bool) (fields items : List Member) (i : ℕ) (field : Member) (passes : Bool)
    (are : items ≡ fields) (within : i < length items) (is : field ≡ get_or items i field)
    (tested : passes ≡ test field)
  where
    pub is_tested : test (get_or fields i field) ≡ passes
    is_tested = sym (tested ∙ ap test (is ∙ ap (λ (xs : List Member). get_or xs i field) are))

    still_within : i < length fields
    still_within = omega (arith, within, ap length are)

    pub counts : passes ≡ true → count_by test (take (i + 1) fields) ≡ count_by test (take i fields) + 1
    counts e = count_by_more_yes test fields i field still_within (is_tested ∙ e)

    pub counts_not : passes ≡ false → count_by test (take (i + 1) fields) ≡ count_by test (take i fields)
    counts_not e = count_by_more_no test fields i field still_within (is_tested ∙ e)
