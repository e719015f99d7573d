-- A row read class by class.
use Rattle.std.proofs.Common.{◌≡◌, ℕ, suc, ◌≤◌, List, [], ◌∷◌, ◌++◌, length, Option, Some, None, slice_get, refl, sym}
use Rattle.std.proofs.Common.{ap, ◌∙◌, subst, append_assoc, pred, arith}
use Rattle.hierarchy.specs.steps.DepthFirst.{IsRow}

-- one class was read, or none is left
abbrev pub Reads : List (Option ℕ) → List ℕ → List ℕ → List ℕ → Option ℕ → Type 0
Reads behind old new cs after = (rest : List ℕ) × IsRow behind after rest × (new ++ rest ≡ old ++ cs)
    × (length cs ≤ suc (length rest)) × (length rest ≤ pred (length cs))

pub reads_one : (behind : List (Option ℕ)) (at : Option ℕ) (cs old new : List ℕ) (c : ℕ) (after : Option ℕ)
    → IsRow behind at cs → at ≡ Some c → slice_get behind c ≡ Some after → new ≡ old ++ c ∷ []
    → Reads behind old new cs after
reads_one behind at [] old new c after row is found pushed =
    let clash : None ≡ Some c = sym row ∙ is in absurd cc
reads_one behind at (x ∷ xs) old new c after row is found pushed =
    let heads : Some x ≡ Some c = sym row.0 ∙ is in
    let head : x ≡ c = cc in
    let nexts : Some row.1 ≡ Some after = sym row.2 ∙ ap (slice_get behind) head ∙ found in
    let next : row.1 ≡ after = cc in (
      xs,
      subst (λ f. IsRow behind f xs) next row.3,
      ap (λ l. l ++ xs) pushed ∙ append_assoc old (c ∷ []) xs ∙ ap (λ y. old ++ y ∷ xs) (sym head),
      omega arith,
      omega arith,
    )

pub reads_none : (behind : List (Option ℕ)) (at : Option ℕ) (cs old : List ℕ)
    → IsRow behind at cs → ((c : ℕ) (after : Option ℕ) → at ≡ Some c → slice_get behind c ≡ Some after → ⊥)
    → Reads behind old old cs None
reads_none behind at [] old row none = ([], refl, refl, omega arith, omega arith)
reads_none behind at (x ∷ xs) old row none = absurd (none x row.1 row.0 row.2)
