-- The members of a set below a limit, the least first, but one.
use Rattle.std.proofs.Common.{◌≡◌, ◌≢◌, ◌↔◌, ◌⊎◌, ℕ, ◌+◌, ◌<◌, List, [], ◌∷◌, ◌++◌, length, slice_index, sym}
use Rattle.std.proofs.Common.{subst, inl, inr, arith}
use Rattle.std.specs.List.{Contains}
use Rattle.std.specs.List.Sorted.{IsStrictlyIncreasing}
use Rattle.std.proofs.lemmas.Grind.{common_steps}
use Rattle.std.proofs.lemmas.List.{length_push}
use Rattle.std.proofs.lemmas.List.Elements.{Contains-push_cases, Contains-push, Contains-append_left, Contains-get_or}
use Rattle.use_graph.specs.steps.Searching.{AddsOther}

pub record Others (used : List ℕ) (class limit : ℕ) (classes : List ℕ) : Type 0 where
  pub members : (e : ℕ) → Contains classes e ↔ ((e < limit) × (e ≢ class) × Contains used e)
  pub ascending : IsStrictlyIncreasing classes

below_or_last : (e limit : ℕ) → e < limit + 1 → (e < limit) ⊎ (e ≡ limit)
below_or_last e limit low = grind arith

pub others_skip : (used : List ℕ) (class limit : ℕ) (classes : List ℕ) → Others used class limit classes
    → ((limit ≢ class) → Contains used limit → ⊥) → Others used class (limit + 1) classes
others_skip used class limit classes o not = record {
  members = λ e. (
    λ p. (let (low, other, among) = (o.members e).0 p in (omega arith, other, among)),
    λ (low, other, among). elim (below_or_last e limit low) [
      | inl less ↦ (o.members e).1 (less, other, among)
      | inr same ↦ absurd (not (subst (λ (x : ℕ). x ≢ class) same other)
          (subst (λ (x : ℕ). Contains used x) same among))
    ],
  );
  ascending = o.ascending;
}

ascending_push : (xs : List ℕ) (b : ℕ) → ((e : ℕ) → Contains xs e → e < b) → IsStrictlyIncreasing xs
    → IsStrictlyIncreasing (xs ++ b ∷ [])
ascending_push xs b below up k low = by (cases k low)
  where
    cases : (k : ℕ) → k + 1 < length (xs ++ b ∷ []) → (k + 1 < length xs) ⊎ (k + 1 ≡ length xs)
    cases k low = (let n = rw length_push at low in split n)
      where
        split : k + 1 < length xs + 1 → (k + 1 < length xs) ⊎ (k + 1 ≡ length xs)
        split n = grind arith

    front : (j : ℕ) → j < length xs → slice_index (xs ++ b ∷ []) j ≡ slice_index xs j
    front j h = grind (arith, common_steps)

    end : (j : ℕ) → j ≡ length xs → slice_index (xs ++ b ∷ []) j ≡ b
    end j h = grind (arith, common_steps)

    by : (k + 1 < length xs) ⊎ (k + 1 ≡ length xs)
        → slice_index (xs ++ b ∷ []) k < slice_index (xs ++ b ∷ []) (k + 1)
    by (inl less) = (let u = up k less in omega (arith, front k (omega arith), front (k + 1) less, u))
    by (inr is) = (let u = below (slice_index xs k) (Contains-get_or xs k 0 (omega arith)) in
        omega (arith, front k (omega arith), end (k + 1) is, u))

pub others_push : (used : List ℕ) (class limit : ℕ) (classes new : List ℕ) → Others used class limit classes
    → new ≡ classes ++ limit ∷ [] → limit ≢ class → Contains used limit → Others used class (limit + 1) new
others_push used class limit classes new o is other among =
    subst (λ (l : List ℕ). Others used class (limit + 1) l) (sym is) (record {
      members = λ e. (
        λ p. elim (Contains-push_cases classes limit e p) [
          | inl was ↦ (let (low, so, there) = (o.members e).0 was in (omega arith, so, there))
          | inr same ↦ (
            omega arith,
            subst (λ (x : ℕ). x ≢ class) same other,
            subst (λ (x : ℕ). Contains used x) same among,
          )
        ],
        λ (low, so, there). elim (below_or_last e limit low) [
          | inl less ↦ Contains-append_left classes (limit ∷ []) e ((o.members e).1 (less, so, there))
          | inr same ↦ subst (λ (x : ℕ). Contains (classes ++ limit ∷ []) x) (sym same) (Contains-push classes limit)
        ],
      );
      ascending = ascending_push classes limit (λ e p. ((o.members e).0 p).0) o.ascending;
    })

pub others_next : (used : List ℕ) (class limit : ℕ) (classes new : List ℕ) → Others used class limit classes
    → AddsOther used class limit classes new → Others used class (limit + 1) new
others_next used class limit classes new o (inl (is, other, among)) =
    others_push used class limit classes new o is other among
others_next used class limit classes new o (inr (is, not)) =
    subst (λ (l : List ℕ). Others used class (limit + 1) l) (sym is) (others_skip used class limit classes o not)
