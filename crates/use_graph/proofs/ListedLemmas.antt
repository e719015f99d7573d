-- The methods of some vertices, listed once.
use Rattle.std.proofs.Common.{◌≡◌, ◌⊎◌, ℕ, ◌+◌, ◌<◌, List, [], ◌∷◌, ◌++◌, length, Some}
use Rattle.std.proofs.Common.{slice_get, slice_index, sym, ap, subst, ◌∙◌, inl, inr, arith}
use Rattle.std.proofs.lemmas.Option.{slice_get_within}
use Rattle.graph.specs.Seen.{AreDistinct}
use Rattle.graph.proofs.NumberingLemmas.{apart}
use Rattle.hierarchy.specs.declared.member.DeclaredMember.{DeclaredMember}
use Rattle.use_graph.specs.Uses.{StandOnce}
use Rattle.use_graph.specs.steps.Searching.{AddsMethod}
use Rattle.use_graph.proofs.NumbersLemmas.{push_cases}

-- methods of the first so many vertices, none at two places
pub record ListedBelow (methods : List DeclaredMember) (reached : List ℕ) (place : ℕ) (found : List DeclaredMember) :
    Type 0 where
  pub once : StandOnce found
  pub each : (i : ℕ) (m : DeclaredMember) → slice_get found i ≡ Some m
      → (p : ℕ) × (p < place) × (slice_get methods (slice_index reached p) ≡ Some m)

pub listed_none : (methods : List DeclaredMember) (reached : List ℕ) (found : List DeclaredMember) → found ≡ []
    → ListedBelow methods reached 0 found
listed_none methods reached found none = record {
  once = λ i j m here there. absurd (nothing i m here);
  each = λ i m here. absurd (nothing i m here);
}
  where
    nothing : (i : ℕ) (m : DeclaredMember) → slice_get found i ≡ Some m → ⊥
    nothing i m here =
        let low = slice_get_within found i m here in
        let count : length found ≡ 0 = ap length none in omega (arith, low, count)

module _ (methods : List DeclaredMember) (reached : List ℕ) (place : ℕ) (old : List DeclaredMember)
    (distinct : AreDistinct reached) (low : place < length reached) (numbered : StandOnce methods)
    (listed : ListedBelow methods reached place old) where
  -- what was listed stands at an earlier vertex
  not_listed : (m : DeclaredMember) (i : ℕ) → slice_get methods (slice_index reached place) ≡ Some m
      → slice_get old i ≡ Some m → ⊥
  not_listed m i at was =
      let (p, before, same) = listed.each i m was in
      apart reached p place distinct before low
      (numbered (slice_index reached p) (slice_index reached place) m same at)

  earlier : (i : ℕ) (m : DeclaredMember) → slice_get old i ≡ Some m
      → (p : ℕ) × (p < place + 1) × (slice_get methods (slice_index reached p) ≡ Some m)
  earlier i m was = (let (p, before, same) = listed.each i m was in (p, omega (arith, before), same))

  pushed : (m : DeclaredMember) → slice_get methods (slice_index reached place) ≡ Some m
      → ListedBelow methods reached (place + 1) (old ++ m ∷ [])
  pushed m at = record {
    once = λ i j x here there. by i j x (push_cases old m x i here) (push_cases old m x j there);
    each = λ i x here. elim (push_cases old m x i here) [
      | inl was ↦ earlier i x was
      | inr (end, is) ↦ (place, omega arith, at ∙ ap Some is)
    ];
  }
    where
      by : (i j : ℕ) (x : DeclaredMember) → (slice_get old i ≡ Some x) ⊎ ((i ≡ length old) × (m ≡ x))
          → (slice_get old j ≡ Some x) ⊎ ((j ≡ length old) × (m ≡ x)) → i ≡ j
      by i j x (inl a) (inl b) = listed.once i j x a b
      by i j x (inl a) (inr (end, is)) = absurd (not_listed x i (at ∙ ap Some is) a)
      by i j x (inr (end, is)) (inl b) = absurd (not_listed x j (at ∙ ap Some is) b)
      by i j x (inr (a, is)) (inr (b, same)) = a ∙ sym b

  pub listed_more : (new : List DeclaredMember) → AddsMethod methods (slice_index reached place) old new
      → ListedBelow methods reached (place + 1) new
  listed_more new (inl same) =
      subst (λ (xs : List DeclaredMember). ListedBelow methods reached (place + 1) xs) (sym same)
      (record { once = listed.once; each = earlier })
  listed_more new (inr (m, at, is)) =
      subst (λ (xs : List DeclaredMember). ListedBelow methods reached (place + 1) xs) (sym is) (pushed m at)
