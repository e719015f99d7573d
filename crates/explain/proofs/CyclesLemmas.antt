-- Other classes of a component, and cycles of uses.
use Rattle.std.proofs.Common.{◌≡◌, ◌≢◌, ◌∙◌, ◌⊎◌, ℕ, ◌+◌, ◌<◌, List, length, replicate, set, Option, Some, None, arith}
use Rattle.std.proofs.Common.{true, false, is_some, slice_index, slice_index_or, refl, sym, ap, subst, inl, inr}
use Rattle.std.proofs.lemmas.Grind.{common_steps}
use Rattle.std.specs.List.{All}
use Rattle.std.proofs.lemmas.List.{length-replicate}
use Rattle.std.proofs.lemmas.List.Elements.{All-get_or}
use Rattle.graph.specs.Rows.{Rows}
use Rattle.graph.specs.Components.{Parts, AreComponents}
use Rattle.program.specs.Tables.{Tables}
use Rattle.use_graph.specs.declared.whole_program.UseGraph.{UseGraph}
use Rattle.use_graph.specs.steps.Bodies.{IsUseGraph}
use Rattle.initializer_analysis.specs.steps.Cycles.{IsMember}
use Rattle.initializer_analysis.specs.steps.Dependence.{vertex_of, IsDependence}
use Rattle.initializer_analysis.proofs.DependenceLemmas.{cycle_of_two, reached_along}
use Rattle.explain.specs.Explanations.{AreCycles, IsCycle}
use Rattle.explain.specs.steps.Pairs.{AreOthers, HasPair, HavePairs, IsOther}
use Rattle.explain.proofs.PairsLemmas.{pair_first, pair_second, pair_both, pair_same, pair_none}

pub none_of : (o : Option ℕ) → is_some o ≡ false → o ≡ None
none_of None none = refl
none_of (Some x) none = absurd cc

pub some_of : (o : Option ℕ) → is_some o ≡ true → (x : ℕ) × (o ≡ Some x)
some_of None some = absurd cc
some_of (Some x) some = (x, refl)

-- the number of a class's component
pub number_low : (uses : UseGraph) (numbers : List ℕ) (c number : ℕ) → vertex_of uses c < length numbers
    → All (λ n. n < length numbers) numbers → number ≡ slice_index numbers (vertex_of uses c)
    → number < length numbers
number_low uses numbers c number vertex below is = subst (λ (n : ℕ). n < length numbers) (sym is)
    (All-get_or (λ n. n < length numbers) numbers (vertex_of uses c) 0 vertex below)

set_here : (xs : List (Option ℕ)) (n : ℕ) (x : Option ℕ) → n < length xs → slice_index_or (set xs n x) n None ≡ x
set_here xs n x low = grind (arith, common_steps)

set_other : (xs : List (Option ℕ)) (n m : ℕ) (x : Option ℕ) → m ≢ n
    → slice_index_or (set xs n x) m None ≡ slice_index_or xs m None
set_other xs n m x other = grind (arith, common_steps)

set_len : (xs : List (Option ℕ)) (n : ℕ) (x : Option ℕ) → length (set xs n x) ≡ length xs
set_len xs n x = grind (arith, common_steps)

none_at : (xs : List (Option ℕ)) (count n : ℕ) → n < count → xs ≡ replicate count None
    → slice_index_or xs n None ≡ None
none_at xs count n low is = grind (arith, common_steps)

same_or : (a b : ℕ) → (a ≡ b) ⊎ (a ≢ b)
same_or a b = grind arith

below_or : (c d : ℕ) → d < c + 1 → (d < c) ⊎ (d ≡ c)
below_or c d low = grind arith

module _ (uses : UseGraph) (numbers : List ℕ) where
  pub have_none : (firsts seconds : List (Option ℕ)) → firsts ≡ replicate (length numbers) None
      → seconds ≡ replicate (length numbers) None → HavePairs uses numbers 0 firsts seconds
  have_none firsts seconds none also = record {
    len = ap length none ∙ length-replicate (length numbers) None;
    also = ap length also ∙ length-replicate (length numbers) None;
    each = λ n low. rw (none_at firsts (length numbers) n low none, none_at seconds (length numbers) n low also)
        (pair_none (IsMember uses numbers 0 n) (λ d (small, is). omega (arith, small)));
  }

  module _ (c number : ℕ) (firsts seconds : List (Option ℕ)) (have : HavePairs uses numbers c firsts seconds)
      (low : number < length numbers) (is : number ≡ slice_index numbers (vertex_of uses c)) where
    keeps : (n d : ℕ) → IsMember uses numbers c n d → IsMember uses numbers (c + 1) n d
    keeps n d (small, same) = (omega (arith, small), same)

    joins : IsMember uses numbers (c + 1) number c
    joins = (omega arith, sym is)

    only : (n d : ℕ) → IsMember uses numbers (c + 1) n d → IsMember uses numbers c n d ⊎ (d ≡ c)
    only n d (small, same) = elim (below_or c d small) [ inl less ↦ inl (less, same) | inr last ↦ inr last ]

    fresh : (n : ℕ) → ¬ IsMember uses numbers c n c
    fresh n (small, same) = omega (arith, small)

    back : (n d : ℕ) → n ≢ number → IsMember uses numbers (c + 1) n d → IsMember uses numbers c n d
    back n d other (small, same) = elim (below_or c d small) [
      | inl less ↦ (less, same)
      | inr last ↦ absurd (other (sym same ∙ ap (λ (x : ℕ). slice_index numbers (vertex_of uses x)) last ∙ sym is))
    ]

    kept : (n : ℕ) → n < length numbers → n ≢ number
        → HasPair (IsMember uses numbers (c + 1) n) (slice_index_or firsts n None) (slice_index_or seconds n None)
    kept n small other = pair_same (IsMember uses numbers c n) (IsMember uses numbers (c + 1) n)
        (slice_index_or firsts n None) (slice_index_or seconds n None) (keeps n) (λ d. back n d other)
        (have.each n small)

    pub have_first : slice_index_or firsts number None ≡ None
        → HavePairs uses numbers (c + 1) (set firsts number (Some c)) seconds
    have_first none = record {
      len = set_len firsts number (Some c) ∙ have.len;
      also = have.also;
      each = λ n small. elim (same_or n number) [
        | inl same ↦ rw same (rw (set_here firsts number (Some c) (omega (arith, low, have.len)))
            (pair_first (IsMember uses numbers c number) (IsMember uses numbers (c + 1) number) c (keeps number) joins
            (only number) (fresh number) (slice_index_or seconds number None)
            (subst (λ (o : Option ℕ). HasPair (IsMember uses numbers c number) o (slice_index_or seconds number None))
            none (have.each number low))))
        | inr other ↦ rw (set_other firsts number n (Some c) other) (kept n small other)
      ];
    }

    pub have_second : (first : ℕ) → slice_index_or firsts number None ≡ Some first
        → slice_index_or seconds number None ≡ None
        → HavePairs uses numbers (c + 1) firsts (set seconds number (Some c))
    have_second first some none = record {
      len = have.len;
      also = set_len seconds number (Some c) ∙ have.also;
      each = λ n small. elim (same_or n number) [
        | inl same ↦ rw same (rw (set_here seconds number (Some c) (omega (arith, low, have.also)), some)
            (pair_second (IsMember uses numbers c number) (IsMember uses numbers (c + 1) number) c (keeps number) joins
            (only number) (fresh number) first
            (subst (λ (o : Option ℕ). HasPair (IsMember uses numbers c number) (Some first) o) none
            (subst (λ (o : Option ℕ). HasPair (IsMember uses numbers c number) o (slice_index_or seconds number None))
            some (have.each number low)))))
        | inr other ↦ rw (set_other seconds number n (Some c) other) (kept n small other)
      ];
    }

    pub have_both : (first second : ℕ) → slice_index_or firsts number None ≡ Some first
        → slice_index_or seconds number None ≡ Some second → HavePairs uses numbers (c + 1) firsts seconds
    have_both first second some also = record {
      len = have.len;
      also = have.also;
      each = λ n small. elim (same_or n number) [
        | inl same ↦ rw same (rw (some, also)
            (pair_both (IsMember uses numbers c number) (IsMember uses numbers (c + 1) number) c (keeps number) joins
            (only number) (fresh number) first second
            (subst (λ (o : Option ℕ). HasPair (IsMember uses numbers c number) (Some first) o) also
            (subst (λ (o : Option ℕ). HasPair (IsMember uses numbers c number) o (slice_index_or seconds number None))
            some (have.each number low)))))
        | inr other ↦ kept n small other
      ];
    }

-- ---- cycles

pub are_cycles : (P : Tables) (uses : UseGraph) (graph : Rows) (parts : Parts) (others : List (Option ℕ))
    → IsUseGraph P uses → IsDependence P uses graph → AreComponents graph parts
    → AreOthers uses parts.numbers (length P.classes) others → AreCycles P others
are_cycles P uses graph parts others whole is are all c low = by (slice_index_or others c None) (all c low)
  where
    below : (d : ℕ) → d < length P.classes → vertex_of uses d < length graph
    below d less = omega (arith, is.vertices, less)

    by : (found : Option ℕ) → IsOther uses parts.numbers (length P.classes) c found → IsCycle P c found
    by None none = λ cycle. (let (d, other, less, both) = cycle_of_two P uses graph whole is c low cycle in
        other (none d
        (less, sym ((are.shared (vertex_of uses c) (vertex_of uses d) (below c low) (below d less)).1 both))))
    by (Some d) ((less, same), other) =
        let both = (are.shared (vertex_of uses c) (vertex_of uses d) (below c low) (below d less)).0 (sym same) in (
          other,
          reached_along P uses graph whole is c d low other both.0,
          reached_along P uses graph whole is d c less (λ e. other (sym e)) both.1,
        )
