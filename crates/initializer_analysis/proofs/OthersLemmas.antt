-- What is found of classes, one after another.
use Rattle.std.proofs.Common.{◌≡◌, ◌↔◌, ◌⊎◌, ℕ, ◌+◌, ◌<◌, Bool, false}
use Rattle.std.proofs.Common.{IsTrue, List, [], ◌∷◌, ◌++◌, length}
use Rattle.std.proofs.Common.{slice_index_or, sym, ap, subst, inl, inr, arith}
use Rattle.std.proofs.lemmas.Grind.{common_steps}
use Rattle.std.proofs.lemmas.List.{length_push}
use Rattle.use_graph.specs.declared.whole_program.UseGraph.{UseGraph}
use Rattle.initializer_analysis.specs.steps.Cycles.{HasOther}

-- ---- lists that grow at their end

module _ {A : Type 0} (xs : List A) (x d : A) where
  pub pushed_before : (k : ℕ) → k < length xs → slice_index_or (xs ++ x ∷ []) k d ≡ slice_index_or xs k d
  pushed_before k low = grind (arith, common_steps)

  pub pushed_at : (k : ℕ) → k ≡ length xs → slice_index_or (xs ++ x ∷ []) k d ≡ x
  pushed_at k is = grind (arith, common_steps)

  pub below_or_last : (k n : ℕ) → k < n + 1 → (k < n) ⊎ (k ≡ n)
  below_or_last k n low = grind arith

-- something holds of each place below a limit, as that of a list says
pub record HoldsBelow {A : Type 0} (Q : ℕ → A → Type 0) (d : A) (limit : ℕ) (xs : List A) : Type 0 where
  pub count : length xs ≡ limit
  pub each : (c : ℕ) → c < limit → Q c (slice_index_or xs c d)

module _ {A : Type 0} (Q : ℕ → A → Type 0) (d : A) where
  pub holds_none : (xs : List A) → xs ≡ [] → HoldsBelow Q d 0 xs
  holds_none xs none = record { count = ap length none; each = λ c low. absurd (omega arith) }

  pub holds_more : (c : ℕ) (old new : List A) (x : A) → HoldsBelow Q d c old → new ≡ old ++ x ∷ [] → Q c x
      → HoldsBelow Q d (c + 1) new
  holds_more c old new x h is here = record {
    count = (let e : length new ≡ length (old ++ x ∷ []) = ap length is in
        let l = length_push old x in omega (arith, h.count));
    each = λ k low. subst (λ (xs : List A). Q k (slice_index_or xs k d)) (sym is)
        (elim (below_or_last old x d k c low) [
          | inl less ↦ subst (Q k) (sym (pushed_before old x d k (omega (arith, h.count)))) (h.each k less)
          | inr last ↦ subst (λ (n : ℕ). Q n (slice_index_or (old ++ x ∷ []) n d)) (sym last)
              (subst (Q c) (sym (pushed_at old x d c (sym h.count))) here)
        ]);
  }

-- ---- other classes of a component

abbrev pub TellsOther : UseGraph → List ℕ → ℕ → ℕ → Bool → Type 0
TellsOther uses numbers limit c b = IsTrue b ↔ HasOther uses numbers limit c

abbrev pub AreOthersBelow : UseGraph → List ℕ → ℕ → ℕ → List Bool → Type 0
AreOthersBelow uses numbers limit c on_cycle = HoldsBelow (TellsOther uses numbers limit) false c on_cycle
