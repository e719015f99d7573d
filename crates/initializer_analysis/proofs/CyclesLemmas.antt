-- Which classes use themselves by way of others, by the classes of each component.
use Rattle.std.proofs.Common.{◌≡◌, ◌≢◌, ◌↔◌, ◌⊎◌, ℕ, ◌+◌, ◌<◌, Bool}
use Rattle.std.proofs.Common.{List, length, replicate, IsTrue, Option, Some, None}
use Rattle.std.proofs.Common.{is_some, false, true, set, slice_index, slice_index_or, refl}
use Rattle.std.proofs.Common.{sym, ap, subst, ◌∙◌, inl, inr}
use Rattle.std.proofs.Common.{arith}
use Rattle.std.proofs.lemmas.Grind.{common_steps}
use Rattle.graph.specs.Rows.{Rows}
use Rattle.graph.specs.Components.{Parts, AreComponents}
use Rattle.program.specs.Tables.{Tables}
use Rattle.use_graph.specs.declared.whole_program.UseGraph.{UseGraph}
use Rattle.use_graph.specs.steps.Bodies.{IsUseGraph}
use Rattle.initializer_analysis.specs.declared.labels.Least.{Least}
use Rattle.initializer_analysis.specs.Least.{IsFirst, AreLeast, IsOf}
use Rattle.initializer_analysis.specs.steps.LeastReached.{no_labels, IsOwn}
use Rattle.initializer_analysis.specs.steps.OwnReasons.{AreOnCycles}
use Rattle.initializer_analysis.specs.steps.Dependence.{vertex_of, IsDependence}
use Rattle.initializer_analysis.specs.steps.Cycles.{IsMember, HaveMembers, AddsMember, HasOther, AreOthers}
use Rattle.initializer_analysis.proofs.LeastLemmas.{AreLeast-stands, AreLeast-same, Stands-joined}
use Rattle.initializer_analysis.proofs.LeastLemmas.{Stands-least, Stands-itself}
use Rattle.initializer_analysis.proofs.LeastLemmas.{IsFirst-of_least}
use Rattle.initializer_analysis.proofs.DependenceLemmas.{cycle_of_two, two_on_cycle}

-- ---- a table by numbers

pub adds_member : (number c : ℕ) (old : List Least) (more : Least) → number < length old
    → AreLeast (λ l. IsOf (slice_index_or old number no_labels) l ⊎ (l ≡ c)) more
    → AddsMember number c old (set old number more)
adds_member number c old more low least = record {
  len = len;
  here = subst (λ (x : Least). AreLeast (λ l. IsOwn old number l ⊎ (l ≡ c)) x) (sym here) least;
  others = others;
}
  where
    len : length (set old number more) ≡ length old
    len = grind (arith, common_steps)

    here : slice_index_or (set old number more) number no_labels ≡ more
    here = grind (arith, common_steps)

    others : (n : ℕ) → n ≢ number → slice_index_or (set old number more) n no_labels ≡ slice_index_or old n no_labels
    others n other = grind (arith, common_steps)

module _ (uses : UseGraph) (numbers : List ℕ) where
  pub members_none : (count : ℕ) → HaveMembers uses numbers 0 (replicate count no_labels)
  members_none count number low = subst (λ (x : Least). AreLeast (IsMember uses numbers 0 number) x) (sym none)
      (record { first = λ l is. absurd (omega (arith, is.0)); second = λ l is. absurd (omega (arith, is.0.0)) })
    where
      none : slice_index_or (replicate count no_labels) number no_labels ≡ no_labels
      none = grind (arith, common_steps)

  same_or : (a b : ℕ) → (a ≡ b) ⊎ (a ≡ b → ⊥)
  same_or a b = grind arith

  pub members_more : (c : ℕ) (old new : List Least) → HaveMembers uses numbers c old
      → AddsMember (slice_index numbers (vertex_of uses c)) c old new
      → HaveMembers uses numbers (c + 1) new
  members_more c old new have adds number low = by (same_or number (slice_index numbers (vertex_of uses c)))
    where
      here : ℕ
      here = slice_index numbers (vertex_of uses c)

      was : AreLeast (IsMember uses numbers c number) (slice_index_or old number no_labels)
      was = have number (omega (arith, adds.len))

      below_or : (l : ℕ) → l < c + 1 → (l < c) ⊎ (l ≡ c)
      below_or l h = grind arith

      by : (number ≡ slice_index numbers (vertex_of uses c)) ⊎ (number ≡ slice_index numbers (vertex_of uses c) → ⊥)
          → AreLeast (IsMember uses numbers (c + 1) number) (slice_index_or new number no_labels)
      by (inl same) =
          AreLeast-same (λ l. IsMember uses numbers c number l ⊎ (l ≡ c)) (IsMember uses numbers (c + 1) number)
          (slice_index_or new number no_labels)
          (λ l h. elim h [
            | inl (less, is) ↦ (omega arith, is)
            | inr last ↦ (omega arith, ap (λ (x : ℕ). slice_index numbers (vertex_of uses x)) last ∙ sym same)
          ])
          (λ l (less, is). elim (below_or l less) [ inl under ↦ inl (under, is) | inr last ↦ inr last ])
          (AreLeast-stands (λ l. IsOwn old number l ⊎ (l ≡ c)) (λ l. IsMember uses numbers c number l ⊎ (l ≡ c))
          (slice_index_or new number no_labels)
          (Stands-joined (IsOwn old number) (λ l. l ≡ c) (IsMember uses numbers c number) (λ l. l ≡ c)
          (Stands-least (IsMember uses numbers c number) (slice_index_or old number no_labels) was)
          (Stands-itself (λ l. l ≡ c)))
          (subst (λ (n : ℕ). AreLeast (λ l. IsOwn old n l ⊎ (l ≡ c)) (slice_index_or new n no_labels)) (sym same)
          adds.here))
      by (inr other) =
          subst (λ (x : Least). AreLeast (IsMember uses numbers (c + 1) number) x) (sym (adds.others number other))
          (AreLeast-same (IsMember uses numbers c number) (IsMember uses numbers (c + 1) number)
          (slice_index_or old number no_labels)
          (λ l (less, is). (omega arith, is))
          (λ l (less, is). elim (below_or l less) [
            | inl under ↦ (under, is)
            | inr last ↦ absurd (other (sym is ∙ ap (λ (x : ℕ). slice_index numbers (vertex_of uses x)) last))
          ]) was)

  -- ---- another class of the same number

  pub other_found : (limit c : ℕ) (least : Least) (found : Option ℕ)
      → AreLeast (IsMember uses numbers limit (slice_index numbers (vertex_of uses c))) least
      → IsFirst (λ l. IsOf least l × (l ≢ c)) found → IsTrue (is_some found) ↔ HasOther uses numbers limit c
  other_found limit c least found are is = by found (IsFirst-of_least Member least c found are is)
    where
      Member : ℕ → Type 0
      Member = IsMember uses numbers limit (slice_index numbers (vertex_of uses c))

      by : (o : Option ℕ)
          → IsFirst (λ l. IsMember uses numbers limit (slice_index numbers (vertex_of uses c)) l × (l ≢ c)) o
          → IsTrue (is_some o) ↔ HasOther uses numbers limit c
      by None none =
          (λ t. absurd (let h : false ≡ true = t in cc), λ (d, member, other). absurd (none d (member, other)))
      by (Some d) ((member, other), least) = (λ t. (d, member, other), λ h. refl)

-- ---- cycles of uses

pub are_on_cycles : (P : Tables) (uses : UseGraph) (graph : Rows) (parts : Parts) (on_cycle : List Bool)
    → IsUseGraph P uses → IsDependence P uses graph → AreComponents graph parts
    → AreOthers uses parts.numbers (length P.classes) on_cycle → AreOnCycles P on_cycle
are_on_cycles P uses graph parts on_cycle whole is are others = record {
  count = others.count;
  each = λ c low. (
    λ yes. (let (d, (less, same), other) = (others.each c low).0 yes in
        two_on_cycle P uses graph whole is c d low less other
        ((are.shared (vertex_of uses c) (vertex_of uses d) (below c low) (below d less)).0 (sym same))),
    λ cycle. (let (d, other, less, two_ways) = cycle_of_two P uses graph whole is c low cycle in
        (others.each c low).1 (
          d,
          (
            less,
            sym ((are.shared (vertex_of uses c) (vertex_of uses d) (below c low) (below d less)).1 two_ways),
          ),
          other,
        )),
  );
}
  where
    below : (c : ℕ) → c < length P.classes → vertex_of uses c < length graph
    below c low = omega (arith, is.vertices)
