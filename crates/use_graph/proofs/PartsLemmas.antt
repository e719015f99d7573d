-- A graph of calls while it is made.
use Rattle.std.proofs.Common.{◌≡◌, ℕ, ◌+◌, ◌<◌, Bool, true, false, List, [], ◌∷◌, ◌++◌, length, Some, slice_get}
use Rattle.std.proofs.Common.{sym, ap, subst, ◌∙◌, inl, inr, arith}
use Rattle.std.specs.List.{Contains}
use Rattle.std.proofs.lemmas.Option.{slice_get_within}
use Rattle.graph.specs.Seen.{Seen, Joins}
use Rattle.std.proofs.lemmas.List.Elements.{Contains-push_cases}
use Rattle.graph.specs.Rows.{Rows, successors_of}
use Rattle.program.specs.Tables.{Tables}
use Rattle.hierarchy.specs.declared.member.DeclaredMember.{DeclaredMember}
use Rattle.hierarchy.specs.Selectable.{IsNamedLike}
use Rattle.use_graph.specs.steps.Numbers.{HasNumber}
use Rattle.use_graph.specs.steps.CallGraphs.{IsEdge, named, LeadsTo}
use Rattle.use_graph.specs.steps.Growing.{Extends, EdgeTo, Grows, IsLike, IsPart, LeadsToLike}
use Rattle.use_graph.specs.steps.Growing.{IsGrowing, GrowsBy, IsCaller, LeadsToAll}
use Rattle.use_graph.proofs.EdgesLemmas.{edge_kept}

module _ (P : Tables) (methods : List DeclaredMember) where
  -- more edges from one vertex
  pub part_extended : (old new : Rows) (groups : List ℕ) (from : ℕ) (Q : ℕ → Type 0) → IsPart P methods old groups
      → length new ≡ length old → Extends old new from Q → ((t : ℕ) → Q t → IsEdge P methods from t)
      → IsPart P methods new groups
  part_extended old new groups from Q part count x edges = record {
    vertices = count ∙ part.vertices;
    sound = λ n t p. elim (x.only n t p) [
      | inl was ↦ part.sound n t was
      | inr (same, fresh) ↦ subst (λ (v : ℕ). IsEdge P methods v t) (sym same) (edges t fresh)
    ];
    grouped = λ r z among at e j like number.
        edge_kept methods old new from (length methods + r) e j Q x (part.grouped r z among at e j like number);
  }

  one_more : (old new : Rows) (groups : List ℕ) (r : ℕ) (z : DeclaredMember) → IsPart P methods old groups
      → slice_get methods r ≡ Some z → length new ≡ length old
      → Extends old new (length methods + r) (IsLike P methods z)
      → LeadsToLike P methods new (length methods + r) z → IsPart P methods new (groups ++ r ∷ [])
  one_more old new groups r z part at count x leads =
      let more = part_extended old new groups (length methods + r) (IsLike P methods z) part count x
      (λ t like. named r at like.1 like.2) in
      record {
        vertices = more.vertices;
        sound = more.sound;
        grouped = λ q y among here. elim (Contains-push_cases groups r q among) [
          | inl low ↦ more.grouped q y low here
          | inr same ↦ (let other : slice_get methods r ≡ Some y = ap (slice_get methods) same ∙ here in
              let is : z ≡ y = cc in
              subst (λ (v : ℕ). LeadsToLike P methods new (length methods + v) y) same
              (subst (λ (m : DeclaredMember). LeadsToLike P methods new (length methods + r) m) is leads))
        ];
      }

  -- and what is selected by one more name and descriptor
  pub part_grouped : (old new : Rows) (groups more : List ℕ) (r v : ℕ) (z : DeclaredMember)
      → IsPart P methods old groups → slice_get methods r ≡ Some z → length new ≡ length old → v ≡ length methods + r
      → more ≡ groups ++ r ∷ [] → Extends old new v (IsLike P methods z) → LeadsToLike P methods new v z
      → IsPart P methods new more
  part_grouped old new groups more r v z part at count is joined x leads =
      subst (λ (l : List ℕ). IsPart P methods new l) (sym joined)
      (one_more old new groups r z part at count
      (subst (λ (u : ℕ). Extends old new u (IsLike P methods z)) is x)
      (subst (λ (u : ℕ). LeadsToLike P methods new u z) is leads))

  -- from a method to what is selected
  pub leads_by_group : (graph : Rows) (groups : List ℕ) (from r : ℕ) (z : DeclaredMember)
      → IsPart P methods graph groups
      → Contains groups r → slice_get methods r ≡ Some z → Contains (successors_of graph from) (length methods + r)
      → LeadsToAll methods graph from (IsNamedLike P.family z)
  leads_by_group graph groups from r z part among at edge e j like number =
      let found = part.grouped r z among at e j like number in (found.0, found.1, inr (r, edge, found.2))

  pub leads_straight : (graph : Rows) (from : ℕ) (z : DeclaredMember) → LeadsToLike P methods graph from z
      → LeadsToAll methods graph from (IsNamedLike P.family z)
  leads_straight graph from z leads e j like number =
      let found = leads e j like number in (found.0, found.1, inl found.2)

  pub leads_kept : (old new : Rows) (from e j : ℕ) → Grows old new → LeadsTo methods old from e j
      → LeadsTo methods new from e j
  leads_kept old new from e j grows (to, is, inl edge) = (to, is, inl (grows from to edge))
  leads_kept old new from e j grows (to, is, inr (r, first, then)) =
      (to, is, inr (r, grows from (length methods + r) first, grows (length methods + r) to then))

-- ---- steps

module _ {P : Tables} {methods : List DeclaredMember} where
  pub is_vertex : {graph : Rows} {groups : Seen} (n : ℕ) (m : DeclaredMember) → IsGrowing P methods graph groups
      → slice_get methods n ≡ Some m → n < length graph
  is_vertex n m growing at = omega (arith, growing.part.vertices, slice_get_within methods n m at)

  pub no_step : {graph : Rows} {groups : Seen} {Leads : Type 0} → IsGrowing P methods graph groups → Leads
      → GrowsBy P methods graph graph groups Leads
  no_step growing leads = record { growing = growing; grows = λ n t p. p; leads = leads }

  -- who calls all of some methods calls all of fewer
  pub calls_fewer : {graph : Rows} {groups : Seen} {from : ℕ} {IsCalled IsOne : ℕ → ℕ → Type 0}
      → IsCaller P methods graph groups from IsCalled → ((e j : ℕ) → IsOne e j → IsCalled e j)
      → IsCaller P methods graph groups from IsOne
  calls_fewer whole among = record {
    growing = whole.growing;
    caller = whole.caller;
    from = whole.from;
    calls = λ e j one. whole.calls e j (among e j one);
  }

  -- edges from one method
  pub one_step : {old new : Rows} {groups : Seen} {from : ℕ} {Q : ℕ → Type 0} {Leads : Type 0}
      → IsGrowing P methods old groups → length new ≡ length old → Extends old new from Q
      → ((t : ℕ) → Q t → IsEdge P methods from t) → Leads → GrowsBy P methods old new groups Leads
  one_step {old} {new} {groups} {from} {Q} growing count x edges leads = record {
    growing = record {
      few = growing.few;
      limit = growing.limit;
      part = part_extended P methods old new groups.items from Q growing.part count x edges;
    };
    grows = x.keeps;
    leads = leads;
  }

  pub two_steps : {old mid new : Rows} {groups more : Seen} {First Then : Type 0}
      → GrowsBy P methods old mid groups First → GrowsBy P methods mid new more Then
      → GrowsBy P methods old new more Then
  two_steps first then = record {
    growing = then.growing;
    grows = λ n t p. then.grows n t (first.grows n t p);
    leads = then.leads;
  }

  -- what edges lead to, said in another way
  pub leading : {old new : Rows} {groups : Seen} {Leads So : Type 0} → GrowsBy P methods old new groups Leads → So
      → GrowsBy P methods old new groups So
  leading step so = record { growing = step.growing; grows = step.grows; leads = so }

-- an edge to a method, by its class and place
pub leads_to : (methods : List DeclaredMember) (graph : Rows) (from : ℕ) (member : DeclaredMember) (e j : ℕ)
    → member.class ≡ e → member.index ≡ j
    → (HasNumber methods member.class member.index → EdgeTo methods graph from member.class member.index)
    → HasNumber methods e j → LeadsTo methods graph from e j
leads_to methods graph from member e j p q there number =
    let Edge : ℕ → ℕ → Type 0 = λ x y. HasNumber methods x y → EdgeTo methods graph from x y in
    let found = subst (λ (y : ℕ). Edge e y) q (subst (λ (x : ℕ). Edge x member.index) p there) number in
    (found.0, found.1, inl found.2)

pub joined_at_end : (fresh : Bool) (old new : List ℕ) (m : ℕ) → fresh ≡ true → Joins fresh old m new
    → new ≡ old ++ m ∷ []
joined_at_end true old new m is (absent, e) = e
joined_at_end false old new m is j = absurd cc
