-- The graph of calls between methods.
use Rattle.std.specs.Prelude.{◌≡◌, ◌⊎◌, ℕ, ◌+◌, ◌*◌, List, length, Some, slice_get}
use Rattle.std.specs.List.{Contains}
use Rattle.graph.specs.Rows.{Rows, successors_of}
use Rattle.program.specs.Tables.{Tables}
use Rattle.hierarchy.specs.declared.member.DeclaredMember.{DeclaredMember}
use Rattle.hierarchy.specs.Selectable.{IsNamedLike}
use Rattle.use_graph.specs.Uses.{Calls}
use Rattle.use_graph.specs.steps.Numbers.{HasNumber}

-- Of so many methods each has two vertices: one of its number, for itself, and one as far behind the last of these, for
-- all methods, neither private nor static, that are declared by its name and descriptor. An edge leads from a method to
-- one that it may call, or to what it may select.
pub data IsEdge (P : Tables) (methods : List DeclaredMember) : ℕ → ℕ → Type 0 where
  calls : {n to : ℕ} {x y : DeclaredMember} → slice_get methods n ≡ Some x → slice_get methods to ≡ Some y
      → Calls P x.class x.index y.class y.index → IsEdge P methods n to
  selects : {n : ℕ} (r : ℕ) {x z : DeclaredMember} → slice_get methods n ≡ Some x → slice_get methods r ≡ Some z
      → ((e j : ℕ) → IsNamedLike P.family z e j → Calls P x.class x.index e j)
      → IsEdge P methods n (length methods + r)
  named : (r : ℕ) {to : ℕ} {z y : DeclaredMember} → slice_get methods r ≡ Some z → slice_get methods to ≡ Some y
      → IsNamedLike P.family z y.class y.index → IsEdge P methods (length methods + r) to

-- an edge leads to a method, or one to what is selected and from there another
abbrev pub LeadsTo : List DeclaredMember → Rows → ℕ → ℕ → ℕ → Type 0
LeadsTo methods graph n e j = (to : ℕ) × (slice_get methods to ≡ Some (record { class = e; index = j }))
    × (Contains (successors_of graph n) to
    ⊎ ((r : ℕ) × Contains (successors_of graph n) (length methods + r)
    × Contains (successors_of graph (length methods + r)) to))

pub record IsCallGraph (P : Tables) (methods : List DeclaredMember) (graph : Rows) : Type 0 where
  pub vertices : length graph ≡ 2 * length methods
  pub sound : (n to : ℕ) → Contains (successors_of graph n) to → IsEdge P methods n to
  pub complete : (n d k e j : ℕ) → slice_get methods n ≡ Some (record { class = d; index = k })
      → Calls P d k e j → HasNumber methods e j → LeadsTo methods graph n e j
