-- A graph of calls while it is made.
use Rattle.std.specs.Prelude.{◌≡◌, ◌⊎◌, ℕ, ◌+◌, ◌*◌, ◌≤◌, List, length, Some, slice_get}
use Rattle.std.specs.List.{Contains}
use Rattle.graph.specs.Rows.{Rows, successors_of}
use Rattle.graph.specs.Seen.{Seen}
use Rattle.program.specs.Tables.{Tables}
use Rattle.hierarchy.specs.declared.member.DeclaredMember.{DeclaredMember}
use Rattle.hierarchy.specs.Selectable.{IsNamedLike}
use Rattle.use_graph.specs.Uses.{Calls}
use Rattle.use_graph.specs.steps.Numbers.{HasNumber}
use Rattle.use_graph.specs.steps.CallGraphs.{IsEdge, LeadsTo}

-- no edge goes
abbrev pub Grows : Rows → Rows → Type 0
Grows old new = (n to : ℕ) → Contains (successors_of old n) to → Contains (successors_of new n) to

-- edges come from one vertex alone, and none goes
pub record Extends (old new : Rows) (from : ℕ) (IsNew : ℕ → Type 0) : Type 0 where
  pub keeps : (n to : ℕ) → Contains (successors_of old n) to → Contains (successors_of new n) to
  pub only : (n to : ℕ) → Contains (successors_of new n) to
      → Contains (successors_of old n) to ⊎ ((n ≡ from) × IsNew to)

-- an edge leads to a method
abbrev pub EdgeTo : List DeclaredMember → Rows → ℕ → ℕ → ℕ → Type 0
EdgeTo methods graph n e j = (to : ℕ) × (slice_get methods to ≡ Some (record { class = e; index = j }))
    × Contains (successors_of graph n) to

-- the number of one of some methods
abbrev pub IsNumberOf : List DeclaredMember → List DeclaredMember → ℕ → Type 0
IsNumberOf methods some to = (y : DeclaredMember) × (slice_get methods to ≡ Some y) × Contains some y

-- edges lead to each of some methods that has a number
abbrev pub LeadsToEach : List DeclaredMember → Rows → ℕ → List DeclaredMember → Type 0
LeadsToEach methods graph n some =
    (y : DeclaredMember) → Contains some y → HasNumber methods y.class y.index → EdgeTo methods graph n y.class y.index

-- a method of this number is declared by the name and descriptor of another
abbrev pub IsLike : Tables → List DeclaredMember → DeclaredMember → ℕ → Type 0
IsLike P methods z to =
    (y : DeclaredMember) × (slice_get methods to ≡ Some y) × IsNamedLike P.family z y.class y.index

-- edges lead to all methods that are declared by a name and a descriptor
abbrev pub LeadsToLike : Tables → List DeclaredMember → Rows → ℕ → DeclaredMember → Type 0
LeadsToLike P methods graph n z =
    (e j : ℕ) → IsNamedLike P.family z e j → HasNumber methods e j → EdgeTo methods graph n e j

-- What holds at each step: edges are those of calls, and for each of some methods what is declared by its name and
-- descriptor is there.
pub record IsPart (P : Tables) (methods : List DeclaredMember) (graph : Rows) (groups : List ℕ) : Type 0 where
  pub vertices : length graph ≡ 2 * length methods
  pub sound : (n to : ℕ) → Contains (successors_of graph n) to → IsEdge P methods n to
  pub grouped : (r : ℕ) (z : DeclaredMember) → Contains groups r → slice_get methods r ≡ Some z
      → LeadsToLike P methods graph (length methods + r) z

-- What holds before and after each step: the methods have numbers, and groups are among these.
pub record IsGrowing (P : Tables) (methods : List DeclaredMember) (graph : Rows) (groups : Seen) : Type 0 where
  pub few : length methods ≤ 65535 * 65535
  pub limit : groups.limit ≡ length methods
  pub part : IsPart P methods graph groups.items

-- What a step adds to a graph: no edge goes, and edges lead where they are to.
pub record GrowsBy (P : Tables) (methods : List DeclaredMember) (old new : Rows) (groups : Seen) (Leads : Type 0) :
    Type 0 where
  pub growing : IsGrowing P methods new groups
  pub grows : Grows old new
  pub leads : Leads

-- What holds before edges are added from the method of a number: it calls all to which they are to lead.
pub record IsCaller (P : Tables) (methods : List DeclaredMember) (graph : Rows) (groups : Seen) (number : ℕ)
    (IsCalled : ℕ → ℕ → Type 0) : Type 0 where
  pub growing : IsGrowing P methods graph groups
  pub caller : DeclaredMember
  pub from : slice_get methods number ≡ Some caller
  pub calls : (e j : ℕ) → IsCalled e j → Calls P caller.class caller.index e j

-- edges lead from a method to all of these that have numbers
abbrev pub LeadsToAll : List DeclaredMember → Rows → ℕ → (ℕ → ℕ → Type 0) → Type 0
LeadsToAll methods graph n IsCalled =
    (e j : ℕ) → IsCalled e j → HasNumber methods e j → LeadsTo methods graph n e j

-- edges lead from a method to all that it may call
abbrev pub LeadsByBody : Tables → List DeclaredMember → Rows → ℕ → DeclaredMember → Type 0
LeadsByBody P methods graph n m = LeadsToAll methods graph n (Calls P m.class m.index)

-- the same of the method of a number
abbrev pub LeadsByNumber : Tables → List DeclaredMember → Rows → ℕ → Type 0
LeadsByNumber P methods graph n =
    (m : DeclaredMember) → slice_get methods n ≡ Some m → LeadsByBody P methods graph n m
