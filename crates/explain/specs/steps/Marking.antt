-- Instructions that bear a mark, as bearers of the methods in which they stand.
use Rattle.std.specs.Prelude.{◌≡◌, ◌↔◌, ℕ, ◌<◌, List, length, Option, Some, None, slice_get, slice_index_or}
use Rattle.std.specs.List.{Contains}
use Rattle.graph.specs.Reaches.{Reaches}
use Rattle.hierarchy.specs.declared.member.DeclaredMember.{DeclaredMember}
use Rattle.program.specs.Tables.{Tables}
use Rattle.use_graph.specs.declared.body.BodyUses.{BodyUses}
use Rattle.use_graph.specs.declared.body.Told.{Told}
use Rattle.use_graph.specs.declared.mark.Evidence.{Evidence}
use Rattle.use_graph.specs.declared.mark.Mark.{Mark}
use Rattle.use_graph.specs.declared.mark.Mark.TheVariants as marks
use Rattle.use_graph.specs.declared.whole_program.UseGraph.{UseGraph}
use Rattle.use_graph.specs.Uses.{Tells, field_class, mark_of}
use Rattle.use_graph.specs.steps.Deeds.{HoldsOfOne}
use Rattle.explain.specs.declared.evidences.Evidences.{Evidences}
use Rattle.explain.specs.declared.bearers.Bearer.{Bearer}
use Rattle.explain.specs.declared.bearers.Pair.{Pair}
use Rattle.explain.specs.declared.bearers.VertexBearer.{VertexBearer}
use Rattle.explain.specs.steps.Bearers.{Serves}
use Rattle.explain.specs.steps.Nearest.{Has}

-- what is told of an instruction of a method is this bearer, for a mark
abbrev pub IsBearerOf : Mark → DeclaredMember → Told → Bearer → Type 0
IsBearerOf mark m t g = (mark_of t.feature ≡ mark) × (g.field_class ≡ field_class t.feature)
    × (g.at.class ≡ m.class) × (g.at.index ≡ m.index) × (g.at.pc ≡ t.pc)

-- it is a bearer of the method of a vertex
abbrev pub IsBearerAt : UseGraph → Mark → ℕ → Bearer → Type 0
IsBearerAt uses mark v g = (m : DeclaredMember) × (b : BodyUses) × (slice_get uses.methods v ≡ Some m)
    × (slice_get uses.bodies.items v ≡ Some b) × HoldsOfOne (IsBearerOf mark m) b.told.items g

abbrev pub IsSourceOf : Mark → ℕ → DeclaredMember → Told → VertexBearer → Type 0
IsSourceOf mark v m t s = (s.vertex ≡ v) × IsBearerOf mark m t s.bearer

abbrev pub IsSourceAt : UseGraph → Mark → ℕ → VertexBearer → Type 0
IsSourceAt uses mark v s = (s.vertex ≡ v) × IsBearerAt uses mark v s.bearer

-- those of the methods of all vertices
abbrev pub AreSources : UseGraph → Mark → List VertexBearer → Type 0
AreSources uses mark sources = (s : VertexBearer) → Contains sources s ↔ IsBearerAt uses mark s.vertex s.bearer

-- those of the vertices before this one
abbrev pub AreSourcesBelow : UseGraph → Mark → ℕ → List VertexBearer → Type 0
AreSourcesBelow uses mark limit sources =
    (s : VertexBearer) → Contains sources s ↔ ((s.vertex < limit) × IsBearerAt uses mark s.vertex s.bearer)

-- one of a method that a vertex of the calls reaches
abbrev pub ReachesBearer : UseGraph → Mark → ℕ → Bearer → Type 0
ReachesBearer uses mark v g = (u : ℕ) × Reaches uses.calls v u × IsBearerAt uses mark u g

-- each vertex has bearers that it reaches, and wherever one that it reaches serves, one that it has does
pub record IsMarking (uses : UseGraph) (mark : Mark) (pairs : List Pair) : Type 0 where
  pub len : length pairs ≡ length uses.calls
  pub sound : (v : ℕ) (g : Bearer) → Has pairs v g → ReachesBearer uses mark v g
  pub complete : (v : ℕ) (g : Bearer) → ReachesBearer uses mark v g → Serves (Has pairs v) g

-- of each class evidence for a mark, or none where it has it not
abbrev pub AreTold : Tables → Mark → List (Option Evidence) → Type 0
AreTold P mark row = (c : ℕ) → Tells P c mark (slice_index_or row c None)

pub record AreEvidences (P : Tables) (evidences : Evidences) : Type 0 where
  pub prints : AreTold P marks.Prints evidences.prints.items
  pub throws : AreTold P marks.Throws evidences.throws.items
  pub monitors : AreTold P marks.Monitors evidences.monitors.items
  pub foreign_write : AreTold P marks.ForeignWrite evidences.foreign_write.items
  pub foreign_read : AreTold P marks.ForeignRead evidences.foreign_read.items
  pub unsupported : AreTold P marks.Unsupported evidences.unsupported.items
  pub missing : AreTold P marks.Missing evidences.missing.items
