-- What the instructions of a method need, and what is told of them.
use Rattle.std.specs.Prelude.{◌≡◌, ◌↔◌, ◌≤◌, ◌*◌, ℕ, List, [], ◌∷◌, ◌++◌, length, Some, slice_get}
use Rattle.std.specs.List.{Contains}
use Rattle.program.specs.Tables.{Tables}
use Rattle.hierarchy.specs.declared.member.DeclaredMember.{DeclaredMember}
use Rattle.use_graph.specs.declared.body.Told.{Told}
use Rattle.use_graph.specs.declared.code.Deed.{Deed}
use Rattle.use_graph.specs.declared.body.BodyUses.{BodyUses}
use Rattle.use_graph.specs.declared.whole_program.UseGraph.{UseGraph}
use Rattle.use_graph.specs.Uses.{Needs, IsTold, pc_at}
use Rattle.use_graph.specs.steps.Deeds.{HoldsOfOne, IsToldOf, NeedsSo}
use Rattle.use_graph.specs.steps.Numbers.{AreMethods}
use Rattle.use_graph.specs.steps.CallGraphs.{IsCallGraph}

-- something is told of an instruction of a method that begins there
abbrev pub IsToldIn : Tables → ℕ → ℕ → Told → Type 0
IsToldIn P d k told = (place : ℕ) × (pc_at P d k place ≡ Some told.pc) × IsTold P d k place told.feature

-- what some instructions need, and what is told of them
pub record AreUsesOf (P : Tables) (deeds : List Deed) (uses : BodyUses) : Type 0 where
  pub needs : (e : ℕ) → Contains uses.needs.items e ↔ HoldsOfOne NeedsSo deeds e
  pub told : (t : Told) → Contains uses.told.items t ↔ HoldsOfOne (IsToldOf P) deeds t

pub record AreBodyUses (P : Tables) (method : DeclaredMember) (uses : BodyUses) : Type 0 where
  pub needs : (e : ℕ) → Contains uses.needs.items e ↔ Needs P method.class method.index e
  pub told : (t : Told) → Contains uses.told.items t ↔ IsToldIn P method.class method.index t

-- for each method that has a number below those that are there
abbrev pub AreAllBodyUses : Tables → List DeclaredMember → List BodyUses → Type 0
AreAllBodyUses P methods bodies = (n : ℕ) (m : DeclaredMember) (b : BodyUses) → slice_get methods n ≡ Some m
    → slice_get bodies n ≡ Some b → AreBodyUses P m b

-- those of the method of a number are added
abbrev pub AddsBody : Tables → List DeclaredMember → ℕ → List BodyUses → List BodyUses → Type 0
AddsBody P methods n old new = (m : DeclaredMember) × (b : BodyUses) × (slice_get methods n ≡ Some m)
    × (new ≡ old ++ b ∷ []) × AreBodyUses P m b

-- what the methods of a program may call, need and do
pub record IsUseGraph (P : Tables) (graph : UseGraph) : Type 0 where
  pub methods : AreMethods P graph.methods
  pub few : length graph.methods ≤ 65535 * 65535
  pub calls : IsCallGraph P graph.methods graph.calls
  pub count : length graph.bodies.items ≡ length graph.methods
  pub bodies : AreAllBodyUses P graph.methods graph.bodies.items
