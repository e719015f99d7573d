-- Native and synchronized methods among those that calls may run.
use Rattle.std.specs.Prelude.{◌≡◌, ◌↔◌, ℕ, Bool, List, Option, Some, IsTrue, length, slice_get}
use Rattle.std.specs.List.{Contains}
use Rattle.program.specs.Tables.{Tables}
use Rattle.hierarchy.specs.declared.member.DeclaredMember.{DeclaredMember}
use Rattle.hierarchy.specs.Selectable.{IsNamedLike}
use Rattle.use_graph.specs.Uses.{IsLeftOut}

-- one of some methods is
abbrev pub HasLeftOut : Tables → List DeclaredMember → Type 0
HasLeftOut P methods = (y : DeclaredMember) × Contains methods y × IsLeftOut P y.class y.index

-- one that is declared by the name and descriptor of a method is
abbrev pub SelectsLeftOut : Tables → DeclaredMember → Type 0
SelectsLeftOut P z = (e : ℕ) × (j : ℕ) × IsNamedLike P.family z e j × IsLeftOut P e j

-- for each method, at the place of its number, what was found of it, if it was asked
pub record AreKnown (P : Tables) (methods : List DeclaredMember) (known : List (Option Bool)) : Type 0 where
  pub len : length known ≡ length methods
  pub each : (r : ℕ) (z : DeclaredMember) (yes : Bool) → slice_get methods r ≡ Some z
      → slice_get known r ≡ Some (Some yes) → (IsTrue yes ↔ SelectsLeftOut P z)
