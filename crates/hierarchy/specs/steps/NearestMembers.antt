-- What the nearest members along superclasses are found by.
use Rattle.std.specs.Prelude.{◌≡◌, ◌==◌, ℕ, List, [], Option, Some, None, length, if◌then◌else◌}
use Rattle.loading.specs.Families.{Family}
use Rattle.hierarchy.specs.steps.DepthFirst.{IsWholeOrder, ArePlaces}
use Rattle.hierarchy.specs.steps.Reaches.{AllTell, IsReachTable, reaches_of}
use Rattle.hierarchy.specs.steps.Sweeps.{members_by}
use Rattle.hierarchy.specs.steps.Tops.{AreTops}
use Rattle.hierarchy.specs.declared.member.DeclaredMember.{DeclaredMember}
use Rattle.hierarchy.specs.declared.member_key.MemberKey.{MemberKey}
use Rattle.hierarchy.specs.declared.member_table.MemberTable.{MemberTable}
use Rattle.hierarchy.specs.declared.nearest.NearestMembers.{NearestMembers}
use Rattle.hierarchy.specs.declared.nearest.Reaches.{Reaches}
use Rattle.hierarchy.specs.declared.reach_table.ReachTable.{ReachTable}
use Rattle.hierarchy.specs.declared.wanted.Wanted.{Wanted}
use Rattle.hierarchy.specs.declared.wanted.Wanted.TheVariants as wanted

abbrev pub rows_of : Wanted → Reaches → ReachTable
rows_of wanted.Field r = r.fields
rows_of wanted.InterfaceField r = r.interface_fields
rows_of wanted.Method r = r.methods
rows_of wanted.InstanceMethod r = r.instance_methods
rows_of wanted.InterfaceMethod r = r.interface_methods

-- No key has reaches.
pub record IsEmpty (table : ReachTable) : Type 0 where
  pub keys : IsReachTable table
  pub none : (key : MemberKey) → reaches_of table key ≡ []

-- each row tells of all classes
abbrev pub AllAreTold : Family → MemberTable → List ℕ → Reaches → Type 0
AllAreTold family table order r = (kind : Wanted) → AllTell (members_by kind family table) order (rows_of kind r)

-- They are those of a family.
pub record AreNearest (family : Family) (table : MemberTable) (nearest : NearestMembers) : Type 0 where
  pub order : List ℕ
  pub whole : IsWholeOrder family order
  pub places : ArePlaces order nearest.places.items
  pub count : length nearest.places.items ≡ length family
  pub tops : AreTops family nearest.tops.items
  pub told : AllAreTold family table order nearest.reaches

-- the place of a member, if a class declares it itself
abbrev pub own_part : ℕ → Option DeclaredMember → Option ℕ
own_part c None = None
own_part c (Some m) = if m.class == c then Some m.index else None
