-- What the nearest classes are noted with.
use Rattle.std.specs.Prelude.{◌≡◌, ◌⊎◌, ℕ, List, [], Option, Some, None, take, if◌then◌else◌}
use Rattle.loading.specs.Names.{is_interface}
use Rattle.classfile.specs.ClassFile.{ClassFile}
use Rattle.classfile.specs.declared.member.Member.{Member}
use Rattle.loading.specs.Families.{Family, IsFamily, file_in}
use Rattle.hierarchy.specs.declared.wanted.Wanted.{Wanted}
use Rattle.hierarchy.specs.declared.wanted.Wanted.TheVariants as wanted
use Rattle.hierarchy.specs.steps.HierarchyTables.{wanted_in}
use Rattle.built_in.specs.Keys.{NameAndType}
use Rattle.hierarchy.specs.steps.MemberTables.{IsTableOf}
use Rattle.hierarchy.specs.MemberLookup.{is_inherited}
use Rattle.hierarchy.specs.steps.MemberKeys.{AreNumbers}
use Rattle.hierarchy.specs.steps.Reaches.{EndsAt, IsReachTable, Members, StandsBehind, TellsUpTo, reaches_of}
use Rattle.hierarchy.specs.declared.member_key.MemberKey.{MemberKey}
use Rattle.hierarchy.specs.declared.reach_table.ReachTable.{ReachTable}
use Rattle.hierarchy.specs.declared.member_table.MemberTable.{MemberTable}
use Rattle.hierarchy.specs.steps.DepthFirst.{ArePlaces, IsWholeOrder, MayFollow}
use Rattle.hierarchy.specs.declared.sweep.ClassOrder.{ClassOrder}
use Rattle.hierarchy.specs.declared.sweep.Sweep.{Sweep}

abbrev pub members_of : Sweep → Members
members_of s = record {
  family = s.family.now;
  texts = s.table.now.texts;
  own = λ name. wanted_in s.wanted s.family.now name;
}

abbrev pub members_of_file : Wanted → Option ClassFile → List Member
members_of_file kind None = []
members_of_file wanted.Field (Some f) = f.fields
members_of_file wanted.Method (Some f) = f.methods
members_of_file wanted.InstanceMethod (Some f) = f.methods
members_of_file wanted.InterfaceField (Some f) = if is_interface f then f.fields else []
members_of_file wanted.InterfaceMethod (Some f) = if is_interface f then f.methods else []

-- the members of a class of the kind that counts
abbrev pub members_in : Wanted → Family → ℕ → List Member
members_in kind family c = members_of_file kind (file_in family c)

-- the same by their parts
abbrev pub members_by : Wanted → Family → MemberTable → Members
members_by kind family table = record {
  family = family;
  texts = table.texts;
  own = λ name. wanted_in kind family name;
}

-- the place of a member of a class, if its flags are those of the kind that counts
abbrev pub counted : Wanted → ℕ → ℕ → Option ℕ
counted wanted.Field flags k = Some k
counted wanted.InterfaceField flags k = Some k
counted wanted.Method flags k = Some k
counted wanted.InstanceMethod flags k = if is_inherited flags then Some k else None
counted wanted.InterfaceMethod flags k = if is_inherited flags then Some k else None

-- ---- a class that comes next

-- the classes that came
abbrev pub came : Sweep → ℕ → List ℕ
came s place = take place s.order.now

-- the place of a class's member of the kind that counts
abbrev pub own_in : Sweep → NameAndType → ℕ → Option ℕ
own_in s name c = wanted_in s.wanted s.family.now name c

-- A class stands behind those that came, and each row tells of these or of that class too.
pub record Comes (s : Sweep) (table : ReachTable) (class place : ℕ) : Type 0 where
  pub fits : IsTableOf s.family.now s.table.now
  pub rows : IsReachTable table
  pub stands : StandsBehind s.family.now s.places.now (came s place) class place
  pub tell : (key : MemberKey) (name : NameAndType) → AreNumbers s.table.now.texts name key
      → TellsUpTo s.family.now (own_in s name) (came s place) class (reaches_of table key)

-- what was noted at a place stays
abbrev pub KeepsEnds : ℕ → ReachTable → ReachTable → Type 0
KeepsEnds place old new = (key : MemberKey) → EndsAt (reaches_of old key) place → EndsAt (reaches_of new key) place

-- More was noted at the place of the class that comes next, and it still comes next.
pub record NotesMore (s : Sweep) (class place : ℕ) (old new : ReachTable) : Type 0 where
  pub comes : Comes s new class place
  pub keeps : KeepsEnds place old new

-- A class comes next in a family, behind the one before it, if there is one.
pub record ComesBehind (s : Sweep) (table : ReachTable) (before : Option ℕ) (class place : ℕ) : Type 0 where
  pub family : IsFamily s.family.now
  pub comes : Comes s table class place
  pub may : MayFollow s.family.now before class

-- a name and a descriptor were noted at a place
abbrev pub IsNoted : Sweep → ℕ → ReachTable → NameAndType → Type 0
IsNoted s place rows name = (key : MemberKey) → AreNumbers s.table.now.texts name key
    → EndsAt (reaches_of rows key) place

-- what a class declares was noted at a place
abbrev pub AreNoted : Sweep → ℕ → ReachTable → ℕ → Type 0
AreNoted s place rows c = (name : NameAndType) → IsNoted s place rows name ⊎ (own_in s name c ≡ None)

-- All classes stand in the order, each at its place, and the table has their members.
pub record IsClassOrder (classes : ClassOrder) : Type 0 where
  pub fits : IsTableOf classes.family.now classes.table.now
  pub order : IsWholeOrder classes.family.now classes.order.now
  pub places : ArePlaces classes.order.now classes.places.now
