-- The declarations of members by some names and descriptors, as a list.
use Rattle.std.specs.Prelude.{◌≡◌, ◌⊎◌, ℕ, not, List, Some}
use Rattle.std.specs.List.{Contains}
use Rattle.built_in.specs.Keys.{NameAndType}
use Rattle.hierarchy.specs.Hierarchies.{NumberedFamily}
use Rattle.hierarchy.specs.MemberLookup.{flags_in, is_abstract}
use Rattle.hierarchy.specs.steps.HierarchyTables.{wanted_in}
use Rattle.hierarchy.specs.steps.MemberKeys.{AreNumbers}
use Rattle.hierarchy.specs.declared.declarations.Declaration.{Declaration}
use Rattle.hierarchy.specs.declared.member_key.MemberKey.{MemberKey}
use Rattle.hierarchy.specs.declared.wanted.Wanted.{Wanted}
use Rattle.hierarchy.specs.declared.wanted.Wanted.TheVariants as kind

-- A class declares a member of this kind, name and descriptor there; of a superinterface method it is known whether it
-- has code.
pub record IsDeclared (h : NumberedFamily) (wanted : Wanted) (e : Declaration) : Type 0 where
  pub there : (name : NameAndType) → AreNumbers h.texts name e.key
      → wanted_in wanted h.family name e.member.class ≡ Some e.member.index
  pub code : wanted ≡ kind.InterfaceMethod
      → e.coded ≡ not (is_abstract (flags_in h.family e.member.class e.member.index))

abbrev pub AreDeclared : NumberedFamily → Wanted → List Declaration → Type 0
AreDeclared h wanted declared = (e : Declaration) → Contains declared e → IsDeclared h wanted e

-- that of a class stands there
abbrev pub IsListed : List Declaration → MemberKey → ℕ → Type 0
IsListed declared key class = (e : Declaration) × Contains declared e × (e.key ≡ key) × (e.member.class ≡ class)

-- All of a name and descriptor stand there.
abbrev pub IsWhole : NumberedFamily → Wanted → List Declaration → MemberKey → Type 0
IsWhole h wanted declared key = (name : NameAndType) (class k : ℕ) → AreNumbers h.texts name key
    → wanted_in wanted h.family name class ≡ Some k → IsListed declared key class

-- of each that stands there all of its name and descriptor do
abbrev pub AreWhole : NumberedFamily → Wanted → List Declaration → Type 0
AreWhole h wanted declared = (e : Declaration) → Contains declared e → IsWhole h wanted declared e.key

-- More of a name and descriptor were added.
pub record Grows (h : NumberedFamily) (wanted : Wanted) (key : MemberKey) (old new : List Declaration) : Type 0 where
  pub are : AreDeclared h wanted new
  pub keeps : (e : Declaration) → Contains old e → Contains new e
  pub only : (e : Declaration) → Contains new e → Contains old e ⊎ (e.key ≡ key)
