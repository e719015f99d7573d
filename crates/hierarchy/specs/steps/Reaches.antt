-- How far the nearest class that declares a member reaches, along classes that stand depth first.
use Rattle.std.specs.Prelude.{◌≡◌, ℕ, zero, suc, ◌-◌, ◌<◌, ◌≤◌, ◌⊎◌, ◌∷◌, ◌++◌, [], List, Option, Some, None, length}
use Rattle.std.specs.Prelude.{slice_get, slice_index_or, fold, nat_lt, if◌then◌else◌, Bool, ◌&&◌, take}
use Rattle.std.specs.Option.{is_none}
use Rattle.std.specs.declared.vec.Vec.{Vec}
use Rattle.std.specs.declared.alloc.Global.{Global}
use Rattle.std.specs.BTreeMap.{get}
use Rattle.loading.specs.Families.{Family, superclasses_in}
use Rattle.built_in.specs.Keys.{NameAndType}
use Rattle.hierarchy.specs.steps.MemberKeys.{key_order, AreNumbers}
use Rattle.hierarchy.specs.declared.member_key.MemberKey.{MemberKey}
use Rattle.hierarchy.specs.declared.member.DeclaredMember.{DeclaredMember}
use Rattle.hierarchy.specs.declared.reach_table.Reach.{Reach}
use Rattle.hierarchy.specs.declared.reach_table.ReachTable.{ReachTable}

-- The nearest class that has something, a class itself or one on its chain of given superclasses, and what.
pub data Nearest (family : Family) (own : ℕ → Option ℕ) : ℕ → Option DeclaredMember → Type 0 where
  here : {c k : ℕ} → own c ≡ Some k → Nearest family own c (Some (record { class = c; index = k }))
  above : {c d : ℕ} {r : Option DeclaredMember} → own c ≡ None → superclasses_in family c ≡ d ∷ []
      → Nearest family own d r → Nearest family own c r
  nowhere : {c : ℕ} → own c ≡ None → superclasses_in family c ≡ [] → Nearest family own c None

-- ---- rows of reaches by key

abbrev pub reaches_in : Option (Vec Reach Global) → List Reach
reaches_in None = []
reaches_in (Some row) = row.items

abbrev pub row_at : List (Vec Reach Global) → Option ℕ → List Reach
row_at rows None = []
row_at rows (Some n) = reaches_in (slice_get rows n)

abbrev pub number_in : ReachTable → MemberKey → Option ℕ
number_in table key = get key_order table.numbers key

-- the reaches that were noted for a key
abbrev pub reaches_of : ReachTable → MemberKey → List Reach
reaches_of table key = row_at table.rows.items (number_in table key)

-- keys have rows of their own
pub record IsReachTable (table : ReachTable) : Type 0 where
  pub within : (key : MemberKey) (n : ℕ) → number_in table key ≡ Some n → n < length table.rows.items
  pub apart : (a b : MemberKey) (n : ℕ) → number_in table a ≡ Some n → number_in table b ≡ Some n → a ≡ b

-- the class that was noted, if any was
abbrev pub class_noted : Option DeclaredMember → List ℕ
class_noted None = []
class_noted (Some member) = member.class ∷ []

-- the classes that a row names
abbrev pub classes_noted : List Reach → List ℕ
classes_noted [] = []
classes_noted (reach ∷ row) = class_noted reach.nearest ++ classes_noted row

-- ---- what they tell

-- what reaches a place: what was noted last up to this place
abbrev pub reach_after : ℕ → Option DeclaredMember → Reach → Option DeclaredMember
reach_after place before reach = if nat_lt place reach.from then before else reach.nearest

abbrev pub reaching : List Reach → ℕ → Option DeclaredMember
reaching row place = fold (reach_after place) None row

abbrev pub nearest_of : Option Reach → Option DeclaredMember
nearest_of None = None
nearest_of (Some reach) = reach.nearest

-- what was noted last of so many reaches
abbrev pub last_nearest : List Reach → ℕ → Option DeclaredMember
last_nearest row zero = None
last_nearest row (suc n) = nearest_of (slice_get row n)

-- nothing is noted last, and nothing before that
abbrev pub ends_idle : List Reach → Bool
ends_idle row = is_none (last_nearest row (length row)) && is_none (last_nearest row (length row - 1))

-- a row without a last reach that says nothing more
abbrev pub without_idle_end : List Reach → List Reach
without_idle_end row = if ends_idle row then take (length row - 1) row else row

-- a row that one more reach was noted in
abbrev pub noted_in : List Reach → Reach → List Reach
noted_in row reach = without_idle_end row ++ reach ∷ []

-- places go up
abbrev pub GoUp : List Reach → Type 0
GoUp row = (i j : ℕ) (a b : Reach) → i ≤ j → slice_get row i ≡ Some a → slice_get row j ≡ Some b → a.from ≤ b.from

-- A row tells of each class of a list what is nearest to it.
pub record Tells (family : Family) (own : ℕ → Option ℕ) (classes : List ℕ) (row : List Reach) : Type 0 where
  pub up : GoUp row
  pub below : (i : ℕ) (a : Reach) → slice_get row i ≡ Some a → a.from ≤ length classes
  pub told : (place c : ℕ) → slice_get classes place ≡ Some c → Nearest family own c (reaching row place)

-- and nothing is noted beyond them
pub record TellsAlone (family : Family) (own : ℕ → Option ℕ) (classes : List ℕ) (row : List Reach) : Type 0 where
  pub tells : Tells family own classes row
  pub none_beyond : (i : ℕ) (a : Reach) → slice_get row i ≡ Some a → a.from < length classes

-- The last reach is from a place.
abbrev pub EndsAt : List Reach → ℕ → Type 0
EndsAt row place = (a : Reach) × (slice_get row (length row - 1) ≡ Some a) × (a.from ≡ place)

-- Where one more class comes: a row tells of those before it alone, or of that class too.
abbrev pub TellsUpTo : Family → (ℕ → Option ℕ) → List ℕ → ℕ → List Reach → Type 0
TellsUpTo family own classes c row =
    TellsAlone family own classes row ⊎ TellsAlone family own (classes ++ c ∷ []) row

-- ---- along an order of classes

-- the same from a class on, if there is one
abbrev pub NearestFrom : Family → (ℕ → Option ℕ) → Option ℕ → Option DeclaredMember → Type 0
NearestFrom family own None r = r ≡ None
NearestFrom family own (Some c) r = Nearest family own c r

-- the nearest from a class's given superclass on
abbrev pub NearestAbove : Family → (ℕ → Option ℕ) → ℕ → Option DeclaredMember → Type 0
NearestAbove family own c r = ((d : ℕ) → superclasses_in family c ≡ d ∷ [] → Nearest family own d r)
    × (superclasses_in family c ≡ [] → r ≡ None)

-- the last of some classes
abbrev pub IsLast : List ℕ → Option ℕ → Type 0
IsLast classes None = classes ≡ []
IsLast classes (Some v) = (last : ℕ) × (length classes ≡ suc last) × (slice_get classes last ≡ Some v)

-- One more class stands behind others, its superclass at its place among them.
pub record StandsBehind (family : Family) (places classes : List ℕ) (c place : ℕ) : Type 0 where
  pub count : length classes ≡ place
  pub above : (d : ℕ) → superclasses_in family c ≡ d ∷ []
      → slice_get classes (slice_index_or places d 0) ≡ Some d

-- What is declared by name and descriptor, and the texts that keys are numbers of.
pub record Members : Type 0 where
  pub family : Family
  pub texts : List (List ℕ)
  pub own : NameAndType → ℕ → Option ℕ

-- each row tells of all classes
abbrev pub AllTell : Members → List ℕ → ReachTable → Type 0
AllTell m classes table = (key : MemberKey) (name : NameAndType) → AreNumbers m.texts name key
    → TellsAlone m.family (m.own name) classes (reaches_of table key)
