-- What was found so far in a search for the one default (JVMS 5.4.3.3).
use Rattle.std.specs.Prelude.{◌≡◌, ◌≢◌, ◌↔◌, ◌==◌, ℕ, false, List, Option, Some, None, if◌then◌else◌}
use Rattle.std.specs.List.{Contains}
use Rattle.built_in.specs.Keys.{NameAndType}
use Rattle.loading.specs.Families.{Family, IsAncestor, parents_in}
use Rattle.hierarchy.specs.MemberLookup.{interface_method_in, is_abstract, flags_in}
use Rattle.hierarchy.specs.declared.above.Above.{Above}
use Rattle.hierarchy.specs.declared.above.Above.TheVariants as above
use Rattle.hierarchy.specs.declared.defaults.FoundMethods.{FoundMethods}
use Rattle.hierarchy.specs.declared.defaults.FoundMethods.TheVariants as found
use Rattle.hierarchy.specs.declared.member.DeclaredMember.{DeclaredMember}

-- Those of some classes with a method of some kind: none, one with its method's place, or several.
pub data AreFound (Is : ℕ → ℕ → Type 0) (seen : List ℕ) : FoundMethods → Type 0 where
  nothing : ((i k : ℕ) → Contains seen i → ¬ Is i k) → AreFound Is seen found.Nothing
  one : {i k : ℕ} → Contains seen i → Is i k → ((j l : ℕ) → Contains seen j → Is j l → j ≡ i)
      → AreFound Is seen (found.One i k)
  several : {i j k l : ℕ} → Contains seen i → Is i k → Contains seen j → Is j l → i ≢ j
      → AreFound Is seen found.Several

-- one more method was found
abbrev pub found_with : FoundMethods → ℕ → ℕ → FoundMethods
found_with found.Nothing class index = found.One class index
found_with (found.One i k) class index = if i == class then found.One i k else found.Several
found_with found.Several class index = found.Several

abbrev pub found_after : FoundMethods → ℕ → Option ℕ → FoundMethods
found_after before class None = before
found_after before class (Some index) = found_with before class index

abbrev pub only_of : FoundMethods → Option DeclaredMember
only_of found.Nothing = None
only_of (found.One i k) = Some (record { class = i; index = k })
only_of found.Several = None

-- ---- what stands above a class

abbrev pub classes_of : Above → List ℕ
classes_of (above.Walked ancestors) = ancestors.now.items
classes_of (above.Few few) = few.now
classes_of (above.Flagged flagged) = flagged.now

-- ---- methods of interfaces

-- an interface has the method at this place
abbrev pub HasMethod : Family → NameAndType → ℕ → ℕ → Type 0
HasMethod family key i k = interface_method_in family key i ≡ Some k

-- an interface is below another one and has the method
abbrev pub IsOverriding : Family → NameAndType → ℕ → ℕ → Type 0
IsOverriding family key i j = ((l : ℕ) × HasMethod family key j l) × IsAncestor family j i

-- what stands above one of some classes that has the method
abbrev pub AreCovered : Family → NameAndType → List ℕ → List ℕ → Type 0
AreCovered family key classes covered =
    (m : ℕ) → Contains covered m ↔ ((j : ℕ) × Contains classes j × IsOverriding family key m j)

-- the parents of those of some classes with a method of some kind
abbrev pub AreParentsOf : Family → (ℕ → ℕ → Type 0) → List ℕ → List ℕ → Type 0
AreParentsOf family Is classes parents =
    (m : ℕ) → Contains parents m
    ↔ ((j : ℕ) × Contains classes j × ((l : ℕ) × Is j l) × Contains (parents_in family j) m)

-- a method that is not abstract, of an interface that is not covered
abbrev pub IsFree : Family → NameAndType → List ℕ → ℕ → ℕ → Type 0
IsFree family key covered i k =
    HasMethod family key i k × (is_abstract (flags_in family i k) ≡ false) × (¬ Contains covered i)

-- the methods among some classes that are not abstract, of interfaces above no candidate
abbrev pub AreDefaults : Family → NameAndType → List ℕ → FoundMethods → Type 0
AreDefaults family key classes found =
    (covered : List ℕ) × AreCovered family key classes covered × AreFound (IsFree family key covered) classes found

-- a method of some kind of one of some classes
abbrev pub Among : (ℕ → ℕ → Type 0) → List ℕ → ℕ → ℕ → Type 0
Among Is classes i k = Contains classes i × Is i k
