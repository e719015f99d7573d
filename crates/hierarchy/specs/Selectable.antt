-- What a virtual call may select for objects of any given class (JVMS 6.5, invokevirtual and invokeinterface).
use Rattle.std.specs.Prelude.{◌≡◌, ℕ, ◌<◌, ◌⊎◌, ◌↔◌, List, length, Some}
use Rattle.std.specs.List.{Contains}
use Rattle.built_in.specs.declared.class_id.ClassId.TheVariants as class
use Rattle.built_in.specs.Keys.{NameAndType}
use Rattle.loading.specs.Families.{Family}
use Rattle.hierarchy.specs.declared.member.Method.{Method}
use Rattle.hierarchy.specs.declared.member.Method.TheVariants as method
use Rattle.hierarchy.specs.declared.member.DeclaredMember.{DeclaredMember}
use Rattle.hierarchy.specs.declared.selectable.Selectable.{Selectable}
use Rattle.hierarchy.specs.declared.selectable.Selectable.TheVariants as selectable
use Rattle.hierarchy.specs.MemberLookup.{key_in}
use Rattle.hierarchy.specs.Resolution.{instance_method_in}
use Rattle.hierarchy.specs.Selection.{selected}

-- a method that a call of a resolved one runs on an object of some given class
abbrev pub IsSelectable : Family → Method → ℕ → ℕ → Type 0
IsSelectable family m d k =
    (e : ℕ) × (e < length family) × (selected family (class.Given e) m ≡ Some (method.Given d k))

-- a given class declares a method, neither private nor static, by the name and descriptor of this one
abbrev pub IsNamedLike : Family → DeclaredMember → ℕ → ℕ → Type 0
IsNamedLike family x d k = (key : NameAndType) × (key_in family x.class x.index ≡ Some key)
    × (instance_method_in family key d ≡ Some k)

-- to some methods those were added that are named like this one
abbrev pub AddsNamedLike : Family → DeclaredMember → List DeclaredMember → List DeclaredMember → Type 0
AddsNamedLike family x old new = (d k : ℕ) → Contains new (record { class = d; index = k })
    ↔ (Contains old (record { class = d; index = k }) ⊎ IsNamedLike family x d k)

abbrev pub IsAmong : Family → Selectable → ℕ → ℕ → Type 0
IsAmong family selectable.Nothing d k = ⊥
IsAmong family (selectable.Alone x) d k = (x.class ≡ d) × (x.index ≡ k)
IsAmong family (selectable.Named x) d k = IsNamedLike family x d k
