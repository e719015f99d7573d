-- What references resolve to, as one window of declarations after another is looked at (JVMS 5.4.3.2 to 5.4.3.4).
use Rattle.std.specs.Prelude.{◌≡◌, ◌<◌, ◌+◌, ℕ, true, List, [], ◌∷◌, Some, None, length, take, slice_get}
use Rattle.std.specs.Prelude.{MatchOption, if◌then◌else◌}
use Rattle.std.specs.List.{All}
use Rattle.built_in.specs.Keys.{NameAndType}
use Rattle.hierarchy.specs.Hierarchies.{NumberedFamily}
use Rattle.hierarchy.specs.MemberLookup.{interface_method_in, IsDefault, IsTheDefault, HasNoDefault}
use Rattle.hierarchy.specs.Search.{Search}
use Rattle.hierarchy.specs.steps.DeclarationBits.{Has, Knows, known_of}
use Rattle.hierarchy.specs.steps.Declarations.{IsWhole}
use Rattle.hierarchy.specs.steps.Defaults.{AreFound, only_of}
use Rattle.hierarchy.specs.steps.HierarchyTables.{wanted_in}
use Rattle.hierarchy.specs.steps.MemberKeys.{AreNumbers, same_key}
use Rattle.hierarchy.specs.declared.answers.Answer.{Answer}
use Rattle.hierarchy.specs.declared.bits.Known.{Known}
use Rattle.hierarchy.specs.declared.declarations.Declaration.{Declaration}
use Rattle.hierarchy.specs.declared.member.DeclaredMember.{DeclaredMember}
use Rattle.hierarchy.specs.declared.member_key.MemberKey.{MemberKey}
use Rattle.hierarchy.specs.declared.wanted.Wanted.{Wanted}
use Rattle.hierarchy.specs.declared.wanted.Wanted.TheVariants as kind

-- the bits of a window tell of each class
abbrev pub AreTold : NumberedFamily → Wanted → List Declaration → ℕ → List Known → Type 0
AreTold h wanted declared start rows = (n : ℕ) (e : Declaration) (name : NameAndType) (c : ℕ) → n < 64
    → slice_get declared (start + n) ≡ Some e → AreNumbers h.texts name e.key → c < length h.family
    → Knows h.family (wanted_in wanted h.family name) (c ∷ []) e.member.class e.member.index n (known_of rows c)

-- the classes of the declarations of a name and descriptor
abbrev pub classes_with : MemberKey → List Declaration → List ℕ
classes_with key [] = []
classes_with key (e ∷ es) = if same_key e.key key then e.member.class ∷ classes_with key es else classes_with key es

-- The bits are those of the members of some kind, of a name and descriptor in a window.
pub record AreBitsOf (Is : ℕ → ℕ → Type 0) (declared : List Declaration) (start : ℕ) (key : MemberKey) (word : ℕ) :
    Type 0 where
  pub are : (n : ℕ) (e : Declaration) → n < 64 → slice_get declared (start + n) ≡ Some e → Has word n
      → (e.key ≡ key) × Is e.member.class e.member.index
  pub all : (n : ℕ) (e : Declaration) → n < 64 → slice_get declared (start + n) ≡ Some e → e.key ≡ key → ¬ Has word n
      → (k : ℕ) → ¬ Is e.member.class k

-- What is known of a reference when so many declarations were looked at.
pub record IsKnown (h : NumberedFamily) (wanted : Wanted) (name : NameAndType) (declared : List Declaration) (count : ℕ)
    (a : Answer) : Type 0 where
  pub first : (m : DeclaredMember) → a.first ≡ Some m
      → Search h.family (wanted_in wanted h.family name) (a.class ∷ []) (Some m)
  pub none : a.none ≡ true → Search h.family (wanted_in wanted h.family name) (a.class ∷ []) None
  pub defaults : wanted ≡ kind.InterfaceMethod → interface_method_in h.family name a.class ≡ None
      → AreFound (IsDefault h.family name a.class) (classes_with a.key (take count declared)) a.defaults

-- A reference to a given class, and what is known of it.
pub record IsAnswer (h : NumberedFamily) (wanted : Wanted) (declared : List Declaration) (count : ℕ) (a : Answer) :
    Type 0 where
  pub within : a.class < length h.family
  pub whole : IsWhole h wanted declared a.key
  pub tells : (name : NameAndType) → AreNumbers h.texts name a.key → IsKnown h wanted name declared count a

abbrev pub AreAnswers : NumberedFamily → Wanted → List Declaration → ℕ → List Answer → Type 0
AreAnswers h wanted declared count answers = All (IsAnswer h wanted declared count) answers

-- What a reference resolves to, where all declarations were looked at.
pub record Resolves (h : NumberedFamily) (wanted : Wanted) (name : NameAndType) (a : Answer) : Type 0 where
  pub first : (m : DeclaredMember) → a.first ≡ Some m
      → Search h.family (wanted_in wanted h.family name) (a.class ∷ []) (Some m)
  pub none : a.none ≡ true → Search h.family (wanted_in wanted h.family name) (a.class ∷ []) None
  pub defaults : wanted ≡ kind.InterfaceMethod → interface_method_in h.family name a.class ≡ None
      → MatchOption (only_of a.defaults) (HasNoDefault h.family name a.class)
      (λ m. IsTheDefault h.family name a.class m.class m.index)

abbrev pub IsResolved : NumberedFamily → Wanted → Answer → Type 0
IsResolved h wanted a = (name : NameAndType) → AreNumbers h.texts name a.key → Resolves h wanted name a

abbrev pub AreResolved : NumberedFamily → Wanted → List Answer → Type 0
AreResolved h wanted answers = All (IsResolved h wanted) answers
