-- The first check that fails, as a relation: what a part spells, and how the bytes fail to begin with it.
use Rattle.std.specs.Prelude.{◌≡◌, ℕ, zero, suc, ◌+◌, ◌-◌, ◌<◌, ◌^◌, ◌⊎◌, Bool, true, false}
use Rattle.std.specs.Prelude.{◌&&◌, List, [], ◌∷◌, ◌++◌, length, Option, Some, None, nat_eq, get_or}
use Rattle.std.specs.Int.{Width, w8, w16, w32, byte_len, to_be_bytes}
use Rattle.classfile.specs.declared.fault.ClassFault.{ClassFault}
use Rattle.classfile.specs.declared.fault.ClassFault.TheVariants as faults
use Rattle.classfile.specs.declared.constant.Constant.{Constant}
use Rattle.classfile.specs.declared.constant.Constant.TheVariants as constants
use Rattle.classfile.specs.declared.constant.Kind.{Kind}
use Rattle.classfile.specs.declared.constant.Kind.TheVariants as kinds
use Rattle.classfile.specs.Gives.{offset}
use Rattle.classfile.specs.Units.{IsModifiedUtf8}
use Rattle.classfile.specs.Constants.{is_wide, kind_of_tag}
use Rattle.classfile.specs.Spelling.{constant_text, Fits, AreConstants, constants_text}

-- the bytes begin with the text of x, and what follows fails
pub record FailsAfter {X E : Type 0} (Spells : X → List ℕ → Type 0) (Next : X → List ℕ → E → Type 0)
    (bytes : List ℕ) (fault : E) : Type 0 where
  pub value : X
  pub text : List ℕ
  pub rest : List ℕ
  pub spelled : Spells value text
  pub parts : bytes ≡ text ++ rest
  pub next : Next value rest fault

-- one part and then, depending on it, the other: the first of them that fails
abbrev pub Either : {X E : Type 0} → (X → List ℕ → Type 0) → (List ℕ → E → Type 0) → (X → List ℕ → E → Type 0)
    → List ℕ → E → Type 0
Either Spells First Next bytes fault = First bytes fault ⊎ FailsAfter Spells Next bytes fault

-- ---- what a part spells

abbrev pub limit_of : Width → ℕ
limit_of w = 256 ^ byte_len w

abbrev pub Number : Width → ℕ → List ℕ → Type 0
Number w n text = (n < limit_of w) × (text ≡ to_be_bytes w n)

abbrev pub Run : ℕ → List ℕ → List ℕ → Type 0
Run count run text = (length run ≡ count) × (text ≡ run)

-- ---- how the bytes fail

abbrev pub Cut : ℕ → ℕ → List ℕ → ClassFault → Type 0
Cut count total bytes fault = (length bytes < count) × (fault ≡ faults.Truncated (offset total bytes))

abbrev pub CutNumber : Width → ℕ → List ℕ → ClassFault → Type 0
CutNumber w total bytes fault = Cut (byte_len w) total bytes fault

abbrev pub TwoFail : Width → Width → ℕ → List ℕ → ClassFault → Type 0
TwoFail v w total = Either (Number v) (CutNumber v total) (λ m. CutNumber w total)

abbrev pub Utf8Fails : ℕ → ℕ → List ℕ → ClassFault → Type 0
Utf8Fails total index = Either (Number w16) (CutNumber w16 total) (λ count. Either (Run count) (Cut count total)
    (λ text rest fault. (¬ IsModifiedUtf8 text) × (fault ≡ faults.Utf8 index)))

abbrev pub BodyFails : Option Kind → ℕ → ℕ → List ℕ → ClassFault → Type 0
BodyFails None total index bytes fault = fault ≡ faults.Tag index
BodyFails (Some kinds.Utf8) total index bytes fault = Utf8Fails total index bytes fault
BodyFails (Some kinds.Integer) total index bytes fault = CutNumber w32 total bytes fault
BodyFails (Some kinds.Float) total index bytes fault = CutNumber w32 total bytes fault
BodyFails (Some kinds.Long) total index bytes fault = TwoFail w32 w32 total bytes fault
BodyFails (Some kinds.Double) total index bytes fault = TwoFail w32 w32 total bytes fault
BodyFails (Some kinds.Class) total index bytes fault = CutNumber w16 total bytes fault
BodyFails (Some kinds.String) total index bytes fault = CutNumber w16 total bytes fault
BodyFails (Some kinds.Fieldref) total index bytes fault = TwoFail w16 w16 total bytes fault
BodyFails (Some kinds.Methodref) total index bytes fault = TwoFail w16 w16 total bytes fault
BodyFails (Some kinds.InterfaceMethodref) total index bytes fault = TwoFail w16 w16 total bytes fault
BodyFails (Some kinds.NameAndType) total index bytes fault = TwoFail w16 w16 total bytes fault
BodyFails (Some kinds.MethodHandle) total index bytes fault = TwoFail w8 w16 total bytes fault
BodyFails (Some kinds.MethodType) total index bytes fault = CutNumber w16 total bytes fault
BodyFails (Some kinds.InvokeDynamic) total index bytes fault = TwoFail w16 w16 total bytes fault

-- a constant: its tag, then what the tag wants
abbrev pub TaggedFails : ℕ → ℕ → List ℕ → ClassFault → Type 0
TaggedFails total index = Either (Number w8) (CutNumber w8 total) (λ tag. BodyFails (kind_of_tag tag) total index)

-- what stands at a number
abbrev pub IsTagged : Constant → List ℕ → Type 0
IsTagged c text = Fits c × (text ≡ constant_text c)

abbrev pub IsConstant : Bool → Bool → Constant → List ℕ → Type 0
IsConstant true is_last c text = (c ≡ constants.Unusable) × (text ≡ [])
IsConstant false is_last c text = IsTagged c text × ((is_wide c && is_last) ≡ false)

-- the constant fails, or it is wide and its second number isn't below the count: then where its tag stands
abbrev pub ConstantFails : Bool → Bool → ℕ → ℕ → List ℕ → ClassFault → Type 0
ConstantFails true is_last total index bytes fault = ⊥
ConstantFails false is_last total index bytes fault = Either IsTagged (TaggedFails total index) (λ c rest f. ((is_wide c
    && is_last) ≡ true) × (f ≡ faults.Index (offset total bytes))) bytes fault

-- the first of so many others that fails
abbrev pub ConstantsFailFrom : ℕ → Bool → ℕ → ℕ → ℕ → List ℕ → ClassFault → Type 0
ConstantsFailFrom zero after_wide total count index bytes fault = ⊥
ConstantsFailFrom (suc n) after_wide total count index bytes fault =
    Either (IsConstant after_wide (nat_eq (index + 1) count))
    (ConstantFails after_wide (nat_eq (index + 1) count) total index)
    (λ c. ConstantsFailFrom n (is_wide c) total count (index + 1)) bytes fault

-- The text of the constants 1 to count - 1, of which number 0 is unusable.
pub record IsConstantsText (count : ℕ) (pool : List Constant) (text : List ℕ) : Type 0 where
  pub others : List Constant
  pub is : pool ≡ constants.Unusable ∷ others
  pub number : length others ≡ count - 1
  pub fit : AreConstants false others
  pub spelled : text ≡ constants_text others

abbrev pub ConstantsFail : ℕ → ℕ → List ℕ → ClassFault → Type 0
ConstantsFail count total bytes fault = ConstantsFailFrom (count - 1) false total count 1 bytes fault

abbrev pub IsBytes : List ℕ → Type 0
IsBytes bytes = (i : ℕ) → get_or bytes i 0 < 256
