-- What a constant pool has to be (JVMS 4.4).
use Rattle.std.specs.Prelude.{ℕ, ◌<◌, ◌^◌, ◌⊎◌, true, List, length, slice_get, IsSomeAnd}
use Rattle.std.specs.List.{All}
use Rattle.classfile.specs.declared.constant.Constant.{Constant}
use Rattle.classfile.specs.declared.constant.Constant.TheVariants as constants
use Rattle.classfile.specs.Spelling.{AreConstants}
use Rattle.classfile.specs.Grammar.{IsFieldDescriptor, IsMethodDescriptor, IsClassName}

-- an index of a constant of which P holds
abbrev pub IsIndexOf : (Constant → Type 0) → List Constant → ℕ → Type 0
IsIndexOf P pool index = IsSomeAnd (slice_get pool index) P

abbrev pub IsUtf8 : Constant → Type 0
IsUtf8 (constants.Utf8 text) = Unit {0}
IsUtf8 _ = ⊥

-- a Utf8 of whose text P holds
abbrev pub IsUtf8Where : (List ℕ → Type 0) → Constant → Type 0
IsUtf8Where P (constants.Utf8 text) = P text
IsUtf8Where P _ = ⊥

abbrev pub IsClass : Constant → Type 0
IsClass (constants.Class name) = Unit {0}
IsClass _ = ⊥

-- a Class of whose name P holds
abbrev pub IsClassNamed : (List ℕ → Type 0) → List Constant → Constant → Type 0
IsClassNamed P pool (constants.Class name) = IsIndexOf (IsUtf8Where P) pool name
IsClassNamed P pool _ = ⊥

abbrev pub IsNameAndType : Constant → Type 0
IsNameAndType (constants.NameAndType name descriptor) = Unit {0}
IsNameAndType _ = ⊥

-- a NameAndType of whose descriptor P holds
abbrev pub IsTyped : (List ℕ → Type 0) → List Constant → Constant → Type 0
IsTyped P pool (constants.NameAndType name descriptor) = IsIndexOf (IsUtf8Where P) pool descriptor
IsTyped P pool _ = ⊥

-- a Fieldref, a Methodref or an InterfaceMethodref
abbrev pub IsMemberref : Constant → Type 0
IsMemberref (constants.Fieldref class name_and_type) = Unit {0}
IsMemberref (constants.Methodref class name_and_type) = Unit {0}
IsMemberref (constants.InterfaceMethodref class name_and_type) = Unit {0}
IsMemberref _ = ⊥

abbrev pub IsDescriptor : List ℕ → Type 0
IsDescriptor text = IsFieldDescriptor text ⊎ IsMethodDescriptor text

-- The references of a constant to others, earlier or later.
abbrev pub HasReferences : List Constant → Constant → Type 0
-- JVMS 4.4.1
HasReferences pool (constants.Class name) = IsIndexOf (IsUtf8Where IsClassName) pool name
-- JVMS 4.4.2
HasReferences pool (constants.Fieldref class name_and_type) = IsIndexOf IsClass pool class
    × IsIndexOf (IsTyped IsFieldDescriptor pool) pool name_and_type
HasReferences pool (constants.Methodref class name_and_type) = IsIndexOf IsClass pool class
    × IsIndexOf (IsTyped IsMethodDescriptor pool) pool name_and_type
HasReferences pool (constants.InterfaceMethodref class name_and_type) = IsIndexOf IsClass pool class
    × IsIndexOf (IsTyped IsMethodDescriptor pool) pool name_and_type
-- JVMS 4.4.3
HasReferences pool (constants.String text) = IsIndexOf IsUtf8 pool text
-- JVMS 4.4.6
HasReferences pool (constants.NameAndType name descriptor) = IsIndexOf IsUtf8 pool name
    × IsIndexOf (IsUtf8Where IsDescriptor) pool descriptor
-- JVMS 4.4.8
HasReferences pool (constants.MethodHandle kind reference) = (0 < kind) × (kind < 10)
    × IsIndexOf IsMemberref pool reference
-- JVMS 4.4.9
HasReferences pool (constants.MethodType descriptor) = IsIndexOf IsUtf8 pool descriptor
-- JVMS 4.4.10
HasReferences pool (constants.InvokeDynamic bootstrap name_and_type) = IsIndexOf IsNameAndType pool name_and_type
-- the others have none
HasReferences pool _ = Unit {0}

-- A constant pool.
pub record IsPool (pool : List Constant) : Type 0 where
  -- an index fits 16 bits
  pub count : length pool < 2 ^ 16
  -- index 0 is unusable, and the index after a Long or a Double; the constants' numbers and texts fit
  pub each : AreConstants true pool
  pub references : All (HasReferences pool) pool
