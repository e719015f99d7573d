-- What methods take and return, by their descriptors (JVMS 4.3.3).
use Rattle.std.specs.Prelude.{◌≡◌, ℕ, List, length, map, codes, Option, Some, None, slice_get, if◌then◌else◌}
use Rattle.std.specs.Str.{bytes_eq}
use Rattle.classfile.specs.ClassFile.{ClassFile}
use Rattle.classfile.specs.Grammar.{IsMethodDescriptor}
use Rattle.loading.specs.Names.{text_at}
use Rattle.program.specs.declared.signature.ReturnKind.{ReturnKind}
use Rattle.program.specs.declared.signature.ReturnKind.TheVariants as returns
use Rattle.program.specs.declared.signature.Signature.{Signature}
use Rattle.program.specs.Fields.{field_kind}

-- V, or the kind of a type
abbrev pub return_kind : List ℕ → ReturnKind
return_kind text = if bytes_eq text (codes "V") then returns.Nothing else returns.Value (field_kind text)

-- the kinds of a method descriptor's parameter types, in order, and of its return type
abbrev pub signature_of : {text : List ℕ} → IsMethodDescriptor text → Signature
signature_of d = record { parameters = map field_kind d.parameters; returns = return_kind d.returned }

-- what a text says: a signature where it is a method descriptor, and none where it is not
pub record IsSignatureOf (text : List ℕ) (signature : Option Signature) : Type 0 where
  pub descriptor : (d : IsMethodDescriptor text) → signature ≡ Some (signature_of d)
  pub other : ¬ IsMethodDescriptor text → signature ≡ None

-- what a method of this descriptor returns; a text that is no method descriptor, which no method has (JVMS 4.6), says
-- nothing
pub record IsReturnKindOf (text : List ℕ) (kind : ReturnKind) : Type 0 where
  pub descriptor : (d : IsMethodDescriptor text) → kind ≡ return_kind d.returned
  pub other : ¬ IsMethodDescriptor text → kind ≡ returns.Nothing

abbrev pub signature_if : Option (Option Signature) → Option Signature
signature_if None = None
signature_if (Some entry) = entry

-- the signature at an index of a class file's constant pool
abbrev pub signature_in : List (Option Signature) → ℕ → Option Signature
signature_in signatures index = signature_if (slice_get signatures index)

-- The signatures that a class file's constant pool says, one place for each of its entries.
pub record AreSignatures (f : ClassFile) (signatures : List (Option Signature)) : Type 0 where
  pub count : length signatures ≡ length f.constants
  pub each : (index : ℕ) → IsSignatureOf (text_at f index) (signature_in signatures index)
