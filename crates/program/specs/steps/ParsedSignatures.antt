-- Method descriptors as they are read, type by type.
use Rattle.std.specs.Prelude.{◌≡◌, ℕ, ◌+◌, Bool, true, not, List, [], ◌∷◌, ◌++◌, length, drop, map, Option, Some, None}
use Rattle.std.specs.Prelude.{◌==◌, if◌then◌else◌, unwrap_or, position}
use Rattle.std.specs.List.{All, flat_map}
use Rattle.classfile.specs.declared.constant.Constant.{Constant}
use Rattle.classfile.specs.Grammar.{IsFieldDescriptor, IsMethodDescriptor}
use Rattle.classfile.specs.Lookup.{utf8_in}
use Rattle.program.specs.declared.runtime_constant.FieldKind.{FieldKind}
use Rattle.program.specs.declared.signature.Signature.{Signature}
use Rattle.program.specs.Fields.{field_kind}
use Rattle.program.specs.Signatures.{signature_of, IsSignatureOf}

-- how many `[` stand first
abbrev pub dimensions : List ℕ → ℕ
dimensions text = unwrap_or (position (λ b. not (b == 91)) text) (length text)

abbrev pub after_place : Option ℕ → ℕ → ℕ
after_place None count = count
after_place (Some place) count = place + 1

-- up to the first `;`, with it
abbrev pub name_length : List ℕ → ℕ
name_length text = after_place (position (λ b. b == 59) text) (length text)

abbrev pub element_length : List ℕ → ℕ
element_length [] = 0
element_length (b ∷ bs) = if b == 76 then name_length (b ∷ bs) else 1

abbrev pub type_length : List ℕ → ℕ
type_length text = dimensions text + element_length (drop (dimensions text) text)

abbrev pub ends_parameters : List ℕ → Bool
ends_parameters [] = true
ends_parameters (b ∷ bs) = b == 41

-- the kinds of the types before a `)`, and the rest from there on
abbrev pub AreParameters : List ℕ → List FieldKind → List ℕ → Type 0
AreParameters text kinds rest = (types : List (List ℕ)) (tail : List ℕ) → All IsFieldDescriptor types
    → text ≡ flat_map (λ p. p) types ++ 41 ∷ tail → (kinds ≡ map field_kind types) × (rest ≡ 41 ∷ tail)

-- what was read of a text, if that is a method descriptor
abbrev pub IsParsed : List ℕ → Signature → Type 0
IsParsed text signature = (d : IsMethodDescriptor text) → signature ≡ signature_of d

-- an entry of a constant pool
abbrev pub IsEntry : Constant → Option Signature → Type 0
IsEntry constant entry = IsSignatureOf (unwrap_or (utf8_in (Some constant)) []) entry
