-- The texts of methods, of instructions, and of places in methods.
use Rattle.std.specs.Prelude.{ℕ, List, [], ◌∷◌, ◌++◌, Option, Some, None, Bool, ◌==◌, ◌||◌, ◌&&◌, if◌then◌else◌, nat_le}
use Rattle.std.specs.Prelude.{codes, decimal, drop, map, slice_get, slice_index, unwrap_or}
use Rattle.std.specs.Int.{w16, from_be_bytes}
use Rattle.classfile.specs.ClassFile.{ClassFile}
use Rattle.classfile.specs.Lookup.{class_name_of, utf8_of}
use Rattle.classfile.specs.Members.{code_among}
use Rattle.classfile.specs.Printing.{printed_units, units_of}
use Rattle.classfile.specs.declared.code.Code.{Code}
use Rattle.classfile.specs.declared.constant.Constant.{Constant}
use Rattle.classfile.specs.declared.constant.Constant.TheVariants as constants
use Rattle.classfile.specs.declared.member.Member.{Member}
use Rattle.instruction_text.specs.declared.mnemonic.TheConstants.{MNEMONICS}

-- ---- names

-- a name for a reader, no text where there is none
abbrev pub printed_name : Option (List ℕ) → List ℕ
printed_name name = printed_units (units_of (unwrap_or name []))

-- the text at an index
abbrev pub text_at : ClassFile → ℕ → List ℕ
text_at file index = printed_name (utf8_of file.constants index)

-- the name of the class at an index, with slashes
abbrev pub class_at : ClassFile → ℕ → List ℕ
class_at file index = printed_name (class_name_of file.constants index)

-- ---- what a constant names

-- a name and a descriptor, with this between them
abbrev pub signature_in : ClassFile → List ℕ → Option Constant → List ℕ
signature_in file between (Some (constants.NameAndType name descriptor)) =
    text_at file name ++ (between ++ text_at file descriptor)
signature_in file between _ = []

abbrev pub signature_at : ClassFile → List ℕ → ℕ → List ℕ
signature_at file between index = signature_in file between (slice_get file.constants index)

-- a member of a class
abbrev pub member_text : ClassFile → List ℕ → ℕ → ℕ → List ℕ
member_text file between class signature = class_at file class ++ (codes "." ++ signature_at file between signature)

-- a class, a member, or the method of an invokedynamic
abbrev pub named_in : ClassFile → Option Constant → List ℕ
named_in file (Some (constants.Class name)) = text_at file name
named_in file (Some (constants.Fieldref class signature)) = member_text file (codes ":") class signature
named_in file (Some (constants.Methodref class signature)) = member_text file [] class signature
named_in file (Some (constants.InterfaceMethodref class signature)) = member_text file [] class signature
named_in file (Some (constants.InvokeDynamic bootstrap signature)) = signature_at file [] signature
named_in file _ = []

abbrev pub named_at : ClassFile → ℕ → List ℕ
named_at file index = named_in file (slice_get file.constants index)

-- the kind of what ldc and its kin push, and of a class its name
abbrev pub pushed_in : ClassFile → Option Constant → List ℕ
pushed_in file (Some (constants.Integer bits)) = codes "int"
pushed_in file (Some (constants.Float bits)) = codes "float"
pushed_in file (Some (constants.Long high low)) = codes "long"
pushed_in file (Some (constants.Double high low)) = codes "double"
pushed_in file (Some (constants.String text)) = codes "string"
pushed_in file (Some (constants.MethodHandle kind reference)) = codes "method handle"
pushed_in file (Some (constants.MethodType descriptor)) = codes "method type"
pushed_in file (Some (constants.Class name)) = codes "class " ++ text_at file name
pushed_in file _ = []

abbrev pub pushed_at : ClassFile → ℕ → List ℕ
pushed_at file index = pushed_in file (slice_get file.constants index)

-- ---- instructions

-- the word at a place, `?` where there is none
abbrev pub word_at : List (List ℕ) → ℕ → List ℕ
word_at words place = unwrap_or (slice_get words place) (codes "?")

-- the mnemonic of an opcode, by the table of the code (JVMS 7)
unfoldable pub mnemonic_text : ℕ → List ℕ
mnemonic_text opcode = word_at (map (λ word. word.now) MNEMONICS) opcode

-- the type of an array's elements by its code (JVMS 6.5, newarray)
unfoldable pub primitive_text : ℕ → List ℕ
primitive_text code =
    if code == 4 then codes "boolean" else
    (if code == 5 then codes "char" else
    (if code == 6 then codes "float" else
    (if code == 7 then codes "double" else
    (if code == 8 then codes "byte" else
    (if code == 9 then codes "short" else
    (if code == 10 then codes "int" else
    (if code == 11 then codes "long" else codes "?")))))))

-- the index that the first two bytes spell
abbrev pub index_of : List ℕ → ℕ
index_of (high ∷ low ∷ rest) = from_be_bytes w16 (high ∷ low ∷ [])
index_of _ = 0

-- ldc_w and ldc2_w
abbrev pub is_wide_load : ℕ → Bool
is_wide_load opcode = (opcode == 19) || (opcode == 20)

-- from getstatic to new, anewarray, checkcast, instanceof and multianewarray
abbrev pub names_constant : ℕ → Bool
names_constant opcode =
    (nat_le 178 opcode && nat_le opcode 187) || ((opcode == 189) || ((opcode == 192) || ((opcode == 193)
    || (opcode == 197))))

-- what the operands of an instruction name (JVMS 6.5)
unfoldable pub operand_text : ClassFile → ℕ → List ℕ → List ℕ
operand_text file opcode operands =
    if opcode == 18 then pushed_at file (slice_index operands 0) else
    (if is_wide_load opcode then pushed_at file (index_of operands) else
    (if names_constant opcode then named_at file (index_of operands) else
    (if opcode == 188 then primitive_text (slice_index operands 0) else
    (if opcode == 196 then mnemonic_text (slice_index operands 0) else []))))

-- after a blank, if it is any
abbrev pub after_blank : List ℕ → List ℕ
after_blank [] = []
after_blank (first ∷ rest) = codes " " ++ first ∷ rest

-- the bytes of the code, none where there is none
abbrev pub bytes_of : Option Code → List ℕ
bytes_of None = []
bytes_of (Some code) = code.code

abbrev pub body_of : Option Member → List ℕ
body_of None = []
body_of (Some method) = bytes_of (code_among method.attributes)

-- the bytes of a method's code from a pc on
abbrev pub code_from : ClassFile → ℕ → ℕ → List ℕ
code_from file index pc = drop pc (body_of (slice_get file.methods index))

-- the mnemonic, and what the operands name; `?` where no code stands
abbrev pub text_of_code : ClassFile → List ℕ → List ℕ
text_of_code file [] = codes "?"
text_of_code file (opcode ∷ operands) = mnemonic_text opcode ++ after_blank (operand_text file opcode operands)

-- the instruction that begins at a pc of a method
unfoldable pub instruction_text : ClassFile → ℕ → ℕ → List ℕ
instruction_text file index pc = text_of_code file (code_from file index pc)

-- ---- methods and places

-- its name and its descriptor, and nothing where there is no method
abbrev pub signature_text : ClassFile → Option Member → List ℕ
signature_text file None = []
signature_text file (Some method) = text_at file method.name ++ text_at file method.descriptor

-- the class, a dot, and the method by its place among those of the class
unfoldable pub method_text : ClassFile → ℕ → List ℕ
method_text file index =
    class_at file file.this_class ++ (codes "." ++ signature_text file (slice_get file.methods index))

-- the method, the pc, and the instruction there, each after a blank
unfoldable pub place_text : ClassFile → ℕ → ℕ → List ℕ
place_text file index pc =
    method_text file index ++ (codes " " ++ (decimal pc ++ (codes " " ++ instruction_text file index pc)))
