-- The members of the classes that the machine has of itself, and of array classes.
use Rattle.std.specs.Prelude.{◌≡◌, ℕ, Bool, true, false, List, [], ◌∷◌, codes}
use Rattle.built_in.specs.declared.class_id.BuiltIn.{BuiltIn}
use Rattle.built_in.specs.declared.class_id.BuiltIn.TheVariants as builtins
use Rattle.built_in.specs.Keys.{NameAndType}
use Rattle.built_in.specs.declared.method.Printed.{Printed}
use Rattle.built_in.specs.declared.method.Printed.TheVariants as printed
use Rattle.built_in.specs.declared.method.BuiltInMethod.{BuiltInMethod}
use Rattle.built_in.specs.declared.method.BuiltInMethod.TheVariants as members

-- the descriptor of the parameter that is printed
abbrev pub printed_descriptor : Printed → List ℕ
printed_descriptor printed.Int = codes "(I)V"
printed_descriptor printed.Long = codes "(J)V"
printed_descriptor printed.Char = codes "(C)V"
printed_descriptor printed.Boolean = codes "(Z)V"
printed_descriptor printed.String = codes "(Ljava/lang/String;)V"

-- the name and the descriptor of a member
abbrev pub name_of_member : BuiltInMethod → List ℕ
name_of_member members.NewObject = codes "<init>"
name_of_member members.NewThrowable = codes "<init>"
name_of_member members.NewThrowableOfText = codes "<init>"
name_of_member members.NewEnum = codes "<init>"
name_of_member members.EnumName = codes "name"
name_of_member members.EnumOrdinal = codes "ordinal"
name_of_member (members.Print what) = codes "print"
name_of_member (members.PrintLine what) = codes "println"
name_of_member members.EndLine = codes "println"
name_of_member members.CloneArray = codes "clone"

abbrev pub descriptor_of_member : BuiltInMethod → List ℕ
descriptor_of_member members.NewObject = codes "()V"
descriptor_of_member members.NewThrowable = codes "()V"
descriptor_of_member members.NewThrowableOfText = codes "(Ljava/lang/String;)V"
descriptor_of_member members.NewEnum = codes "(Ljava/lang/String;I)V"
descriptor_of_member members.EnumName = codes "()Ljava/lang/String;"
descriptor_of_member members.EnumOrdinal = codes "()I"
descriptor_of_member (members.Print what) = printed_descriptor what
descriptor_of_member (members.PrintLine what) = printed_descriptor what
descriptor_of_member members.EndLine = codes "()V"
descriptor_of_member members.CloneArray = codes "()Ljava/lang/Object;"

abbrev pub key_of_member : BuiltInMethod → NameAndType
key_of_member m = record { name = name_of_member m; descriptor = descriptor_of_member m }

-- the classes below Throwable, and itself
abbrev pub is_throwable : BuiltIn → Bool
is_throwable builtins.Object = false
is_throwable builtins.String = false
is_throwable builtins.System = false
is_throwable builtins.Enum = false
is_throwable builtins.PrintStream = false
is_throwable _ = true

-- the members of a class: its own ones, and those of Object
pub data HasMember : BuiltIn → BuiltInMethod → Type 0 where
  object : {class : BuiltIn} → is_throwable class ≡ false → HasMember class members.NewObject
  throwable : {class : BuiltIn} → is_throwable class ≡ true → HasMember class members.NewThrowable
  throwable_of_text : {class : BuiltIn} → is_throwable class ≡ true → HasMember class members.NewThrowableOfText
  enum : HasMember builtins.Enum members.NewEnum
  enum_name : HasMember builtins.Enum members.EnumName
  enum_ordinal : HasMember builtins.Enum members.EnumOrdinal
  print : (what : Printed) → HasMember builtins.PrintStream (members.Print what)
  print_line : (what : Printed) → HasMember builtins.PrintStream (members.PrintLine what)
  end_line : HasMember builtins.PrintStream members.EndLine

-- the same as lists
abbrev pub members_of : BuiltIn → List BuiltInMethod
members_of builtins.Object = members.NewObject ∷ []
members_of builtins.String = members.NewObject ∷ []
members_of builtins.System = members.NewObject ∷ []
members_of builtins.Enum = members.NewObject ∷ members.NewEnum ∷ members.EnumName ∷ members.EnumOrdinal ∷ []
members_of builtins.PrintStream =
    members.NewObject ∷ members.Print printed.Int ∷ members.Print printed.Long ∷ members.Print printed.Char
    ∷ members.Print printed.Boolean
    ∷ members.Print printed.String ∷ members.PrintLine printed.Int ∷ members.PrintLine printed.Long ∷ members.PrintLine
    printed.Char
    ∷ members.PrintLine printed.Boolean ∷ members.PrintLine printed.String ∷ members.EndLine ∷ []
members_of _ = members.NewThrowable ∷ members.NewThrowableOfText ∷ []

-- those of an array class: its own `clone` (JVMS 6.5, invokevirtual), and those of Object
pub data HasArrayMember : BuiltInMethod → Type 0 where
  clone : HasArrayMember members.CloneArray
  object : HasArrayMember members.NewObject

-- the field `out` of System
abbrev pub out_key : NameAndType
out_key = record { name = codes "out"; descriptor = codes "Ljava/io/PrintStream;" }
