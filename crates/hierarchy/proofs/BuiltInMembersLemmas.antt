-- No two members of a built-in class have one name and descriptor.
use Rattle.std.proofs.Common.{◌≡◌, true, false, List, [], ◌∷◌, Some, refl, sym, ap, ◌∙◌}
use Rattle.std.specs.List.{find}
use Rattle.std.proofs.lemmas.Option.{same_Some}
use Rattle.built_in.specs.declared.class_id.BuiltIn.{BuiltIn}
use Rattle.built_in.specs.declared.class_id.BuiltIn.TheVariants as builtins
use Rattle.built_in.specs.declared.method.Printed.{Printed}
use Rattle.built_in.specs.declared.method.Printed.TheVariants as printed
use Rattle.built_in.specs.declared.method.BuiltInMethod.{BuiltInMethod}
use Rattle.built_in.specs.declared.method.BuiltInMethod.TheVariants as members
use Rattle.built_in.specs.Keys.{NameAndType}
use Rattle.built_in.specs.Methods.{HasMember, HasArrayMember, key_of_member, members_of, is_throwable}
use Rattle.hierarchy.specs.Selection.{has_key}

-- the member is the first of its name and descriptor
abbrev pub IsFirst : BuiltInMethod → List BuiltInMethod → Type 0
IsFirst m ms = find (has_key (key_of_member m)) ms ≡ Some m

same_first : (ms : List BuiltInMethod) (m n : BuiltInMethod) → IsFirst m ms → IsFirst n ms
    → key_of_member m ≡ key_of_member n → m ≡ n
same_first ms m n at-m at-n same =
    same_Some m n (sym at-m ∙ ap (λ (key : NameAndType). find (has_key key) ms) same ∙ at-n)

plain_new : (class : BuiltIn) → is_throwable class ≡ false → IsFirst members.NewObject (members_of class)
plain_new builtins.Object e = refl
plain_new builtins.String e = refl
plain_new builtins.System e = refl
plain_new builtins.Enum e = refl
plain_new builtins.PrintStream e = refl
plain_new _ e = absurd cc

throwable_new : (class : BuiltIn) → is_throwable class ≡ true → IsFirst members.NewThrowable (members_of class)
    × IsFirst members.NewThrowableOfText (members_of class)
throwable_new builtins.Object e = absurd cc
throwable_new builtins.String e = absurd cc
throwable_new builtins.System e = absurd cc
throwable_new builtins.Enum e = absurd cc
throwable_new builtins.PrintStream e = absurd cc
throwable_new _ e = (refl, refl)

prints : (what : Printed) → IsFirst (members.Print what) (members_of builtins.PrintStream)
    × IsFirst (members.PrintLine what) (members_of builtins.PrintStream)
prints printed.Int = (refl, refl)
prints printed.Long = (refl, refl)
prints printed.Char = (refl, refl)
prints printed.Boolean = (refl, refl)
prints printed.String = (refl, refl)

pub is_first : {class : BuiltIn} {m : BuiltInMethod} → HasMember class m → IsFirst m (members_of class)
is_first (HasMember.object {class = class} e) = plain_new class e
is_first (HasMember.throwable {class = class} e) = (throwable_new class e).0
is_first (HasMember.throwable_of_text {class = class} e) = (throwable_new class e).1
is_first HasMember.enum = refl
is_first HasMember.enum_name = refl
is_first HasMember.enum_ordinal = refl
is_first (HasMember.print what) = (prints what).0
is_first (HasMember.print_line what) = (prints what).1
is_first HasMember.end_line = refl

pub same_member : {class : BuiltIn} {m n : BuiltInMethod} → HasMember class m → HasMember class n
    → key_of_member m ≡ key_of_member n → m ≡ n
same_member {class} {m} {n} of-m of-n same = same_first (members_of class) m n (is_first of-m) (is_first of-n) same

-- ---- those of array classes

pub is_first_of_array : {m : BuiltInMethod} → HasArrayMember m
    → IsFirst m (members.CloneArray ∷ members.NewObject ∷ [])
is_first_of_array HasArrayMember.clone = refl
is_first_of_array HasArrayMember.object = refl

pub same_array_member : {m n : BuiltInMethod} → HasArrayMember m → HasArrayMember n
    → key_of_member m ≡ key_of_member n → m ≡ n
same_array_member {m} {n} of-m of-n same =
    same_first (members.CloneArray ∷ members.NewObject ∷ []) m n (is_first_of_array of-m) (is_first_of_array of-n) same
