-- The lists of built-in members have all that there are, and no others.
use Rattle.std.proofs.Common.{◌≡◌, ◌≢◌, ℕ, true, false, List, [], ◌∷◌, Option, Some, None, MatchOption, slice_get, refl}
use Rattle.std.proofs.Common.{sym, subst}
use Rattle.std.specs.List.{All, AllByRecursion, Contains}
use Rattle.std.proofs.lemmas.List.Elements.{All-from_recursion, All-contains}
use Rattle.built_in.specs.declared.class_id.BuiltIn.{BuiltIn}
use Rattle.built_in.specs.declared.class_id.BuiltIn.TheVariants as builtins
use Rattle.built_in.specs.Keys.{NameAndType}
use Rattle.built_in.specs.declared.method.Printed.{Printed}
use Rattle.built_in.specs.declared.method.Printed.TheVariants as printed
use Rattle.built_in.specs.declared.method.BuiltInMethod.{BuiltInMethod}
use Rattle.built_in.specs.declared.method.BuiltInMethod.TheVariants as members
use Rattle.built_in.specs.Methods.{HasMember, object, throwable, throwable_of_text, enum, enum_name, enum_ordinal}
use Rattle.built_in.specs.Methods.{print, print_line, end_line}
use Rattle.built_in.specs.Methods.{HasArrayMember, key_of_member, members_of, is_throwable}
use Rattle.std.proofs.lemmas.Option.{slice_get_within, get_or_from_slice_get}

element_at : {A : Type 0} (xs : List A) (i : ℕ) (x : A) → slice_get xs i ≡ Some x → Contains xs x
element_at xs i x h = (i, slice_get_within xs i x h, get_or_from_slice_get xs i x x h)

-- ---- what is listed is a member

pub all_listed : (class : BuiltIn) → All (HasMember class) (members_of class)
all_listed class = All-from_recursion (HasMember class) (members_of class) (each class)
  where
    each : (c : BuiltIn) → AllByRecursion (HasMember c) (members_of c)
    each builtins.Object = (object refl, tt)
    each builtins.String = (object refl, tt)
    each builtins.System = (object refl, tt)
    each builtins.Enum = (object refl, (enum, (enum_name, (enum_ordinal, tt))))
    each builtins.PrintStream = (
      object refl,
      (
        print printed.Int,
        (
          print printed.Long,
          (
            print printed.Char,
            (
              print printed.Boolean,
              (
                print printed.String,
                (
                  print_line printed.Int,
                  (
                    print_line printed.Long,
                    (
                      print_line printed.Char,
                      (
                        print_line printed.Boolean,
                        (
                          print_line printed.String,
                          (end_line, tt),
                        ),
                      ),
                    ),
                  ),
                ),
              ),
            ),
          ),
        ),
      ),
    )
    each _ = (throwable refl, (throwable_of_text refl, tt))

-- ---- what is a member is listed

plain_has_new : (class : BuiltIn) → is_throwable class ≡ false → Contains (members_of class) members.NewObject
plain_has_new builtins.Object e = element_at (members_of builtins.Object) 0 _ refl
plain_has_new builtins.String e = element_at (members_of builtins.String) 0 _ refl
plain_has_new builtins.System e = element_at (members_of builtins.System) 0 _ refl
plain_has_new builtins.Enum e = element_at (members_of builtins.Enum) 0 _ refl
plain_has_new builtins.PrintStream e = element_at (members_of builtins.PrintStream) 0 _ refl
plain_has_new _ e = absurd cc

abbrev of_throwables : List BuiltInMethod
of_throwables = members.NewThrowable ∷ members.NewThrowableOfText ∷ []

throwables_have : (class : BuiltIn) → is_throwable class ≡ true → members_of class ≡ of_throwables
throwables_have builtins.Object e = absurd cc
throwables_have builtins.String e = absurd cc
throwables_have builtins.System e = absurd cc
throwables_have builtins.Enum e = absurd cc
throwables_have builtins.PrintStream e = absurd cc
throwables_have _ e = refl

of_print_stream : (i : ℕ) (m : BuiltInMethod) → slice_get (members_of builtins.PrintStream) i ≡ Some m
    → Contains (members_of builtins.PrintStream) m
of_print_stream i m at = element_at (members_of builtins.PrintStream) i m at

has_print : (what : Printed) → Contains (members_of builtins.PrintStream) (members.Print what)
has_print printed.Int = of_print_stream 1 _ refl
has_print printed.Long = of_print_stream 2 _ refl
has_print printed.Char = of_print_stream 3 _ refl
has_print printed.Boolean = of_print_stream 4 _ refl
has_print printed.String = of_print_stream 5 _ refl

has_print_line : (what : Printed) → Contains (members_of builtins.PrintStream) (members.PrintLine what)
has_print_line printed.Int = of_print_stream 6 _ refl
has_print_line printed.Long = of_print_stream 7 _ refl
has_print_line printed.Char = of_print_stream 8 _ refl
has_print_line printed.Boolean = of_print_stream 9 _ refl
has_print_line printed.String = of_print_stream 10 _ refl

pub is_listed : {class : BuiltIn} {m : BuiltInMethod} → HasMember class m → Contains (members_of class) m
is_listed (object {class = class} e) = plain_has_new class e
is_listed (throwable {class = class} e) =
    subst (λ (l : List BuiltInMethod). Contains l members.NewThrowable) (sym (throwables_have class e))
    (element_at of_throwables 0 _ refl)
is_listed (throwable_of_text {class = class} e) =
    subst (λ (l : List BuiltInMethod). Contains l members.NewThrowableOfText) (sym (throwables_have class e))
    (element_at of_throwables 1 _ refl)
is_listed enum = element_at (members_of builtins.Enum) 1 _ refl
is_listed enum_name = element_at (members_of builtins.Enum) 2 _ refl
is_listed enum_ordinal = element_at (members_of builtins.Enum) 3 _ refl
is_listed (print what) = has_print what
is_listed (print_line what) = has_print_line what
is_listed end_line = of_print_stream 11 _ refl

-- ---- an answer from such a list

pub answer_from_list : (P : BuiltInMethod → Type 0) (list : List BuiltInMethod) (key : NameAndType)
    (r : Option BuiltInMethod) → All P list
    → ((m : BuiltInMethod) → P m → Contains list m)
    → MatchOption r (All (λ m. key_of_member m ≢ key) list) (λ m. Contains list m × (key_of_member m ≡ key))
    → MatchOption r ((m : BuiltInMethod) → P m → key_of_member m ≢ key) (λ m. P m × (key_of_member m ≡ key))
answer_from_list P list key None all listed none = λ m p. All-contains (λ x. key_of_member x ≢ key) list m none
    (listed m p)
answer_from_list P list key (Some m) all listed found = (All-contains P list m all found.0, found.1)

-- ---- array classes

abbrev pub of_arrays : List BuiltInMethod
of_arrays = members.CloneArray ∷ members.NewObject ∷ []

pub array_listed : All HasArrayMember (members.CloneArray ∷ members.NewObject ∷ [])
array_listed = All-from_recursion HasArrayMember of_arrays (HasArrayMember.clone, (HasArrayMember.object, tt))

pub array_is_listed : {m : BuiltInMethod} → HasArrayMember m → Contains (members.CloneArray ∷ members.NewObject ∷ []) m
array_is_listed HasArrayMember.clone = element_at of_arrays 0 _ refl
array_is_listed HasArrayMember.object = element_at of_arrays 1 _ refl
