-- Each built-in class stands in the list of them, so that a name that none of the list has is no built-in class's.
use Rattle.std.proofs.Common.{◌≡◌, ◌≢◌, ◌<◌, ℕ, List, Option, Some, None, MatchOption, Bor, arith}
use Rattle.std.specs.Prelude.{All, option_copied, length}
use Rattle.std.specs.List.{AllWithin, HoldsAt}
use Rattle.std.proofs.lemmas.List.Elements.{All-from_all_within}
use Rattle.built_in.specs.declared.class_id.BuiltIn.{BuiltIn}
use Rattle.built_in.specs.declared.class_id.BuiltIn.TheVariants as classes
use Rattle.built_in.specs.declared.class_id.TheConstants.{ALL}
use Rattle.built_in.specs.ClassNames.{name_of_built_in}

each_class : (P : BuiltIn → Type 0) → All P ALL → (c : BuiltIn) → P c
each_class P all classes.Object = all 0 classes.Object (omega arith)
each_class P all classes.String = all 1 classes.String (omega arith)
each_class P all classes.System = all 2 classes.System (omega arith)
each_class P all classes.Enum = all 3 classes.Enum (omega arith)
each_class P all classes.Throwable = all 4 classes.Throwable (omega arith)
each_class P all classes.Exception = all 5 classes.Exception (omega arith)
each_class P all classes.RuntimeException = all 6 classes.RuntimeException (omega arith)
each_class P all classes.ArithmeticException = all 7 classes.ArithmeticException (omega arith)
each_class P all classes.NullPointerException = all 8 classes.NullPointerException (omega arith)
each_class P all classes.ClassCastException = all 9 classes.ClassCastException (omega arith)
each_class P all classes.ArrayStoreException = all 10 classes.ArrayStoreException (omega arith)
each_class P all classes.NegativeArraySizeException = all 11 classes.NegativeArraySizeException (omega arith)
each_class P all classes.IllegalMonitorStateException = all 12 classes.IllegalMonitorStateException (omega arith)
each_class P all classes.IndexOutOfBoundsException = all 13 classes.IndexOutOfBoundsException (omega arith)
each_class P all classes.ArrayIndexOutOfBoundsException = all 14 classes.ArrayIndexOutOfBoundsException (omega arith)
each_class P all classes.Error = all 15 classes.Error (omega arith)
each_class P all classes.LinkageError = all 16 classes.LinkageError (omega arith)
each_class P all classes.ExceptionInInitializerError = all 17 classes.ExceptionInInitializerError (omega arith)
each_class P all classes.NoClassDefFoundError = all 18 classes.NoClassDefFoundError (omega arith)
each_class P all classes.PrintStream = all 19 classes.PrintStream (omega arith)

-- what `find` says of the list, said of all built-in classes
pub named_from : (name : List ℕ) (r : Option (Bor BuiltIn)) →
    MatchOption r (AllWithin (λ c. name_of_built_in c ≢ name) ALL 0 (length ALL))
    (λ x. (name_of_built_in x.now ≡ name) × (i : ℕ) × (i < length ALL) × HoldsAt (λ c. c ≡ x.now) ALL i
    × AllWithin (λ c. name_of_built_in c ≢ name) ALL 0 i) →
    MatchOption (option_copied r) ((c : BuiltIn) → name_of_built_in c ≢ name) (λ c. name_of_built_in c ≡ name)
named_from name None all =
    each_class (λ c. name_of_built_in c ≢ name) (All-from_all_within (λ c. name_of_built_in c ≢ name) ALL all)
named_from name (Some x) found = found.0
