-- Which of the classes that the machine has of itself stand below which (JLS 11.1.1; the API of Java SE 8).
use Rattle.std.specs.Prelude.{ℕ, ◌==◌, Bool, List, [], ◌∷◌}
use Rattle.std.specs.List.{list_any}
use Rattle.built_in.specs.declared.class_id.BuiltIn.{BuiltIn}
use Rattle.built_in.specs.declared.class_id.BuiltIn.TheVariants as classes

abbrev from_object : List BuiltIn
from_object = classes.Object ∷ []

abbrev from_throwable : List BuiltIn
from_throwable = classes.Throwable ∷ from_object

abbrev from_exception : List BuiltIn
from_exception = classes.Exception ∷ from_throwable

abbrev from_runtime_exception : List BuiltIn
from_runtime_exception = classes.RuntimeException ∷ from_exception

abbrev from_error : List BuiltIn
from_error = classes.Error ∷ from_throwable

abbrev from_linkage_error : List BuiltIn
from_linkage_error = classes.LinkageError ∷ from_error

-- the superclasses of a class, the nearest first
abbrev pub superclasses_of_built_in : BuiltIn → List BuiltIn
superclasses_of_built_in classes.Object = []
superclasses_of_built_in classes.String = from_object
superclasses_of_built_in classes.System = from_object
superclasses_of_built_in classes.Enum = from_object
superclasses_of_built_in classes.Throwable = from_object
superclasses_of_built_in classes.Exception = from_throwable
superclasses_of_built_in classes.RuntimeException = from_exception
superclasses_of_built_in classes.ArithmeticException = from_runtime_exception
superclasses_of_built_in classes.NullPointerException = from_runtime_exception
superclasses_of_built_in classes.ClassCastException = from_runtime_exception
superclasses_of_built_in classes.ArrayStoreException = from_runtime_exception
superclasses_of_built_in classes.NegativeArraySizeException = from_runtime_exception
superclasses_of_built_in classes.IllegalMonitorStateException = from_runtime_exception
superclasses_of_built_in classes.IndexOutOfBoundsException = from_runtime_exception
superclasses_of_built_in classes.ArrayIndexOutOfBoundsException =
    classes.IndexOutOfBoundsException ∷ from_runtime_exception
superclasses_of_built_in classes.Error = from_throwable
superclasses_of_built_in classes.LinkageError = from_error
superclasses_of_built_in classes.ExceptionInInitializerError = from_linkage_error
superclasses_of_built_in classes.NoClassDefFoundError = from_linkage_error
superclasses_of_built_in classes.PrintStream = from_object

-- a number of each class, by which they are told apart
abbrev pub number_of_built_in : BuiltIn → ℕ
number_of_built_in classes.Object = 0
number_of_built_in classes.String = 1
number_of_built_in classes.System = 2
number_of_built_in classes.Enum = 3
number_of_built_in classes.Throwable = 4
number_of_built_in classes.Exception = 5
number_of_built_in classes.RuntimeException = 6
number_of_built_in classes.ArithmeticException = 7
number_of_built_in classes.NullPointerException = 8
number_of_built_in classes.ClassCastException = 9
number_of_built_in classes.ArrayStoreException = 10
number_of_built_in classes.NegativeArraySizeException = 11
number_of_built_in classes.IllegalMonitorStateException = 12
number_of_built_in classes.IndexOutOfBoundsException = 13
number_of_built_in classes.ArrayIndexOutOfBoundsException = 14
number_of_built_in classes.Error = 15
number_of_built_in classes.LinkageError = 16
number_of_built_in classes.ExceptionInInitializerError = 17
number_of_built_in classes.NoClassDefFoundError = 18
number_of_built_in classes.PrintStream = 19

abbrev pub is_same_built_in : BuiltIn → BuiltIn → Bool
is_same_built_in a b = number_of_built_in a == number_of_built_in b

-- whether the first class is the second one, or below it
abbrev pub is_built_in_below : BuiltIn → BuiltIn → Bool
is_built_in_below class other = list_any (λ c. is_same_built_in c other) (class ∷ superclasses_of_built_in class)
