-- The classes that the machine has of itself, each once.
use Rattle.std.specs.Prelude.{List, [], ◌∷◌}
use Rattle.built_in.specs.declared.class_id.BuiltIn.{BuiltIn}
use Rattle.built_in.specs.declared.class_id.BuiltIn.TheVariants as builtins

abbrev pub all_built_in : List BuiltIn
all_built_in = builtins.Object ∷ builtins.String ∷ builtins.System ∷ builtins.Enum ∷ builtins.Throwable
    ∷ builtins.Exception ∷ builtins.RuntimeException ∷ builtins.ArithmeticException ∷ builtins.NullPointerException
    ∷ builtins.ClassCastException ∷ builtins.ArrayStoreException ∷ builtins.NegativeArraySizeException
    ∷ builtins.IllegalMonitorStateException ∷ builtins.IndexOutOfBoundsException
    ∷ builtins.ArrayIndexOutOfBoundsException ∷ builtins.Error ∷ builtins.LinkageError
    ∷ builtins.ExceptionInInitializerError ∷ builtins.NoClassDefFoundError ∷ builtins.PrintStream ∷ []
