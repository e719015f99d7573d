-- Which objects have the instance fields of a class (JVMS 2.7, 4.5).
use Rattle.std.specs.Prelude.{ℕ, ◌==◌, Bool, ◌||◌}
use Rattle.std.specs.List.{list_any}
use Rattle.loading.specs.Families.{Family}
use Rattle.hierarchy.specs.Initialization.{given_superclasses}

-- Whether objects of the first given class have the instance fields of the second one: it is that class, or one of its
-- superclasses. What an interface declares is in no object of a class below it.
abbrev pub has_fields_of : Family → ℕ → ℕ → Bool
has_fields_of family c d = c == d || list_any (λ e. e == d) (given_superclasses family c)
