-- What stands above a class, as a list (JVMS 4.1, super_class and interfaces).
use Rattle.std.specs.Prelude.{ℕ, zero, suc, ◌==◌, Bool, List, [], ◌∷◌, length}
use Rattle.std.specs.List.{list_any, flat_map}
use Rattle.loading.specs.Families.{Family, parents_in}

-- what is reached from a class by at most so many steps to a parent
abbrev pub above_within : ℕ → Family → ℕ → List ℕ
above_within zero family c = []
above_within (suc n) family c = flat_map (λ d. d ∷ above_within n family d) (parents_in family c)

-- all that is: no way up has more steps than there are classes
abbrev pub all_above : Family → ℕ → List ℕ
all_above family c = above_within (length family) family c

-- whether the second class stands above the first
abbrev pub is_above : Family → ℕ → ℕ → Bool
is_above family c d = list_any (λ e. e == d) (all_above family c)
