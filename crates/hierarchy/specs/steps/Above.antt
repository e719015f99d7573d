-- What stands above some classes, and the first of a list that has something (JVMS 5.4.3.2, 5.4.3.3).
use Rattle.std.specs.Prelude.{ℕ, ◌⊎◌, List, [], ◌∷◌, Option, Some, None}
use Rattle.std.specs.List.{Contains}
use Rattle.loading.specs.Families.{Family, IsAncestor}
use Rattle.hierarchy.specs.declared.member.DeclaredMember.{DeclaredMember}

abbrev pub with_place : ℕ → Option ℕ → Option DeclaredMember
with_place c None = None
with_place c (Some k) = Some (record { class = c; index = k })

abbrev pub or_else : Option DeclaredMember → Option DeclaredMember → Option DeclaredMember
or_else None r = r
or_else (Some x) r = Some x

-- the first of some classes that has something, and what
abbrev pub first_with : (ℕ → Option ℕ) → List ℕ → Option DeclaredMember
first_with own [] = None
first_with own (c ∷ cs) = or_else (with_place c (own c)) (first_with own cs)

-- an interface among some, or above one of them
abbrev pub IsAmongOrAbove : Family → List ℕ → ℕ → Type 0
IsAmongOrAbove family is j = Contains is j ⊎ ((i : ℕ) × Contains is i × IsAncestor family i j)
