-- Searches along parents, and lists of superinterfaces (JVMS 5.4.3.2, 5.5).
use Rattle.std.specs.Prelude.{◌≡◌, ℕ, ◌==◌, not, List, [], ◌∷◌, ◌++◌, Option, Some, None, slice_index_or}
use Rattle.std.specs.List.{filter}
use Rattle.loading.specs.Families.{Family, parents_in, interfaces_in}
use Rattle.hierarchy.specs.declared.member.DeclaredMember.{DeclaredMember}

-- A search through some classes in order, each before its parents and these before the next: where the first one is
-- that has something, and what. The parents are the direct superinterfaces in order, and then the superclass.
pub data Search (family : Family) (own : ℕ → Option ℕ) : List ℕ → Option DeclaredMember → Type 0 where
  nothing : Search family own [] None
  here : {c k : ℕ} {cs : List ℕ} → own c ≡ Some k → Search family own (c ∷ cs) (Some (record { class = c; index = k }))
  above : {c : ℕ} {cs : List ℕ} {r : Option DeclaredMember} → own c ≡ None
      → Search family own (parents_in family c ++ cs) r
      → Search family own (c ∷ cs) r

-- Some interfaces in order, each after its superinterfaces.
pub data SuperinterfacesFirst (family : Family) : List ℕ → List ℕ → Type 0 where
  none : SuperinterfacesFirst family [] []
  next : {i : ℕ} {is above rest : List ℕ} → SuperinterfacesFirst family (interfaces_in family i) above
      → SuperinterfacesFirst family is rest
      → SuperinterfacesFirst family (i ∷ is) (above ++ i ∷ rest)

-- each once, where it stands first
abbrev pub firsts : List ℕ → List ℕ
firsts [] = []
firsts (x ∷ xs) = x ∷ filter (λ y. not (y == x)) (firsts xs)

-- the list of a class
abbrev pub row_in : List (List ℕ) → ℕ → List ℕ
row_in rows c = slice_index_or rows c []
