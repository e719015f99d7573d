-- Descriptors (JVMS 4.3.2, 4.3.3) and names of classes (JVMS 4.2.1, 4.4.1), as the texts that they may be.
use Rattle.std.specs.Prelude.{◌≡◌, ◌≢◌, ℕ, ◌≤◌, ◌⊎◌, List, [], ◌∷◌, ◌++◌, codes, replicate}
use Rattle.std.specs.List.{flat_map, All, Contains}

-- B C D F I J S Z (table 4.3-A)
abbrev pub IsBaseType : ℕ → Type 0
IsBaseType letter = Contains (codes "BCDFIJSZ") letter

-- a class name in a descriptor: not empty, and without `;`
pub record IsObjectName (name : List ℕ) : Type 0 where
  pub not_empty : name ≢ []
  pub no_semicolon : All (λ b. b ≢ 59) name

-- a base type's letter, or `L` name `;`
abbrev pub IsElementType : List ℕ → Type 0
IsElementType text = ((letter : ℕ) × (IsBaseType letter × (text ≡ letter ∷ [])))
    ⊎ ((name : List ℕ) × (IsObjectName name × (text ≡ 76 ∷ (name ++ 59 ∷ []))))

-- an element type after at most 255 `[` (JVMS 4.3.2, 4.4.1)
pub record IsFieldDescriptor (text : List ℕ) : Type 0 where
  pub dimensions : ℕ
  pub element : List ℕ
  pub at_most : dimensions ≤ 255
  pub is_element : IsElementType element
  pub spelled : text ≡ replicate dimensions 91 ++ element

-- a field's descriptor, or V
abbrev pub IsReturnDescriptor : List ℕ → Type 0
IsReturnDescriptor text = IsFieldDescriptor text ⊎ (text ≡ 86 ∷ [])

-- `(` the parameters' descriptors `)` and what is returned (JVMS 4.3.3)
pub record IsMethodDescriptor (text : List ℕ) : Type 0 where
  pub parameters : List (List ℕ)
  pub returned : List ℕ
  pub are_fields : All IsFieldDescriptor parameters
  pub is_returned : IsReturnDescriptor returned
  pub spelled : text ≡ 40 ∷ (flat_map (λ p. p) parameters ++ 41 ∷ returned)

-- the descriptor of an array, or a name that doesn't begin as one does
abbrev pub IsClassName : List ℕ → Type 0
IsClassName text = (IsFieldDescriptor text × ((rest : List ℕ) × (text ≡ 91 ∷ rest)))
    ⊎ (IsObjectName text × ((rest : List ℕ) →
    text ≢ 91 ∷ rest))
