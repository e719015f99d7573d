-- Which names are covered by runs of names.
use Rattle.std.specs.Prelude.{◌≡◌, ℕ, ◌<◌, ◌≤◌, ◌⊎◌, ◌↔◌, Bool, List, Some, length, take, slice_get}
use Rattle.std.specs.Prelude.{slice_index_or, string_bytes}
use Rattle.std.specs.List.{All, Contains}
use Rattle.options.specs.Patterns.{spelled}
use Rattle.options.specs.steps.Flags.{Grow}
use Rattle.options.specs.steps.Names.{Begins}
use Rattle.options.specs.steps.Texts.{Text}
use Rattle.options.specs.declared.fault.OptionFault.{OptionFault}
use Rattle.options.specs.declared.fault.OptionFault.TheVariants.{Unknown}
use Rattle.options.specs.declared.sorted_names.DottedName.{DottedName}

-- of each place is told where a run from there ends: a run that begins no later goes beyond this place
abbrev pub Covers : List ℕ → ℕ → Type 0
Covers ends i = (j : ℕ) × (j ≤ i) × (i < slice_index_or ends j 0)

-- to the covered places came those of a kind
pub record CoversMore (old new : List ℕ) (P : ℕ → Type 0) : Type 0 where
  pub len : length new ≡ length old
  pub places : (i : ℕ) → Covers new i ↔ (Covers old i ⊎ P i)

-- the pattern matches the name at this place
abbrev pub IsMatchedAt : List DottedName → List ℕ → ℕ → Type 0
IsMatchedAt names pattern i = (n : DottedName) × (slice_get names i ≡ Some n) × Begins (spelled pattern) n.bytes.items

-- the pattern matches one of the names
abbrev pub IsKnownIn : List DottedName → List ℕ → Type 0
IsKnownIn names pattern = (i : ℕ) × IsMatchedAt names pattern i

-- one of the patterns matches the name at this place
abbrev pub IsMatchedByOne : List DottedName → List (List ℕ) → ℕ → Type 0
IsMatchedByOne names patterns i = (p : List ℕ) × Contains patterns p × IsMatchedAt names p i

-- what was covered by the first patterns
pub record AreCoveredBy (names : List DottedName) (patterns : List (List ℕ)) (first now : List ℕ) (count : ℕ) : Type 0
  where
    pub known : All (IsKnownIn names) (take count patterns)
    pub covers : CoversMore first now (IsMatchedByOne names (take count patterns))

-- the fault names the pattern, which matches no name
pub data IsOfUnknown (names : List DottedName) (pattern : List ℕ) : OptionFault → Type 0 where
  of_text : {text : Text} → string_bytes text ≡ pattern → ¬ IsKnownIn names pattern
      → IsOfUnknown names pattern (Unknown text)

-- and that is the first of the list that does not
pub data IsOfFirstUnknown (names : List DottedName) (patterns : List (List ℕ)) : OptionFault → Type 0 where
  of_place : {text : Text} (place : ℕ) → slice_get patterns place ≡ Some (string_bytes text)
      → ¬ IsKnownIn names (string_bytes text) → All (IsKnownIn names) (take place patterns)
      → IsOfFirstUnknown names patterns (Unknown text)

-- a class whose name stands at a covered place
abbrev pub IsCoveredClass : List DottedName → List ℕ → ℕ → Type 0
IsCoveredClass names ends c = (i : ℕ) × (n : DottedName) × (slice_get names i ≡ Some n) × (n.class ≡ c) × Covers ends i

-- a class whose name one of the patterns matches
abbrev pub IsMatchedClass : List DottedName → List (List ℕ) → ℕ → Type 0
IsMatchedClass names patterns c =
    (i : ℕ) × (n : DottedName) × (slice_get names i ≡ Some n) × (n.class ≡ c) × IsMatchedByOne names patterns i

-- the runs from the first places go to this end
abbrev pub IsEndOf : List ℕ → ℕ → ℕ → Type 0
IsEndOf ends count end = (i : ℕ) → (i < end) ↔ ((j : ℕ) × (j < count) × (i < slice_index_or ends j 0))

-- the classes of the first places were flagged, where these are covered
pub record AreFlaggedTo (names : List DottedName) (ends : List ℕ) (first now : List Bool) (count reach : ℕ) : Type 0
  where
    pub end : IsEndOf ends count reach
    pub flags : Grow first now (λ c. (i : ℕ) × (n : DottedName) × (i < count) × (slice_get names i ≡ Some n)
        × (n.class ≡ c) × Covers ends i)
