-- Names as options write them, in order. A dot stands behind each, so that a pattern with a dot behind it begins those
-- that it matches, and no others.
use Rattle.std.specs.Prelude.{◌≡◌, ℕ, ◌<◌, ◌≤◌, ◌↔◌, List, [], ◌∷◌, ◌++◌, Some, length, slice_get}
use Rattle.std.specs.Cmp.Lexicographic.{slice_cmp}
use Rattle.std.specs.List.{Contains}
use Rattle.std.specs.List.Sorted.{IsSortedBy}
use Rattle.std.specs.Ordering.{is_lt, nat_cmp}
use Rattle.loading.specs.Families.{Family, name_in}
use Rattle.loading.specs.Names.{Precedes}
use Rattle.options.specs.Patterns.{dotted}
use Rattle.options.specs.declared.sorted_names.DottedName.{DottedName}
use Rattle.options.specs.declared.sorted_names.NameRange.{NameRange}

-- a name with dots for slashes, and a dot (46) behind it
abbrev pub ended : List ℕ → List ℕ
ended name = dotted name ++ 46 ∷ []

-- the text and a dot begin the bytes
abbrev pub Begins : List ℕ → List ℕ → Type 0
Begins outer bytes = (rest : List ℕ) × (bytes ≡ outer ++ 46 ∷ rest)

-- one more name, which is that of a class
pub record AddsName (name : List ℕ) (class : ℕ) (old new : List DottedName) : Type 0 where
  pub added : DottedName
  pub new_is : new ≡ old ++ added ∷ []
  pub bytes : added.bytes.items ≡ ended name
  pub number : added.class ≡ class

pub record IsNameIn (family : Family) (n : DottedName) : Type 0 where
  pub name : List ℕ
  pub named : name_in family n.class ≡ Some name
  pub bytes : n.bytes.items ≡ ended name

-- the names of the classes below a limit
pub record AreNames (family : Family) (limit : ℕ) (names : List DottedName) : Type 0 where
  pub count : length names ≡ limit
  pub each : (n : DottedName) → Contains names n → (n.class < limit) × IsNameIn family n
  pub whole : (c : ℕ) → c < limit → (n : DottedName) × Contains names n × (n.class ≡ c)

-- no name precedes one before it
abbrev pub AreSorted : List DottedName → Type 0
AreSorted names = IsSortedBy (λ a b. is_lt (slice_cmp nat_cmp a.bytes.items b.bytes.items)) names

-- the names before this place precede the bound, and those from there on do not
pub record IsFirstFrom (names : List DottedName) (bound : List ℕ) (place : ℕ) : Type 0 where
  pub within : place ≤ length names
  pub before : (i : ℕ) (n : DottedName) → i < place → slice_get names i ≡ Some n → Precedes n.bytes.items bound
  pub after : (i : ℕ) (n : DottedName) → place ≤ i → slice_get names i ≡ Some n → ¬ Precedes n.bytes.items bound

abbrev pub IsInRun : NameRange → ℕ → Type 0
IsInRun run i = (run.first ≤ i) × (i < run.end)

-- the names that the text and a dot begin stand in this run
pub record IsRunOf (names : List DottedName) (outer : List ℕ) (run : NameRange) : Type 0 where
  pub within : run.end ≤ length names
  pub places : (i : ℕ) (n : DottedName) → slice_get names i ≡ Some n → IsInRun run i ↔ Begins outer n.bytes.items
