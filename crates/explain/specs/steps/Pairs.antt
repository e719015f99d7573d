-- Two of some classes.
use Rattle.std.specs.Prelude.{◌≡◌, ◌≢◌, ◌⊎◌, ℕ, ◌<◌, List, length, Option, Some, None, MatchOption}
use Rattle.std.specs.Prelude.{slice_index, slice_index_or}
use Rattle.use_graph.specs.declared.whole_program.UseGraph.{UseGraph}
use Rattle.initializer_analysis.specs.steps.Cycles.{IsMember}
use Rattle.initializer_analysis.specs.steps.Dependence.{vertex_of}

-- two different members, the first two that came, as far as there are so many
pub record HasPair (Member : ℕ → Type 0) (first second : Option ℕ) : Type 0 where
  pub first_is : (d : ℕ) → first ≡ Some d → Member d
  pub second_is : (d : ℕ) → second ≡ Some d → Member d
  pub apart : (d e : ℕ) → first ≡ Some d → second ≡ Some e → d ≢ e
  pub order : (e : ℕ) → second ≡ Some e → (d : ℕ) × (first ≡ Some d)
  pub some : (d : ℕ) → Member d → (e : ℕ) × (first ≡ Some e)
  pub other : (d : ℕ) → Member d → (first ≡ Some d) ⊎ ((e : ℕ) × (second ≡ Some e))

-- two of each component, of the classes below a limit
pub record HavePairs (uses : UseGraph) (numbers : List ℕ) (limit : ℕ) (firsts seconds : List (Option ℕ)) : Type 0 where
  pub len : length firsts ≡ length numbers
  pub also : length seconds ≡ length numbers
  pub each : (n : ℕ) → n < length numbers
      → HasPair (IsMember uses numbers limit n) (slice_index_or firsts n None) (slice_index_or seconds n None)

-- another class of the component of a class, or none where it has no other
abbrev pub IsOther : UseGraph → List ℕ → ℕ → ℕ → Option ℕ → Type 0
IsOther uses numbers limit c found = MatchOption found
    ((d : ℕ) → IsMember uses numbers limit (slice_index numbers (vertex_of uses c)) d → d ≡ c)
    (λ d. IsMember uses numbers limit (slice_index numbers (vertex_of uses c)) d × (d ≢ c))

abbrev pub AreOthers : UseGraph → List ℕ → ℕ → List (Option ℕ) → Type 0
AreOthers uses numbers limit others =
    (c : ℕ) → c < limit → IsOther uses numbers limit c (slice_index_or others c None)
