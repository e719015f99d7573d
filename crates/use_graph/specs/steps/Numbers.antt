-- Numbers of the methods of given classes.
use Rattle.std.specs.Prelude.{◌≡◌, ◌↔◌, ◌⊎◌, ℕ, ◌+◌, ◌*◌, ◌<◌, ◌≤◌, List, length, Some, IsSome, slice_get}
use Rattle.program.specs.Tables.{Tables, implementation_at, implementations_of}
use Rattle.hierarchy.specs.declared.member.DeclaredMember.{DeclaredMember}

-- the method of a place of a class has a number
abbrev pub HasNumber : List DeclaredMember → ℕ → ℕ → Type 0
HasNumber methods d k = (n : ℕ) × (slice_get methods n ≡ Some (record { class = d; index = k }))

-- Each method stands as far behind the first of its class as its place says.
pub record AreNumbered (firsts : List ℕ) (methods : List DeclaredMember) : Type 0 where
  pub placed : (n d k : ℕ) → slice_get methods n ≡ Some (record { class = d; index = k })
      → (first : ℕ) × (slice_get firsts d ≡ Some first) × (n ≡ first + k)

-- The first methods of a class, as many as are counted, stand behind others.
pub record Adds (c count : ℕ) (old new : List DeclaredMember) : Type 0 where
  pub len : length new ≡ length old + count
  pub keeps : (n : ℕ) (m : DeclaredMember) → slice_get old n ≡ Some m → slice_get new n ≡ Some m
  pub adds : (k : ℕ) → k < count → slice_get new (length old + k) ≡ Some (record { class = c; index = k })
  pub only : (n d k : ℕ) → slice_get new n ≡ Some (record { class = d; index = k })
      → (slice_get old n ≡ Some (record { class = d; index = k }))
      ⊎ ((d ≡ c) × (k < count) × (n ≡ length old + k))

-- how many methods a class has
abbrev pub method_count : Tables → ℕ → ℕ
method_count P c = length (implementations_of (slice_get P.classes c))

-- The methods of the classes below a number have numbers, and no others.
pub record NumbersBelow (P : Tables) (limit : ℕ) (firsts : List ℕ) (methods : List DeclaredMember) : Type 0 where
  pub classes : length firsts ≡ limit
  pub numbered : AreNumbered firsts methods
  pub only : (n d k : ℕ) → slice_get methods n ≡ Some (record { class = d; index = k })
      → (d < limit) × (k < method_count P d)
  pub all : (d k : ℕ) → d < limit → k < method_count P d → HasNumber methods d k
  pub few : length methods ≤ 65535 * limit

-- all methods of given classes have numbers
abbrev pub AreMethods : Tables → List DeclaredMember → Type 0
AreMethods P methods = (d k : ℕ) → IsSome (implementation_at P d k) ↔ HasNumber methods d k
