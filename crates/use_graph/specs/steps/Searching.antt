-- A search for what the initialization of one class may run.
use Rattle.std.specs.Prelude.{◌≡◌, ◌≢◌, ◌↔◌, ◌⊎◌, ◌<◌, ℕ, List, [], ◌∷◌, ◌++◌, Option, Some, MatchOption, slice_get}
use Rattle.std.specs.List.{Contains}
use Rattle.program.specs.Tables.{Tables, initializer_in}
use Rattle.hierarchy.specs.declared.member.DeclaredMember.{DeclaredMember}
use Rattle.use_graph.specs.declared.body.Told.{Told}
use Rattle.use_graph.specs.declared.body.BodyUses.{BodyUses}
use Rattle.use_graph.specs.declared.mark.Mark.{Mark}
use Rattle.use_graph.specs.declared.mark.Evidence.{Evidence}
use Rattle.use_graph.specs.declared.whole_program.UseGraph.{UseGraph}
use Rattle.use_graph.specs.Uses.{IsDeclared, MayRun, Means}
use Rattle.use_graph.specs.steps.Deeds.{HoldsOfOne}

-- the vertex of a class's class initialization method, or none where it declares none
abbrev pub StartsAt : Tables → List DeclaredMember → ℕ → Option ℕ → Type 0
StartsAt P methods c start = MatchOption start
    ((m : ℕ) → initializer_in P c ≡ Some m → IsDeclared P c m → ⊥)
    (λ n. (m : ℕ) × (initializer_in P c ≡ Some m) × (slice_get methods n ≡ Some (record { class = c; index = m })))

-- the method of a vertex
abbrev pub IsMethodAt : List DeclaredMember → ℕ → DeclaredMember → Type 0
IsMethodAt methods n m = slice_get methods n ≡ Some m

-- the method of one of some vertices
abbrev pub IsAmong : List DeclaredMember → List ℕ → DeclaredMember → Type 0
IsAmong methods reached m = HoldsOfOne (IsMethodAt methods) reached m

-- the method of a vertex stands at the end, if it is one
abbrev pub AddsMethod : List DeclaredMember → ℕ → List DeclaredMember → List DeclaredMember → Type 0
AddsMethod methods n old new =
    (new ≡ old) ⊎ ((m : DeclaredMember) × (slice_get methods n ≡ Some m) × (new ≡ old ++ m ∷ []))

-- the methods of these vertices are those that may run
abbrev pub AreReached : Tables → List DeclaredMember → ℕ → List ℕ → Type 0
AreReached P methods c reached = (m : DeclaredMember) → IsAmong methods reached m ↔ MayRun P c m.class m.index

abbrev pub IsClassBelow : ℕ → ℕ → ℕ → Type 0
IsClassBelow limit class e = (e < limit) × (e ≡ class)

-- the method of a vertex needs a class below a limit
abbrev pub IsNeededAt : List BodyUses → ℕ → ℕ → ℕ → Type 0
IsNeededAt bodies limit n e =
    (b : BodyUses) × (slice_get bodies n ≡ Some b) × HoldsOfOne (IsClassBelow limit) b.needs.items e

-- the method of one of some vertices does
abbrev pub IsNeededIn : List BodyUses → ℕ → List ℕ → ℕ → Type 0
IsNeededIn bodies limit reached e = HoldsOfOne (IsNeededAt bodies limit) reached e

-- a member of a set is added, but for one
abbrev pub AddsOther : List ℕ → ℕ → ℕ → List ℕ → List ℕ → Type 0
AddsOther used class other old new = ((new ≡ old ++ other ∷ []) × (other ≢ class) × Contains used other)
    ⊎ ((new ≡ old) × ((other ≢ class) → Contains used other → ⊥))

-- no instruction of the method of a vertex bears a mark
abbrev pub Unmarked : UseGraph → ℕ → Mark → ℕ → Type 0
Unmarked graph c mark n = (m : DeclaredMember) (b : BodyUses) (t : Told) → slice_get graph.methods n ≡ Some m
    → slice_get graph.bodies.items n ≡ Some b → Contains b.told.items t → ¬ Means c t.feature mark

-- an instruction of the method of a vertex bears it there
abbrev pub IsMarkedAt : UseGraph → ℕ → Mark → ℕ → Evidence → Type 0
IsMarkedAt graph c mark n evidence = (b : BodyUses) × (t : Told)
    × (slice_get graph.methods n ≡ Some (record { class = evidence.class; index = evidence.index }))
    × (slice_get graph.bodies.items n ≡ Some b) × Contains b.told.items t × (t.pc ≡ evidence.pc)
    × Means c t.feature mark

-- evidence for a mark in the method of one of some vertices, or none where no such method bears it
abbrev pub IsFound : UseGraph → List ℕ → ℕ → Mark → Option Evidence → Type 0
IsFound graph reached c mark found = MatchOption found
    ((n : ℕ) → Contains reached n → Unmarked graph c mark n)
    (λ evidence. (n : ℕ) × Contains reached n × IsMarkedAt graph c mark n evidence)
