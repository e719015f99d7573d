-- Callers of methods, by a search of the graph of calls.
use Rattle.std.specs.Prelude.{◌≡◌, ℕ, ◌<◌, List, ◌∷◌, [], ◌++◌, IsSome, Some, slice_get}
use Rattle.bytecode.specs.declared.instruction.Instruction.{Instruction}
use Rattle.hierarchy.specs.declared.member.DeclaredMember.{DeclaredMember}
use Rattle.program.specs.Tables.{Tables, initializer_in}
use Rattle.machine.specs.Operations.{resolved_operation}
use Rattle.use_graph.specs.declared.mark.Evidence.{Evidence}
use Rattle.use_graph.specs.declared.whole_program.UseGraph.{UseGraph}
use Rattle.use_graph.specs.Code.{callee_of, MayRunFor}
use Rattle.use_graph.specs.Uses.{Calls}
use Rattle.use_graph.specs.steps.Bodies.{IsUseGraph}
use Rattle.use_graph.specs.steps.Searching.{AreReached}
use Rattle.explain.specs.declared.search.Search.{Search}
use Rattle.explain.specs.declared.paths.PathStep.{PathStep}
use Rattle.explain.specs.Paths.{CallsAt}
use Rattle.explain.specs.steps.Trees.{IsTree}

-- an instruction of a method may call another method
abbrev pub MayCall : Tables → DeclaredMember → Instruction → DeclaredMember → Type 0
MayCall P caller instruction callee =
    MayRunFor P (callee_of (resolved_operation P caller.class caller.index instruction)) callee.class callee.index

-- the vertex at a place of a search is that of a method
abbrev pub StandsAt : List DeclaredMember → List ℕ → ℕ → DeclaredMember → Type 0
StandsAt methods items place m = (v : ℕ) × (slice_get items place ≡ Some v) × (slice_get methods v ≡ Some m)

-- it is that of none
abbrev pub NoneStandsAt : List DeclaredMember → List ℕ → ℕ → Type 0
NoneStandsAt methods items place = (m : DeclaredMember) → StandsAt methods items place m → ⊥

-- what is first in a search is a method
abbrev pub HasRoot : UseGraph → Search → Type 0
HasRoot uses search = (v : ℕ) → slice_get search.seen.items 0 ≡ Some v → IsSome (slice_get uses.methods v)

-- a method stands at a place of a search, and not at the first one
pub record IsWay (P : Tables) (uses : UseGraph) (search : Search) (place : ℕ) (callee : DeclaredMember) : Type 0 where
  pub graph : IsUseGraph P uses
  pub tree : IsTree uses.calls search.seen.items search.finders.items
  pub root : HasRoot uses search
  pub far : 0 < place
  pub here : StandsAt uses.methods search.seen.items place callee

-- another stands before it and may call it
pub record IsCaller (P : Tables) (uses : UseGraph) (search : Search) (place : ℕ) (callee : DeclaredMember)
    (step : PathStep)
    : Type 0 where
  pub before : step.place < place
  pub here : StandsAt uses.methods search.seen.items step.place step.method
  pub calls : Calls P step.method.class step.method.index callee.class callee.index

-- a call of a method by another one comes last
abbrev pub AddsCall : Tables → DeclaredMember → DeclaredMember → List Evidence → List Evidence → Type 0
AddsCall P callee caller old new = (call : Evidence) × (new ≡ old ++ call ∷ []) × (call.class ≡ caller.class)
    × (call.index ≡ caller.index) × CallsAt P caller.class caller.index call.pc callee.class callee.index

-- The search from the class initialization method of a class has found what may run; or nothing, where it has none.
pub record IsSearched (P : Tables) (uses : UseGraph) (c : ℕ) (search : Search) : Type 0 where
  pub reached : AreReached P uses.methods c search.seen.items
  pub tree : IsTree uses.calls search.seen.items search.finders.items
  pub root : (v : ℕ) → slice_get search.seen.items 0 ≡ Some v → (m : ℕ) × (initializer_in P c ≡ Some m)
      × (slice_get uses.methods v ≡ Some (record { class = c; index = m }))
