-- Calls by which an initializer comes to a method.
use Rattle.std.specs.Prelude.{◌≡◌, ℕ, List, [], ◌∷◌, Some}
use Rattle.program.specs.Tables.{Tables, initializer_in}
use Rattle.machine.specs.Operations.{Operation, operation_at}
use Rattle.use_graph.specs.declared.mark.Evidence.{Evidence}
use Rattle.use_graph.specs.Code.{callee_of, MayRunFor}
use Rattle.use_graph.specs.Uses.{pc_at}

-- the instruction at this pc of a method may call another method
abbrev pub CallsAt : Tables → ℕ → ℕ → ℕ → ℕ → ℕ → Type 0
CallsAt P d k pc e j = (place : ℕ) × (o : Operation) × (pc_at P d k place ≡ Some pc)
    × (operation_at P d k place ≡ Some o) × MayRunFor P (callee_of o) e j

-- Calls lead from a method to another, the innermost first: it may call the other, and each later one the method in
-- which the one before it stands. Where there are none it is the same method.
abbrev pub Lead : Tables → ℕ → ℕ → ℕ → ℕ → List Evidence → Type 0
Lead P d k e j [] = (d ≡ e) × (k ≡ j)
Lead P d k e j (call ∷ calls) =
    CallsAt P call.class call.index call.pc e j × Lead P d k call.class call.index calls

-- they lead from the class initialization method of a class to a method: so all methods on the way may run
abbrev pub IsPath : Tables → ℕ → ℕ → ℕ → List Evidence → Type 0
IsPath P c e j calls = (m : ℕ) × (initializer_in P c ≡ Some m) × Lead P c m e j calls
