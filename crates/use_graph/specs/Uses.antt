-- What the initialization of a class may run and need, and what is told of its code.
use Rattle.std.specs.Prelude.{◌≡◌, ◌≢◌, ◌⊎◌, ◌<◌, ◌↔◌, ℕ, List, Option, Some, None, IsSome, MatchOption, length}
use Rattle.std.specs.Prelude.{option_map, slice_get}
use Rattle.std.specs.List.{Contains}
use Rattle.std.specs.List.Sorted.{IsStrictlyIncreasing}
use Rattle.bytecode.specs.declared.placed.Placed.{Placed}
use Rattle.hierarchy.specs.declared.member.DeclaredMember.{DeclaredMember}
use Rattle.program.specs.declared.class.Implementation.{Implementation}
use Rattle.program.specs.declared.class.Implementation.TheVariants as implementations
use Rattle.program.specs.Tables.{Tables, implementation_at, initializer_in, order_in}
use Rattle.machine.specs.Operations.{Operation, operation_at}
use Rattle.use_graph.specs.declared.class_uses.Uses.{Uses}
use Rattle.use_graph.specs.declared.mark.Evidence.{Evidence}
use Rattle.use_graph.specs.declared.mark.Mark.{Mark}
use Rattle.use_graph.specs.declared.mark.Mark.TheVariants as marks
use Rattle.use_graph.specs.declared.feature.Feature.{Feature}
use Rattle.use_graph.specs.declared.feature.Feature.TheVariants as features
use Rattle.use_graph.specs.Code.{needed_by, callee_of, MayRunFor, feature_at}

-- an instruction of a method may call another method
abbrev pub Calls : Tables → ℕ → ℕ → ℕ → ℕ → Type 0
Calls P d k e j =
    (place : ℕ) × (o : Operation) × (operation_at P d k place ≡ Some o) × MayRunFor P (callee_of o) e j

-- a given class declares the method
abbrev pub IsDeclared : Tables → ℕ → ℕ → Type 0
IsDeclared P d k = IsSome (implementation_at P d k)

-- The methods of given classes that may run when a class is initialized: its class initialization method, and what
-- those among them call.
pub data MayRun (P : Tables) (c : ℕ) : ℕ → ℕ → Type 0 where
  initializer : {m : ℕ} → initializer_in P c ≡ Some m → IsDeclared P c m → MayRun P c c m
  called : {d k e j : ℕ} → MayRun P c d k → Calls P d k e j → IsDeclared P e j → MayRun P c e j

-- an instruction of a method needs a class
abbrev pub Needs : Tables → ℕ → ℕ → ℕ → Type 0
Needs P d k e = (place : ℕ) × (o : Operation) × (operation_at P d k place ≡ Some o) × (needed_by o ≡ Some e)

abbrev pub MayNeed : Tables → ℕ → ℕ → Type 0
MayNeed P c e = (d : ℕ) × (k : ℕ) × MayRun P c d k × Needs P d k e

-- A class's initialization may use a class: one that is initialized before it, or that the methods need that may run;
-- not itself.
abbrev pub MayUse : Tables → ℕ → ℕ → Type 0
MayUse P c e = (e ≢ c) × (Contains (order_in P c) e ⊎ MayNeed P c e)

-- The given classes that a class's initialization may use: those that are initialized before it, and what the methods
-- need that may run; itself apart.
abbrev pub IsUse : Tables → ℕ → ℕ → Type 0
IsUse P c e = (e < length P.classes) × (e ≢ c) × (Contains (order_in P c) e ⊎ MayNeed P c e)

-- ---- marks

-- the mark that it is to be told so of an instruction
abbrev pub mark_of : Feature → Mark
mark_of features.Prints = marks.Prints
mark_of features.Throws = marks.Throws
mark_of features.Locks = marks.Monitors
mark_of (features.Writes e) = marks.ForeignWrite
mark_of (features.Reads e) = marks.ForeignRead
mark_of features.LeftOut = marks.Unsupported
mark_of features.Misses = marks.Missing

-- the class whose field is written or read
abbrev pub field_class : Feature → Option ℕ
field_class (features.Writes e) = Some e
field_class (features.Reads e) = Some e
field_class _ = None

-- What is told of an instruction is a mark, for the initializer of a class: what is done to its own fields is none.
abbrev pub Means : ℕ → Feature → Mark → Type 0
Means c feature mark = (mark ≡ mark_of feature) × (field_class feature ≢ Some c)

-- a native or synchronized method
abbrev pub IsLeftOut : Tables → ℕ → ℕ → Type 0
IsLeftOut P e j = implementation_at P e j ≡ Some implementations.Unsupported

-- an instruction may call a native or synchronized method
abbrev pub CallsLeftOut : Tables → Operation → Type 0
CallsLeftOut P o = (e : ℕ) × (j : ℕ) × MayRunFor P (callee_of o) e j × IsLeftOut P e j

-- What is told of the instruction at a place: by itself, or by what it may call.
pub data IsTold (P : Tables) (d k place : ℕ) : Feature → Type 0 where
  itself : {t : Feature} → feature_at P d k place ≡ Some t → IsTold P d k place t
  calling : {o : Operation} → operation_at P d k place ≡ Some o → CallsLeftOut P o → IsTold P d k place features.LeftOut

-- The instruction at a place of a method bears a mark, for the initializer of a class.
abbrev pub Bears : Tables → ℕ → ℕ → ℕ → ℕ → Mark → Type 0
Bears P c d k place mark = (t : Feature) × IsTold P d k place t × Means c t mark

-- an instruction of a method that may run bears it
abbrev pub HasMark : Tables → ℕ → Mark → Type 0
HasMark P c mark = (d : ℕ) × (k : ℕ) × (place : ℕ) × MayRun P c d k × Bears P c d k place mark

-- ---- evidence

-- the pc of the instruction at a place of a method's body
abbrev pub pc_of : Option Implementation → ℕ → Option ℕ
pc_of (Some (implementations.Code code)) place = option_map (λ (item : Placed). item.pc) (slice_get code.body place)
pc_of _ place = None

abbrev pub pc_at : Tables → ℕ → ℕ → ℕ → Option ℕ
pc_at P d k place = pc_of (implementation_at P d k) place

-- a method that may run has an instruction at this pc which bears the mark
abbrev pub IsEvidence : Tables → ℕ → Mark → Evidence → Type 0
IsEvidence P c mark evidence = MayRun P c evidence.class evidence.index
    × (place : ℕ) × (pc_at P evidence.class evidence.index place ≡ Some evidence.pc)
    × Bears P c evidence.class evidence.index place mark

-- evidence for a mark, or none where the class has it not
abbrev pub Tells : Tables → ℕ → Mark → Option Evidence → Type 0
Tells P c mark found = MatchOption found (¬ HasMark P c mark) (IsEvidence P c mark)

-- no method stands at two places
abbrev pub StandOnce : List DeclaredMember → Type 0
StandOnce methods =
    (i j : ℕ) (m : DeclaredMember) → slice_get methods i ≡ Some m → slice_get methods j ≡ Some m → i ≡ j

-- What the initialization of a class may run and use, and what its code is marked for.
pub record AreUses (P : Tables) (c : ℕ) (uses : Uses) : Type 0 where
  pub methods : (d k : ℕ) → Contains uses.methods.items (record { class = d; index = k }) ↔ MayRun P c d k
  pub once : StandOnce uses.methods.items
  pub classes : (e : ℕ) → Contains uses.classes.items e ↔ IsUse P c e
  pub ascending : IsStrictlyIncreasing uses.classes.items
  pub prints : Tells P c marks.Prints uses.marks.prints
  pub throws : Tells P c marks.Throws uses.marks.throws
  pub monitors : Tells P c marks.Monitors uses.marks.monitors
  pub foreign_write : Tells P c marks.ForeignWrite uses.marks.foreign_write
  pub foreign_read : Tells P c marks.ForeignRead uses.marks.foreign_read
  pub unsupported : Tells P c marks.Unsupported uses.marks.unsupported
  pub missing : Tells P c marks.Missing uses.marks.missing
