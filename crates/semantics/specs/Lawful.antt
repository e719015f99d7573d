-- What the machine owes: no instruction makes up a name, writes a final that it may not write, makes a frame that it
-- may not make, or changes the name or the ordinal of an Enum object once they are set.
use Rattle.std.specs.Prelude.{◌≡◌, ◌≢◌, ℕ, Bool, true, false, List, Option, Some, None}
use Rattle.std.specs.List.{AllByRecursion}
use Rattle.vm_state.specs.declared.value.Value.{Value}
use Rattle.vm_state.specs.declared.value.Name.{Name}
use Rattle.vm_state.specs.declared.value.Maker.{Maker}
use Rattle.vm_state.specs.declared.value.Maker.TheVariants as makers
use Rattle.built_in.specs.declared.class_id.ClassId.{ClassId}
use Rattle.vm_state.specs.declared.classes.StaticField.{StaticField}
use Rattle.vm_state.specs.declared.frame.Frame.{Frame}
use Rattle.vm_state.specs.Values.{name_of}
use Rattle.vm_state.specs.SharedState.{Pool, SharedState, same_maker, pool_of}
use Rattle.semantics.specs.Rows.{Move, Stays, Becomes, Calls, Returns, Outcome, Next, Raise, Halt, Row, Ends}
use Rattle.semantics.specs.Rows.{UseClass, ReadStatic, WriteStatic, AskClass, LookInto, Change}
use Rattle.semantics.specs.Rows.{Make, UseMonitor, Print, Named, Moved, run_row}
use Rattle.semantics.specs.Programs.{Program}
use Rattle.semantics.specs.Quiet.{is_final, fixed_at}

-- ---- what holds of names and of values

-- it holds of a value, if there is one
abbrev pub HoldsOfSome : (Value → Type 0) → Option Value → Type 0
HoldsOfSome Q None = Unit {0}
HoldsOfSome Q (Some v) = Q v

abbrev pub HoldsOfSlots : (Value → Type 0) → Option (List Value) → Type 0
HoldsOfSlots Q None = Unit {0}
HoldsOfSlots Q (Some vs) = AllByRecursion Q vs

-- it holds of each operand and local variable
abbrev pub HoldsOfFrame : (Value → Type 0) → Frame → Type 0
HoldsOfFrame Q f = AllByRecursion Q f.operands.values × AllByRecursion (HoldsOfSome Q) f.locals

abbrev pub HoldsOfMove : (Value → Type 0) → Move → Type 0
HoldsOfMove Q (Stays place locals operands) =
    AllByRecursion Q operands.values × AllByRecursion (HoldsOfSome Q) locals
HoldsOfMove Q (Becomes frame) = HoldsOfFrame Q frame
HoldsOfMove Q (Calls operands callee) = AllByRecursion Q operands.values × HoldsOfFrame Q callee
HoldsOfMove Q (Returns value) = HoldsOfSome Q value

abbrev pub HoldsOfOutcome : (Name → Type 0) → (Value → Type 0) → Outcome → Type 0
HoldsOfOutcome N Q (Next move) = HoldsOfMove Q move
HoldsOfOutcome N Q (Raise x class) = N x
HoldsOfOutcome N Q (Halt kind) = Unit {0}

-- ---- the names that are given to a row

-- A test of names: those that are known somewhere.
abbrev pub Names : Type 0
Names = Name → Bool

abbrev pub KnowsName : Names → Option Name → Type 0
KnowsName known None = Unit {0}
KnowsName known (Some x) = known x ≡ true

abbrev pub Knows : Names → Value → Type 0
Knows known v = KnowsName known (name_of v)

abbrev pub KnowsAll : Names → List Value → Type 0
KnowsAll known vs = AllByRecursion (Knows known) vs

abbrev pub KnowsSome : Names → Option Value → Type 0
KnowsSome known o = HoldsOfSome (Knows known) o

abbrev pub KnowsSlots : Names → Option (List Value) → Type 0
KnowsSlots known o = HoldsOfSlots (Knows known) o

abbrev pub KnowsFrame : Names → Frame → Type 0
KnowsFrame known f = HoldsOfFrame (Knows known) f

abbrev pub KnowsMove : Names → Move → Type 0
KnowsMove known move = HoldsOfMove (Knows known) move

abbrev pub KnowsOutcome : Names → Outcome → Type 0
KnowsOutcome known outcome = HoldsOfOutcome (λ x. known x ≡ true) (Knows known) outcome

-- ---- finals, and the frames of initializers

-- a frame that is no initializer's, or that of a class that `own` has
abbrev pub OwnsFrame : Program → (ℕ → Bool) → Frame → Type 0
OwnsFrame P own f = (c : ℕ) → P.initializes f.activity ≡ Some c → own c ≡ true

abbrev pub OwnsOutcome : Program → (ℕ → Bool) → Outcome → Type 0
OwnsOutcome P own (Next (Stays place locals operands)) = Unit {0}
OwnsOutcome P own (Next (Becomes frame)) = OwnsFrame P own frame
OwnsOutcome P own (Next (Calls operands callee)) = OwnsFrame P own callee
OwnsOutcome P own (Next (Returns value)) = Unit {0}
OwnsOutcome P own (Raise x class) = Unit {0}
OwnsOutcome P own (Halt kind) = Unit {0}

-- ---- what a row may do

-- Where N holds of the names and Q of the values that it is given, a row asks for such names alone, and writes and
-- leaves only such. It writes a static final of a class alone that `own` has (JVMS 6.5, putstatic), and makes no frame
-- of another's initializer (JVMS 2.9).
abbrev pub FitsBy : Program → (Name → Type 0) → (Value → Type 0) → (ℕ → Bool) → Row → Type 0
FitsBy P N Q own (Ends outcome) = HoldsOfOutcome N Q outcome × OwnsOutcome P own outcome
FitsBy P N Q own (UseClass c next) = (b : Bool) → FitsBy P N Q own (next b)
FitsBy P N Q own (ReadStatic c f next) = (v : Value) → Q v → FitsBy P N Q own (next v)
FitsBy P N Q own (WriteStatic c f v next) = Q v × (is_final P c f ≡ true → own c ≡ true) × FitsBy P N Q own next
FitsBy P N Q own (AskClass x next) = N x × ((o : Option ClassId) → FitsBy P N Q own (next o))
FitsBy P N Q own (LookInto x part next) =
    N x × ((o : Option (List Value)) → HoldsOfSlots Q o → FitsBy P N Q own (next o))
FitsBy P N Q own (Change x i v next) = N x × Q v × FitsBy P N Q own next
FitsBy P N Q own (Make class slots next) =
    AllByRecursion Q slots × ((x : Name) → N x → FitsBy P N Q own (next x))
FitsBy P N Q own (UseMonitor x enter next) = N x × ((b : Bool) → FitsBy P N Q own (next b))
FitsBy P N Q own (Print text next) = FitsBy P N Q own next

-- the same of known names
abbrev pub Fits : Program → Names → (ℕ → Bool) → Row → Type 0
Fits P known own row = FitsBy P (λ x. known x ≡ true) (Knows known) own row

-- ---- names and ordinals that are set

-- those of Enum objects in the first pool are the same in the second
abbrev pub KeepsNamed : Program → Pool → Pool → Type 0
KeepsNamed P p q =
    (n : ℕ) (vs : List Value) → fixed_at P Named p n ≡ Some vs → fixed_at P Named q n ≡ Some vs

-- In whatever state it is done, a row keeps those of the objects of all makers but the one that counts its new objects.
abbrev pub LeavesNamed : Program → Row → Type 0
LeavesNamed P row =
    (t : ℕ) (maker : Maker) (sh : SharedState) (outcome : Outcome) (new : SharedState) →
    run_row t maker sh row ≡ Moved outcome new → (m : Maker) → same_maker maker m ≡ false →
    KeepsNamed P (pool_of sh m) (pool_of new m)

-- ---- other forms of rows

-- A row that ends, and needs no class and no monitor on its way.
abbrev pub IsPlain : Row → Type 0
IsPlain (Ends outcome) = Unit {0}
IsPlain (UseClass c next) = ⊥
IsPlain (ReadStatic c f next) = ⊥
IsPlain (WriteStatic c f v next) = ⊥
IsPlain (AskClass x next) = (o : Option ClassId) → IsPlain (next o)
IsPlain (LookInto x part next) = (o : Option (List Value)) → IsPlain (next o)
IsPlain (Change x i v next) = IsPlain next
IsPlain (Make class slots next) = (x : Name) → IsPlain (next x)
IsPlain (UseMonitor x enter next) = ⊥
IsPlain (Print text next) = IsPlain next

-- A static field whose zero and constant are no objects.
abbrev pub HoldsNoName : StaticField → Type 0
HoldsNoName field = (name_of field.zero ≡ None) × ((v : Value) → field.constant ≡ Some v → name_of v ≡ None)

-- ---- the laws

-- What the machine owes. Its own table of instructions is shown to be so in `machine`.
pub record IsLawful (P : Program) : Type 0 where
  -- an instruction makes up no name, and writes no final that it may not write; nor does a class's failing, or its
  -- failing by a parent
  pub row : (known : Names) (own : ℕ → Bool) (f : Frame) → KnowsFrame known f → OwnsFrame P own f →
      Fits P known own (P.row f)
  pub failing : (known : Names) (own : ℕ → Bool) (c : ℕ) (x : Name) → known x ≡ true → Fits P known own (P.failing c x)
  pub orphaned : (known : Names) (own : ℕ → Bool) (c : ℕ) → Fits P known own (P.orphaned c)
  -- an instruction changes no name and no ordinal that are set; nor does a class's failing, or its failing by a parent
  pub row_named : (f : Frame) → LeavesNamed P (P.row f)
  pub failing_named : (c : ℕ) (x : Name) → LeavesNamed P (P.failing c x)
  pub orphaned_named : (c : ℕ) → LeavesNamed P (P.orphaned c)
  -- a class's failing needs no class and no monitor
  pub plain_failing : (c : ℕ) (x : Name) → IsPlain (P.failing c x)
  pub plain_orphaned : (c : ℕ) → IsPlain (P.orphaned c)
  -- the frame of a class's initializer holds no object, and is of that class alone
  pub initializer_names : (known : Names) (c : ℕ) (f : Frame) → P.initializer c ≡ Some f → KnowsFrame known f
  pub initializer_owner : (c d : ℕ) (f : Frame) → P.initializer c ≡ Some f → P.initializes f.activity ≡ Some d → d ≡ c
  -- a thread's first frame holds its argument, which is its own first object, alone, and is no initializer's
  pub start_names : (known : Names) (entry t : ℕ) → known (record { maker = makers.Thread t; number = 0 }) ≡ true →
      KnowsFrame known (P.start entry t)
  pub start_owner : (entry t c : ℕ) → P.initializes (P.start entry t).activity ≢ Some c
  -- statics begin as zero, null or a constant (link, hierarchy)
  pub statics : (c : ℕ) → AllByRecursion HoldsNoName (P.statics c)
