-- A quiet row that is stopped before it makes elements above a budget, and how that differs from a quiet row.
use Rattle.std.specs.Prelude.{ℕ, ◌+◌, Bool, true, cond, nat_lt, List, Option, ◌==◌}
use Rattle.vm_state.specs.declared.value.Maker.TheVariants.{Class}
use Rattle.vm_state.specs.declared.value.Value.{Value}
use Rattle.vm_state.specs.declared.value.Name.{Name}
use Rattle.built_in.specs.declared.class_id.ClassId.{ClassId}
use Rattle.built_in.specs.declared.class_id.ClassId.TheVariants.{Given, BuiltIn, Array}
use Rattle.vm_state.specs.SharedState.{Region, same_maker, with_field, with_slot, with_new, class_at}
use Rattle.semantics.specs.Rows.{Next, Raise, Halt, Row, Ends, UseClass, ReadStatic}
use Rattle.semantics.specs.Rows.{WriteStatic, AskClass, LookInto, Change, Make, UseMonitor, Print, part_at}
use Rattle.semantics.specs.Programs.{Program}
use Rattle.semantics.specs.Quiet.{Environment, is_final, pool_seen, elements_in, Raised, ForeignObject}
use Rattle.semantics.specs.Quiet.{OverBudget, Faulted, Refused, Barred, Conduct, Leaves, Stops, is_open, at_hand}
use Rattle.semantics.specs.Quiet.{if_fixed, fixed_at}

-- A row of c's initializer, where c's region is so, and at most so many elements may be made and so many were.
abbrev pub within : Program → Environment → ℕ → ℕ → Region → ℕ → Row → Conduct
within P env c most own n (Ends (Next move)) = Leaves (record { move = move; region = own; elements = n })
within P env c most own n (Ends (Raise x class)) = Stops (Refused Raised)
within P env c most own n (Ends (Halt kind)) = Stops (Refused Faulted)
within P env c most own n (UseClass d next) =
    cond (d == c) (within P env c most own n (next true)) (at_hand (env d) (λ r. within P env c most own n (next true)))
within P env c most own n (ReadStatic d f next) =
    cond (d == c)
    (within P env c most own n (next (own.fields f)))
    (at_hand (env d) (λ r. cond (is_final P d f) (within P env c most own n (next (r.fields f))) (Stops Barred)))
within P env c most own n (WriteStatic d f v next) =
    cond (d == c) (within P env c most (with_field own f v) n next) (Stops Barred)
within P env c most own n (AskClass x next) =
    at_hand (pool_seen env c own x.maker) (λ p. within P env c most own n (next (class_at p x.number)))
within P env c most own n (LookInto x part next) =
    cond (same_maker (Class c) x.maker)
    (within P env c most own n (next (part_at part own.pool x.number)))
    (cond (is_open part)
    (at_hand (pool_seen env c own x.maker) (λ p.
    if_fixed (fixed_at P part p x.number) (λ vs. within P env c most own n (next vs))))
    (Stops (Refused ForeignObject)))
within P env c most own n (Change x i v next) =
    cond (same_maker (Class c) x.maker)
    (within P env c most (record own { pool = with_slot own.pool x.number i v }) n next)
    (Stops (Refused ForeignObject))
within P env c most own n (Make class slots next) =
    cond (nat_lt most (n + elements_in class slots))
    (Stops (Refused OverBudget))
    (within P env c most (record own { pool = with_new own.pool class slots }) (n + elements_in class slots)
    (next (record { maker = Class c; number = own.pool.count })))
within P env c most own n (UseMonitor x enter next) = Stops Barred
within P env c most own n (Print text next) = Stops Barred

-- what a row leaves, unless it made more elements than this
abbrev pub capped : ℕ → Conduct → Conduct
capped most (Leaves m) = cond (nat_lt most m.elements) (Stops (Refused OverBudget)) (Leaves m)
capped most (Stops stop) = Stops stop

-- ---- rows that fail no check once an array is made

abbrev pub Moves : Row → Type 0
Moves (Ends (Next move)) = Unit {0}
Moves (Ends (Raise x class)) = ⊥
Moves (Ends (Halt kind)) = ⊥
Moves (UseClass c next) = ⊥
Moves (ReadStatic c f next) = ⊥
Moves (WriteStatic c f v next) = ⊥
Moves (AskClass x next) = ⊥
Moves (LookInto x part next) = ⊥
Moves (Change x i v next) = ⊥
Moves (Make class slots next) = ⊥
Moves (UseMonitor x enter next) = ⊥
Moves (Print text next) = ⊥

abbrev pub MakesLast : Row → Type 0
MakesLast (Ends outcome) = Unit {0}
MakesLast (UseClass c next) = (b : Bool) → MakesLast (next b)
MakesLast (ReadStatic c f next) = (v : Value) → MakesLast (next v)
MakesLast (WriteStatic c f v next) = MakesLast next
MakesLast (AskClass x next) = (o : Option ClassId) → MakesLast (next o)
MakesLast (LookInto x part next) = (o : Option (List Value)) → MakesLast (next o)
MakesLast (Change x i v next) = MakesLast next
MakesLast (Make (Given d) slots next) = (x : Name) → MakesLast (next x)
MakesLast (Make (BuiltIn b) slots next) = (x : Name) → MakesLast (next x)
MakesLast (Make (Array a) slots next) = (x : Name) → Moves (next x)
MakesLast (UseMonitor x enter next) = (b : Bool) → MakesLast (next b)
MakesLast (Print text next) = MakesLast next
