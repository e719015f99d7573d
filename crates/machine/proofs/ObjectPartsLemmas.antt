-- Rows that ask of what a reference refers to, where it refers to an object.
use Rattle.std.proofs.Common.{◌≡◌, ℤ, List, length, Option, Some, None, refl, ap, ◌∙◌}
use Rattle.std.specs.Prelude.{option_map, option_and_then}
use Rattle.vm_state.specs.declared.value.Value.{Value}
use Rattle.vm_state.specs.declared.value.Name.{Name}
use Rattle.vm_state.specs.Values.{name_of, int_of}
use Rattle.built_in.specs.declared.class_id.ClassId.{ClassId}
use Rattle.vm_state.specs.SharedState.{SharedState, pool_of, slots_at}
use Rattle.semantics.specs.Rows.{Row, AskClass, Slots, Length, part_of, int_length}
use Rattle.machine.specs.declared.kinds.Actor.{Actor}
use Rattle.machine.specs.Sharing.{run_shared}
use Rattle.machine.specs.ObjectParts.{slot_in, size_in, count_slots, ask_length, ask_class_of}

pub class_asked : (v : Value) (x : Name) (next : Option ClassId → Row) → name_of v ≡ Some x
    → ask_class_of v next ≡ AskClass x next
class_asked v x next is = rw is refl

-- how many slots an object has, where all threads hold these
pub length_asked : (by : Actor) (sh : SharedState) (x : Name) (o : Option (List Value)) (next : Option ℤ → Row)
    → slots_at (pool_of sh x.maker) x.number ≡ o → run_shared by sh (ask_length x next)
    ≡ run_shared by sh (next (option_map (λ (vs : List Value). int_length (length vs)) o))
length_asked by sh x o next is =
    ap (λ (s : Option (List Value)). run_shared by sh (next (int_of (slot_in (option_and_then (part_of Length) s)
    0)))) is
    ∙ read o
  where
    read : (s : Option (List Value)) →
        run_shared by sh (next (int_of (slot_in (option_and_then (part_of Length) s) 0)))
        ≡ run_shared by sh (next (option_map (λ (vs : List Value). int_length (length vs)) s))
    read None = refl
    read (Some vs) = refl

-- the same, before one of them is looked into
pub slots_counted : (by : Actor) (sh : SharedState) (x : Name) (o : Option (List Value)) (next : Option ℤ → Row)
    → slots_at (pool_of sh x.maker) x.number ≡ o → run_shared by sh (count_slots x next)
    ≡ run_shared by sh (next (option_map (λ (vs : List Value). int_length (length vs)) o))
slots_counted by sh x o next is =
    ap (λ (s : Option (List Value)). run_shared by sh (next (size_in (option_and_then (part_of Slots) s)))) is
    ∙ read o
  where
    read : (s : Option (List Value)) →
        run_shared by sh (next (size_in (option_and_then (part_of Slots) s)))
        ≡ run_shared by sh (next (option_map (λ (vs : List Value). int_length (length vs)) s))
    read None = refl
    read (Some vs) = refl

-- one after the other
pub mapped_twice : {A B C : Type 0} (f : B → C) (g : A → B) (o : Option A)
    → option_map f (option_map g o) ≡ option_map (λ a. f (g a)) o
mapped_twice f g None = refl
mapped_twice f g (Some a) = refl
