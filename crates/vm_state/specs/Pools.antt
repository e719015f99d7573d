-- The objects of each maker of a kind, as functions of their numbers.
use Rattle.std.specs.List.{count_by, range_with_len}
use Rattle.std.specs.Prelude.{◌≡◌, ℕ, List, [], Option, Some, None, is_some, slice_index_or, ◌==◌, if◌then◌else◌}
use Rattle.vm_state.specs.declared.heap.Heap.{Heap}
use Rattle.vm_state.specs.declared.object.Object.{Object}
use Rattle.vm_state.specs.declared.value.Maker.{Maker}
use Rattle.vm_state.specs.declared.value.Maker.TheVariants.{Class, Thread}
use Rattle.vm_state.specs.Objects.{AscendsFrom, HeldObjects, none_held, object_in}
use Rattle.vm_state.specs.SharedState.{Pool}

abbrev pub pool_by : HeldObjects → Pool
pool_by r = record { count = r.count; at = object_in r.objects }

-- a maker without a pool made nothing
abbrev pub held_at : List HeldObjects → ℕ → HeldObjects
held_at held m = slice_index_or held m none_held

abbrev pub pool_in : List HeldObjects → ℕ → Pool
pool_in held m = pool_by (held_at held m)

-- one maker's objects changed
abbrev pub with_pool : (ℕ → Pool) → ℕ → Pool → ℕ → Pool
with_pool pools m p k = if m == k then p else pools k

-- how many objects are held
abbrev pub held_count : Pool → ℕ
held_count p = count_by (λ n. is_some (p.at n)) (range_with_len 0 p.count)

-- the objects of a maker
abbrev pub pool_at : Heap → Maker → Pool
pool_at h (Class c) = pool_in h.classes c
pool_at h (Thread t) = pool_in h.threads t

-- all objects of a pool, each once with its number, in the order of the numbers
pub record IsListOf (held : List (ℕ × Object)) (p : Pool) : Type 0 where
  pub ascending : AscendsFrom 0 held p.count
  pub all : object_in held ≡ p.at

-- all objects of a pool, or none
abbrev pub IsPoolBy : Option HeldObjects → Pool → Type 0
IsPoolBy None p = p ≡ pool_by none_held
IsPoolBy (Some r) p = p ≡ pool_by r

-- the objects of a pool, each with its number
abbrev pub all_held : Option HeldObjects → List (ℕ × Object)
all_held None = []
all_held (Some r) = r.objects
