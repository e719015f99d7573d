-- Names of objects that are held.
use Rattle.std.specs.Prelude.{◌≡◌, ℕ, ◌<◌, ◌≤◌, Bool, true, false, Option, Some, None, is_some}
use Rattle.vm_state.specs.SharedState.{Pool, Region, slots_at}
use Rattle.semantics.specs.Lawful.{Names, Knows, KnowsSlots}
use Rattle.semantics.specs.Quiet.{Environment, pool_seen}

abbrev pub is_held : Option Pool → ℕ → Bool
is_held None n = false
is_held (Some p) n = is_some (p.at n)

-- Whether there is an object of a name, for the initializer of a class whose region is this: the maker is that class or
-- one whose region is at hand, and its region holds the object.
abbrev pub is_there : Environment → ℕ → Region → Names
is_there env c own x = is_held (pool_seen env c own x.maker) x.number

-- A region names such objects alone, in its statics and in its objects.
pub record NamesObjects (env : Environment) (c : ℕ) (own : Region) : Type 0 where
  pub statics : (k : ℕ) → Knows (is_there env c own) (own.fields k)
  pub slots : (n : ℕ) → KnowsSlots (is_there env c own) (slots_at own.pool n)

-- regions at hand that name objects of one another alone
abbrev pub AreClosed : Environment → Type 0
AreClosed env = (d : ℕ) (region : Region) → env d ≡ Some region → NamesObjects env d region

-- The object of each number below the count is held, and no other one.
pub record HoldsAll (p : Pool) : Type 0 where
  pub held : (n : ℕ) → n < p.count → is_some (p.at n) ≡ true
  pub no_more : (n : ℕ) → p.count ≤ n → p.at n ≡ None
