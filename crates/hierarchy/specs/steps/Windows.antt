-- What classes have of their own in a window of declarations.
use Rattle.std.specs.Prelude.{◌≡◌, ◌↔◌, ◌⊎◌, ◌<◌, ◌+◌, ℕ, List, Some, length, slice_get}
use Rattle.hierarchy.specs.steps.DeclarationBits.{Has, HasKey, IsAt, own_of}
use Rattle.hierarchy.specs.declared.bits.Own.{Own}
use Rattle.hierarchy.specs.declared.declarations.Declaration.{Declaration}

-- bits were added to those of a class
pub record Notes (old new : List Own) (class own alike : ℕ) : Type 0 where
  pub here : (c n : ℕ) → c < length old
      → Has (own_of new c).here n ↔ (Has (own_of old c).here n ⊎ ((c ≡ class) × Has own n))
  pub same : (c n : ℕ) → c < length old
      → Has (own_of new c).same n ↔ (Has (own_of old c).same n ⊎ ((c ≡ class) × Has alike n))

-- The first so many declarations were noted.
pub record NotesFirst (declared : List Declaration) (start count : ℕ) (own : List Own) : Type 0 where
  pub here : (n c : ℕ) → n < 64 → c < length own
      → Has (own_of own c).here n
      ↔ ((e : Declaration) × (start + n < count) × (slice_get declared (start + n) ≡ Some e) × (e.member.class ≡ c))
  pub same : (n c : ℕ) → n < 64 → c < length own
      → Has (own_of own c).same n
      ↔ ((p : ℕ) × (e : Declaration) × (p < count) × (slice_get declared p ≡ Some e) × (e.member.class ≡ c)
      × IsAt declared (start + n) (HasKey e.key))
