-- Declarations of members, up to 64 of them side by side with a bit each (JVMS 5.4.3.2 to 5.4.3.4).
use Rattle.std.specs.Prelude.{◌≡◌, ◌↔◌, ◌<◌, ◌+◌, ℕ, true, List, [], ◌∷◌, Option, Some, None, slice_get}
use Rattle.std.specs.Prelude.{length, slice_index_or}
use Rattle.std.specs.Int.{bit_at}
use Rattle.std.specs.List.{Contains}
use Rattle.loading.specs.Families.{Family, IsAncestor}
use Rattle.hierarchy.specs.Search.{Search}
use Rattle.hierarchy.specs.steps.Above.{IsAmongOrAbove}
use Rattle.hierarchy.specs.declared.bits.Known.{Known}
use Rattle.hierarchy.specs.declared.bits.Own.{Own}
use Rattle.hierarchy.specs.declared.declarations.Declaration.{Declaration}
use Rattle.hierarchy.specs.declared.member_key.MemberKey.{MemberKey}
use Rattle.hierarchy.specs.declared.masks.Mask.{Mask}

-- a bit of a word is set
abbrev pub Has : ℕ → ℕ → Type 0
Has word n = bit_at word n ≡ 1

-- ---- what is known of one declaration, the one of class d at place k

-- The bits that a class has of its own: whether it is class d, and whether it declares a member of that name.
pub record IsOwn (declares : ℕ → Option ℕ) (c d n : ℕ) (own : Own) : Type 0 where
  pub here : Has own.here n ↔ (c ≡ d)
  pub same : Has own.same n ↔ ((l : ℕ) × (declares c ≡ Some l))

-- a class among some, or above one of them, is below class d and declares a member of that name
abbrev pub IsHidden : Family → (ℕ → Option ℕ) → List ℕ → ℕ → Type 0
IsHidden family declares cs d =
    (j : ℕ) × ((l : ℕ) × (declares j ≡ Some l)) × IsAmongOrAbove family cs j × IsAncestor family j d

-- What the bits tell of it from some classes on.
pub record Knows (family : Family) (declares : ℕ → Option ℕ) (cs : List ℕ) (d k n : ℕ) (known : Known) : Type 0 where
  pub first : Has known.first n → Search family declares cs (Some (record { class = d; index = k }))
  pub lacking : ¬ Has known.covered n → Search family declares cs None
  pub present : Has known.present n ↔ IsAmongOrAbove family cs d
  pub hidden : Has known.hidden n ↔ IsHidden family declares cs d

-- ---- by class

abbrev pub own_of : List Own → ℕ → Own
own_of rows c = slice_index_or rows c (record { here = 0; same = 0 })

abbrev pub known_of : List Known → ℕ → Known
known_of rows c = slice_index_or rows c (record { first = 0; covered = 0; present = 0; hidden = 0 })

-- it is known of some classes
abbrev pub AreKnown : Family → (ℕ → Option ℕ) → ℕ → ℕ → ℕ → List ℕ → List Known → Type 0
AreKnown family declares d k n done rows =
    (c : ℕ) → Contains done c → (c < length rows) × Knows family declares (c ∷ []) d k n (known_of rows c)

-- ---- a window of a list of declarations: bit n is that of the declaration n places behind its start

-- what stands at a place is of some kind
abbrev pub IsAt : List Declaration → ℕ → (Declaration → Type 0) → Type 0
IsAt declared place Is = (e : Declaration) × (slice_get declared place ≡ Some e) × Is e

abbrev pub HasKey : MemberKey → Declaration → Type 0
HasKey key e = e.key ≡ key

abbrev pub IsCoded : MemberKey → Declaration → Type 0
IsCoded key e = (e.key ≡ key) × (e.coded ≡ true)

-- The bits of a name and descriptor, and those of methods with code among them.
pub record IsMask (declared : List Declaration) (start : ℕ) (mask : Mask) : Type 0 where
  pub same : (n : ℕ) → n < 64 → Has mask.same n ↔ IsAt declared (start + n) (HasKey mask.key)
  pub coded : (n : ℕ) → n < 64 → Has mask.coded n ↔ IsAt declared (start + n) (IsCoded mask.key)
