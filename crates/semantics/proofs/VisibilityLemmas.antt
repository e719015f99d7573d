-- Which names are known where, in a lazy world: those of hidden classes' objects are known to the classes themselves
-- alone.
use Rattle.std.proofs.Common.{◌≡◌, ℕ, Bool, true, false, not, ◌||◌, inl, inr, refl}
use Rattle.vm_state.specs.declared.value.Name.{Name}
use Rattle.vm_state.specs.declared.value.Maker.{Maker}
use Rattle.vm_state.specs.declared.value.Maker.TheVariants.{Class, Thread}
use Rattle.vm_state.specs.declared.classes.ClassState.{ClassState}
use Rattle.vm_state.specs.declared.classes.ClassState.TheVariants.{Uninitialized, InProgress, Initialized, Erroneous}
use Rattle.vm_state.specs.SharedState.{same_maker}
use Rattle.semantics.specs.Images.{Image}
use Rattle.semantics.specs.Erasure.{is_done, is_hidden}
use Rattle.semantics.specs.Lawful.{Names}
use Rattle.vm_state.proofs.ListLemmas.{tested}
use Rattle.semantics.proofs.TestsLemmas.{same_maker-true}
use Rattle.semantics.proofs.KnownNamesLemmas.{Fewer}

abbrev pub States : Type 0
States = ℕ → ClassState

abbrev pub hidden_maker : Image → States → Maker → Bool
hidden_maker I st (Class c) = is_hidden I st c
hidden_maker I st (Thread t) = false

-- a name that is known everywhere
abbrev pub shown : Image → States → Names
shown I st x = not (hidden_maker I st x.maker)

-- what an object of this maker, a static of it as a class, or a frame for which it makes the objects, may hold
abbrev pub known : Image → States → Maker → Names
known I st m x = shown I st x || same_maker x.maker m

pub known_shown : (I : Image) (st : States) (m : Maker) → Fewer (shown I st) (known I st m)
known_shown I st m x h = rw h

-- a maker that is not hidden knows only what is shown
pub known_narrow : (I : Image) (st : States) (m : Maker) → hidden_maker I st m ≡ false
    → Fewer (known I st m) (shown I st)
known_narrow I st m v x k = elim (tested (shown I st x)) [
  | inl s ↦ s
  | inr s ↦
      let same : same_maker x.maker m ≡ true = rw s at k in
      rw (same_maker-true x.maker m same, v)
]

pub known-mono : (I : Image) (st st' : States) → Fewer (shown I st) (shown I st') → (m : Maker)
    → Fewer (known I st m) (known I st' m)
known-mono I st st' h m x k = elim (tested (shown I st x)) [
  | inl s ↦ rw (h x s)
  | inr s ↦
      let same : same_maker x.maker m ≡ true = rw s at k in
      elim (tested (shown I st' x)) [ inl y ↦ rw y | inr y ↦ rw (y, same) ]
]

pub visible : (I : Image) (st : States) (x : Name) → shown I st x ≡ true → hidden_maker I st x.maker ≡ false
visible I st x h = elim (tested (hidden_maker I st x.maker)) [
  | inl e ↦ (let clash : false ≡ true = rw e at h in cc)
  | inr e ↦ e
]

-- ---- hidden classes

pub hidden_done : (I : Image) (st : States) (c : ℕ) → st c ≡ Initialized → is_hidden I st c ≡ false
hidden_done I st c h = elim (tested (I.holds c)) [ inl e ↦ rw (e, h) | inr e ↦ rw e ]

pub hidden_other : (I : Image) (st : States) (c : ℕ) → I.holds c ≡ false → is_hidden I st c ≡ false
hidden_other I st c h = rw h

pub hidden_by : (I : Image) (st : States) (c t : ℕ) → I.holds c ≡ true → st c ≡ InProgress t → is_hidden I st c ≡ true
hidden_by I st c t a by = rw (a, by)

pub hidden_not : (I : Image) (st : States) (c : ℕ) → I.holds c ≡ true → st c ≡ Uninitialized → is_hidden I st c ≡ true
hidden_not I st c a un = rw (a, un)

-- an accepted class that is shown is done
pub shown_done : (I : Image) (st : States) (c : ℕ) → I.holds c ≡ true → is_hidden I st c ≡ false → st c ≡ Initialized
shown_done I st c a h = go (st c) (rw a at h)
  where
    go : (s : ClassState) → not (is_done s) ≡ false → s ≡ Initialized
    go Uninitialized k = cc
    go (InProgress t) k = cc
    go Initialized k = refl
    go Erroneous k = cc

-- names stay shown where no class is newly hidden
pub shown_from : (I : Image) (st st' : States) → ((d : ℕ) → is_hidden I st d ≡ false → is_hidden I st' d ≡ false) →
    Fewer (shown I st) (shown I st')
shown_from I st st' h x s = go x.maker s
  where
    go : (m : Maker) → not (hidden_maker I st m) ≡ true → not (hidden_maker I st' m) ≡ true
    go (Thread t) k = refl
    go (Class d) k = elim (tested (is_hidden I st d)) [
      | inl e ↦ (let clash : false ≡ true = rw e at k in cc)
      | inr e ↦ rw (h d e)
    ]
