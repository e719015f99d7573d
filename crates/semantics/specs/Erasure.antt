-- A lazy world with its half-done initializations of accepted classes erased, as a world of a run from the image.
use Rattle.std.specs.Prelude.{◌≡◌, ℕ, Bool, true, false, not, ◌&&◌, cond, List, [], ◌∷◌, map}
use Rattle.vm_state.specs.declared.classes.ClassState.{ClassState}
use Rattle.vm_state.specs.declared.classes.ClassState.TheVariants.{Uninitialized, InProgress, Initialized, Erroneous}
use Rattle.vm_state.specs.declared.frame.Frame.{Frame}
use Rattle.vm_state.specs.declared.initialization.Level.{Level}
use Rattle.vm_state.specs.SharedState.{SharedState}
use Rattle.semantics.specs.Steps.{Thread, Going, Ended}
use Rattle.semantics.specs.Worlds.{World, seen}
use Rattle.semantics.specs.Images.{Image}

abbrev pub is_done : ClassState → Bool
is_done Uninitialized = false
is_done (InProgress t) = false
is_done Initialized = true
is_done Erroneous = false

-- an accepted class that is not initialized yet: the image has its region, and nobody else knows what it has so far
abbrev pub is_hidden : Image → (ℕ → ClassState) → ℕ → Bool
is_hidden I states c = I.holds c && not (is_done (states c))

-- A stack is cut at its lowest initialization of an accepted class.
abbrev pub cut : Image → List Frame → List Level → Thread
cut I fs [] = Going fs []
cut I fs (l ∷ ls) = cond (I.holds l.initialization.class) (cut I l.under ls) (Going fs (l ∷ ls))

abbrev pub cut_thread : Image → Thread → Thread
cut_thread I (Going fs ls) = cut I fs ls
cut_thread I (Ended end) = Ended end

-- What is shared, erased: every accepted class is initialized, and has its region where it was not so before.
pub record IsErasedState (I : Image) (lazy image : SharedState) : Type 0 where
  pub done : (c : ℕ) → I.holds c ≡ true → image.states c ≡ Initialized
  pub states : (c : ℕ) → I.holds c ≡ false → image.states c ≡ lazy.states c
  pub region : (c : ℕ) → is_hidden I lazy.states c ≡ true → image.regions c ≡ I.region c
  pub regions : (c : ℕ) → is_hidden I lazy.states c ≡ false → image.regions c ≡ lazy.regions c
  pub pools : (t : ℕ) → image.pools t ≡ lazy.pools t
  pub printed : image.printed ≡ lazy.printed

pub record IsErased (I : Image) (lazy image : World) : Type 0 where
  pub shared : IsErasedState I lazy.shared image.shared
  pub threads : image.threads ≡ map (cut_thread I) lazy.threads

-- Nobody sees what is erased.
abbrev pub ErasedUnseen : Type 0
ErasedUnseen = (I : Image) (lazy image : World) → IsErased I lazy image → seen image ≡ seen lazy
