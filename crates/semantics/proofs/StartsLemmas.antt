-- The two starts: the invariant holds of the lazy one, and the image's is its erasure.
use Rattle.std.proofs.Common.{◌≡◌, ℕ, zero, suc, ◌+◌, Bool, true, false, inl, inr, List, [], ◌∷◌, length, map, ◌==◌}
use Rattle.std.proofs.Common.{if◌then◌else◌, refl}
use Rattle.std.proofs.Common.{ap, arith, get_or, nat_lt}
use Rattle.std.proofs.lemmas.Bool.{and_parts}
use Rattle.vm_state.specs.declared.value.Maker.{Maker}
use Rattle.vm_state.specs.declared.value.Maker.TheVariants as makers
use Rattle.vm_state.specs.declared.classes.ClassState.TheVariants.{Uninitialized, InProgress}
use Rattle.vm_state.specs.SharedState.{pool_of}
use Rattle.semantics.specs.Programs.{Program}
use Rattle.semantics.specs.Steps.{Thread, Going}
use Rattle.semantics.specs.Worlds.{World, argument_pool, empty_pool, threads_from, lazy_start}
use Rattle.semantics.specs.Images.{Image, image_start}
use Rattle.semantics.specs.Erasure.{cut_thread, IsErased}
use Rattle.semantics.specs.Lawful.{Names}
use Rattle.vm_state.proofs.ListLemmas.{tested}
use Rattle.semantics.proofs.PoolsLemmas.{Holds}
use Rattle.semantics.proofs.VisibilityLemmas.{known, shown}
use Rattle.semantics.proofs.ConstantsLemmas.{zeros_known}
use Rattle.semantics.proofs.SettingLemmas.{Setting}
use Rattle.semantics.proofs.SharedStatesLemmas as SharedStates
use Rattle.semantics.proofs.OwnersLemmas.{Owned, OwnedThread}
use Rattle.semantics.proofs.ThreadsLemmas.{no_thread, thread_at}
use Rattle.semantics.proofs.InvariantLemmas as Invariant
use Rattle.semantics.proofs.InvariantLemmas.{Fuel}
use Rattle.semantics.proofs.TurnKindsLemmas as TurnKinds

-- a thread at the start is none, or has its first frame alone
data Starting (P : Program) : Thread → Type 0 where
  None : Starting P no_thread
  First : (entry u : ℕ) → Starting P (Going (P.start entry u ∷ []) [])

starting : (P : Program) (n : ℕ) (entries : List ℕ) (t : ℕ) → Starting P (get_or (threads_from P n entries) t no_thread)
starting P n [] t = None
starting P n (e ∷ es) zero = First e n
starting P n (e ∷ es) (suc t) = starting P (n + 1) es t

start_cut : (P : Program) (I : Image) (n : ℕ) (entries : List ℕ)
    → threads_from P n entries ≡ map (cut_thread I) (threads_from P n entries)
start_cut P I n [] = refl
start_cut P I n (e ∷ es) = ap (λ (ts : List Thread). Going (P.start e n ∷ []) [] ∷ ts) (start_cut P I (n + 1) es)

-- the argument of a thread holds no names
pub argument_holds : (names : Names) (entries : List ℕ) (t : ℕ)
    → Holds names (if nat_lt t (length entries) then argument_pool else empty_pool)
argument_holds names entries t k = elim (tested (nat_lt t (length entries))) [
  | inl e ↦ elim (tested (k == 0)) [ inl z ↦ rw (e, z) tt | inr z ↦ rw (e, z) tt ]
  | inr e ↦ rw e tt
]

module _ (S : Setting) (entries : List ℕ) where
  abbrev pub lazy : World
  lazy = lazy_start S.P entries

  abbrev pub image : World
  image = image_start S.P S.I entries

  fuel_at : (c : ℕ) (b : Bool) → S.I.holds c ≡ b → ℕ
  fuel_at c true a = (S.settled c a).0 + 3 + length (S.P.parents c)
  fuel_at c false n = 0

  pub first_fuel : Fuel
  first_fuel c = fuel_at c (S.I.holds c) refl

  promise_at : (c : ℕ) (b : Bool) (e : S.I.holds c ≡ b) → b ≡ true → Invariant.Promise S c (fuel_at c b e)
  unfolding fuel_at
  promise_at c true e h = ((S.settled c e).0, (S.settled c e).1, omega arith)
  promise_at c false e h = cc

  first_sane : SharedStates.IsSane S lazy.shared
  first_sane = record {
    statics = λ c f. zeros_known (known S.I lazy.shared.states (makers.Class c)) (S.P.statics c) (S.lawful.statics c) f;
    objects = the_objects;
    finals = λ c f a s fin. cc;
    classes = λ c k a s. cc;
  }
    where
      the_objects : (m : Maker) → Holds (known S.I lazy.shared.states m) (pool_of lazy.shared m)
      the_objects (makers.Class c) k = tt
      the_objects (makers.Thread t) k = argument_holds (known S.I lazy.shared.states (makers.Thread t)) entries t k

  pub first_invariant : Invariant.Invariant S first_fuel lazy
  unfolding first_fuel
  first_invariant = record {
    sane = first_sane;
    named = λ c a s. cc;
    sound = λ c a e. cc;
    stands = λ t. stands_at t (thread_at lazy t) (starting S.P 0 entries t);
    busy = λ c t a s. (let clash : Uninitialized ≡ InProgress t = s in cc);
    fresh = λ c a s. (refl, promise_at c (S.I.holds c) refl a);
  }
    where
      stands_at : (t : ℕ) (th : Thread) → Starting S.P th → Invariant.StandsAt S lazy.shared first_fuel t th
      stands_at t th None = tt
      stands_at t th (First e u) = Invariant.Base (S.lawful.start_names (shown S.I lazy.shared.states) e u refl, tt)

  pub first_erased : IsErased S.I lazy image
  first_erased = record {
    shared = record {
      done = λ c a. rw a refl;
      states = λ c n. rw n refl;
      region = λ c h. (let a : S.I.holds c ≡ true = (and_parts (S.I.holds c) true h).0 in rw a refl);
      regions = λ c h. elim (tested (S.I.holds c)) [
        | inl a ↦ (let clash : true ≡ false = rw a at h in cc)
        | inr n ↦ rw n refl
      ];
      pools = λ t. refl;
      printed = refl;
    };
    threads = start_cut S.P S.I 0 entries;
  }

  pub first_beside : TurnKinds.Beside S first_fuel lazy image
  first_beside = record { inv = first_invariant; erased = first_erased }

  pub first_owned : Owned S.P lazy
  first_owned t = owned_at t (thread_at lazy t) (starting S.P 0 entries t)
    where
      owned_at : (t : ℕ) (th : Thread) → Starting S.P th → OwnedThread S.P t th
      owned_at t th None = tt
      owned_at t th (First e u) = ((λ c h. absurd (S.lawful.start_owner e u c h)), tt)
