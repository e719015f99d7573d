-- Class 1 of the sample with an object: what may run for it is its initializer and the method that this calls, nothing
-- of that bars it, and class 0 is its one use. So it is not barred, with class 0 at hand.
use Rattle.std.proofs.Common.{◌≡◌, ◌⊎◌, inl, inr, ℕ, zero, suc, ◌==◌, true, false, Some, refl, sym, ap, subst}
use Rattle.built_in.specs.declared.class_id.ClassId.{ClassId}
use Rattle.vm_state.specs.declared.frame.Frame.{Frame}
use Rattle.vm_state.specs.declared.frame.Activity.{Activity}
use Rattle.vm_state.specs.declared.frame.Activity.TheVariants.{Method}
use Rattle.vm_state.specs.SharedState.{Region}
use Rattle.semantics.specs.Quiet.{is_final, Stop, Refusal, Refused}
use Rattle.semantics.specs.Settling.{StoppedBy}
use Rattle.semantics.specs.Lawful.{Knows, KnowsSlots}
use Rattle.semantics.specs.Bounds.{Scope, nothing, MayRun, Initializes, Called, IsUse, IsClean}
use Rattle.semantics.specs.Soundness.{names_at_hand, IsClosed, HasUses}
use Rattle.vm_state.proofs.ListLemmas.{tested}
use Rattle.semantics.proofs.TestsLemmas.{from_some}
use Rattle.semantics.proofs.ToyBounds.{toy_bounds, toy_is_bounded}
use Rattle.semantics.proofs.ToyLaws.{none_named}
use Rattle.semantics.proofs.WithinNamesLemmas.{constant_region_known}
use Rattle.semantics.proofs.WithinStopsLemmas.{stops_within_lem}
use Rattle.semantics.proofs.ObjectSample.{code, program, program_is_lawful, with_first, only_use}

-- ---- what its code says

record IsFine (scope : Scope) : Type 0 where
  needs : (d : ℕ) → scope.needs ≡ Some d → (d ≡ 0) ⊎ (d ≡ 1)
  calls : (class : ClassId) (b : Activity) → scope.calls class ≡ Some b → Method 0 2 ≡ b
  writes : (d : ℕ) → scope.writes ≡ Some d → d ≡ 1
  reads : (d : ℕ) → scope.reads ≡ Some d → d ≡ 1
  prints : scope.prints ≡ false
  locks : scope.locks ≡ false

plain : IsFine nothing
plain = record {
  needs = λ d e. cc;
  calls = λ class b e. cc;
  writes = λ d e. cc;
  reads = λ d e. cc;
  prints = refl;
  locks = refl;
}

-- an instruction that needs class 0, or class 1
of_first : IsFine (record nothing { needs = Some 0 })
of_first = record {
  needs = λ d e. inl cc;
  calls = λ class b e. cc;
  writes = λ d e. cc;
  reads = λ d e. cc;
  prints = refl;
  locks = refl;
}

reads_own : IsFine (record nothing { needs = Some 1; reads = Some 1 })
reads_own = record {
  needs = λ d e. inr cc;
  calls = λ class b e. cc;
  writes = λ d e. cc;
  reads = λ d e. cc;
  prints = refl;
  locks = refl;
}

writes_own : IsFine (record nothing { needs = Some 1; writes = Some 1 })
writes_own = record {
  needs = λ d e. inr cc;
  calls = λ class b e. cc;
  writes = λ d e. cc;
  reads = λ d e. cc;
  prints = refl;
  locks = refl;
}

calls_own : IsFine (record nothing { needs = Some 1; calls = λ class. Some (Method 0 2) })
calls_own = record {
  needs = λ d e. inr cc;
  calls = λ class b e. cc;
  writes = λ d e. cc;
  reads = λ d e. cc;
  prints = refl;
  locks = refl;
}

initializer_fine : (place : ℕ) → IsFine (toy_bounds code (Method 0 1) place)
initializer_fine zero = calls_own
initializer_fine (suc zero) = writes_own
initializer_fine (suc (suc zero)) = plain
initializer_fine (suc (suc (suc n))) = plain

called_fine : (place : ℕ) → IsFine (toy_bounds code (Method 0 2) place)
called_fine zero = of_first
called_fine (suc zero) = plain
called_fine (suc (suc zero)) = writes_own
called_fine (suc (suc (suc zero))) = reads_own
called_fine (suc (suc (suc (suc zero)))) = plain
called_fine (suc (suc (suc (suc (suc zero))))) = plain
called_fine (suc (suc (suc (suc (suc (suc zero)))))) = reads_own
called_fine (suc (suc (suc (suc (suc (suc (suc zero))))))) = plain
called_fine (suc (suc (suc (suc (suc (suc (suc (suc n)))))))) = plain

-- ---- what may run

fine : (a : Activity) (place : ℕ) → (Method 0 1 ≡ a) ⊎ (Method 0 2 ≡ a) → IsFine (toy_bounds code a place)
fine a place (inl e) = subst (λ (x : Activity). IsFine (toy_bounds code x place)) e (initializer_fine place)
fine a place (inr e) = subst (λ (x : Activity). IsFine (toy_bounds code x place)) e (called_fine place)

runs : {a : Activity} → MayRun program (toy_bounds code) 1 a → (Method 0 1 ≡ a) ⊎ (Method 0 2 ≡ a)
runs (Initializes is) = inl (ap (λ (f : Frame). f.activity) (from_some is))
runs (Called {a = a} {b = b} place run may) = inr ((fine a place (runs run)).calls may.0 b may.1)

clean : IsClean program (toy_bounds code) 1
clean = record {
  prints = λ a place run. (fine a place (runs run)).prints;
  locks = λ a place run. (fine a place (runs run)).locks;
  writes = λ a place d run. (fine a place (runs run)).writes d;
  reads = λ a place d run. (fine a place (runs run)).reads d;
}

has_uses : HasUses program (toy_bounds code) with_first 1
has_uses d (apart, inl parent) = rw (only_use d parent) refl
has_uses d (apart, inr (a, place, run, needs)) = elim ((fine a place (runs run)).needs d needs) [
  | inl e ↦ rw e refl
  | inr e ↦ absurd (apart e)
]

closed_finals : (d f : ℕ) (r : Region) → IsUse program (toy_bounds code) 1 d → with_first d ≡ Some r
    → is_final program d f ≡ true → Knows (names_at_hand with_first 1) (r.fields f)
closed_finals zero f r used is final =
    subst (λ (s : Region). Knows (names_at_hand with_first 1) (s.fields f)) (from_some is) (elim (tested (f == 0)) [
      | inl e ↦ rw e tt
      | inr e ↦ rw e ((constant_region_known program program_is_lawful (names_at_hand with_first 1) 0).0 f)
    ])
closed_finals (suc d) f r used is final = cc

closed : IsClosed program (IsUse program (toy_bounds code) 1) with_first 1
closed = record {
  finals = closed_finals;
  named = λ d n r is.
      subst (KnowsSlots (names_at_hand with_first 1)) (sym (none_named code r.pool n)) tt;
}

pub not_barred : (budget : ℕ) (stop : Stop) → StoppedBy program with_first 1 budget stop
    → (why : Refusal) × (stop ≡ Refused why)
not_barred =
    stops_within_lem program (toy_bounds code) program_is_lawful (toy_is_bounded code) with_first 1 clean has_uses
    closed
