-- Every turn of every thread is of one of the three kinds.
use Rattle.std.proofs.Common.{◌≡◌, ℕ, inr, List, [], ◌∷◌, refl, ap, ◌∙◌, subst}
use Rattle.vm_state.specs.declared.frame.Frame.{Frame}
use Rattle.vm_state.specs.declared.initialization.Level.{Level}
use Rattle.semantics.specs.Steps.{Thread, Going, Ended, maker_of, step_thread}
use Rattle.semantics.specs.Worlds.{World}
use Rattle.semantics.specs.Erasure.{cut_thread}
use Rattle.semantics.specs.helpers.Lawful.{Owns}
use Rattle.semantics.proofs.SettingLemmas.{Setting}
use Rattle.semantics.proofs.OwnersLemmas.{own_of, OwnedAt, OwnedThread, Owned, owned_top}
use Rattle.semantics.proofs.StacksLemmas.{none_with}
use Rattle.semantics.proofs.ThreadsLemmas.{thread_at, thread_at-erased}
use Rattle.semantics.proofs.InvariantLemmas as Invariant
use Rattle.semantics.proofs.InvariantLemmas.{Fuel}
use Rattle.semantics.proofs.TurnKindsLemmas as TurnKinds
use Rattle.semantics.proofs.TurnKindsLemmas.{stepping}
use Rattle.semantics.proofs.FrameTurnsLemmas as FrameTurns
use Rattle.semantics.proofs.InitializerTurnsLemmas as InitializerTurns
use Rattle.semantics.proofs.UnacceptedTurnsLemmas as UnacceptedTurns

module _ (S : Setting) where
  pub turn : (fuel : Fuel) (w v : World) (t : ℕ) → TurnKinds.Beside S fuel w v → Owned S.P w
      → TurnKinds.Turn S fuel w v t
  unfolding step_thread
  turn fuel w v t b owned = by_thread (thread_at w t) refl (b.inv.stands t)
    where
      owned_as : (fs : List Frame) (ls : List Level) → thread_at w t ≡ Going fs ls → OwnedAt S.P t fs ls
      owned_as fs ls at = subst (OwnedThread S.P t) at (owned t)

      on_top : (fs : List Frame) (ls : List Level) → thread_at w t ≡ Going fs ls → Owns S.P (own_of (maker_of t ls)) fs
      on_top fs ls at = owned_top S.P t fs ls (owned_as fs ls at)

      by_tower : (fs : List Frame) (ls : List Level) → thread_at w t ≡ Going fs ls
          → Invariant.Tower S w.shared fuel t fs ls →
          TurnKinds.Turn S fuel w v t
      by_tower (f ∷ fs) ls at (Invariant.Base k) =
          FrameTurns.frame_turn S fuel w v t f fs [] b at (Invariant.Base k) (λ c on. absurd on) k
          (on_top (f ∷ fs) [] at)
      by_tower [] ls at (Invariant.Plain {l = l} {ls = ms} n k p none rest) =
          UnacceptedTurns.initialization_turn S fuel w v t l ms b
          (record { at = at; other = n; pending = p; none = none; rest = rest })
      by_tower (f ∷ fs) ls at (Invariant.Plain {l = l} {ls = ms} n k p none rest) =
          FrameTurns.frame_turn S fuel w v t f fs (l ∷ ms) b at (Invariant.Plain n k p none rest)
          (none_with S.I l ms n none) k
          (on_top (f ∷ fs) (l ∷ ms) at)
      by_tower [] ls at (Invariant.Inside {l = l} {ls = ms} a by p k going higher rest) =
          InitializerTurns.initialization_turn S fuel w v t l ms b
          (record { at = at; holds = a; by = by; pending = p; progress = going; higher = higher; rest = rest })
      by_tower (f ∷ fs) ls at (Invariant.Inside {l = l} {ls = ms} a by p k going higher rest) =
          InitializerTurns.quiet_turn S fuel w v t l ms b f fs
          (record { at = at; holds = a; by = by; pending = p; progress = going; higher = higher; rest = rest }) k

      by_thread : (th : Thread) → thread_at w t ≡ th → Invariant.StandsAt S w.shared fuel t (thread_at w t)
          → TurnKinds.Turn S fuel w v t
      by_thread (Ended end) at stands =
          TurnKinds.Neither (stepping S.P w t (Ended end) at)
          (inr (stepping S.P v t (Ended end) (thread_at-erased S.I w v b.erased t ∙ ap (cut_thread S.I) at)))
      by_thread (Going fs ls) at stands = by_tower fs ls at (subst (Invariant.StandsAt S w.shared fuel t) at stands)
