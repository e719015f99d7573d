-- What is wrong with entries, or with a journal, as faults of a replay; and a wrong number of entries.
use Rattle.std.proofs.Common.{◌≡◌, ◌≢◌, ◌↔◌, ◌⊎◌, ◌<◌, ◌∙◌, inl, inr, ℕ, List, Result, Err, length, refl, sym, ap, subst}
use Rattle.semantics.specs.Worlds.{World}
use Rattle.program.specs.Tables.{Tables}
use Rattle.machine.specs.Linked.{program_of}
use Rattle.object_graph.specs.Images.{ImageTables}
use Rattle.init_engine.specs.Starts.{EntriesFail}
use Rattle.init_engine.specs.declared.fault.EntryFault.{EntryFault}
use Rattle.init_engine.specs.declared.fault.EntryFault.TheVariants as entries
use Rattle.image_reader.specs.Starts.{IsImageStart}
use Rattle.thread_runner.specs.Replays.{ReplayFails}
use Rattle.thread_runner.specs.Replays as runs_fail
use Rattle.thread_runner.specs.declared.replay.ReplayFault.{ReplayFault as NoRun}
use Rattle.thread_runner.specs.declared.replay.ReplayFault.TheVariants as no_runs
use Rattle.image_runner.specs.Replays.{ImageReplayFails, entry, turn}
use Rattle.image_runner.specs.declared.fault.ReplayFault.{ReplayFault}
use Rattle.image_runner.specs.declared.fault.ReplayFault.TheVariants.{Memory, Entry, Turn}

module _ (I : ImageTables) (names : List (List ℕ)) (runs : List (ℕ × ℕ)) where
  abbrev IsRefusal : ReplayFault → Type 0
  IsRefusal fault = (fault ≡ Memory) ⊎ ImageReplayFails I names runs fault

  pub no_run : (first : World) (P : Tables) (line : ℕ) (fault : NoRun) → P ≡ I.program → IsImageStart I names first
      → fault ≡ no_runs.Turn line → (fault ≡ no_runs.Memory) ⊎ ReplayFails (program_of P) first runs fault
      → IsRefusal (Turn line)
  no_run first P line fault same start is (inl memory) = cc
  no_run first P line fault same start is (inr (runs_fail.turn {line = other} none)) =
      let counted : other ≡ line = cc in
      inr (subst (λ (k : ℕ). ImageReplayFails I names runs (Turn k)) counted
      (turn (record { first = first; start = start; has = rw same at none })))

  pub no_start : (fault : EntryFault) (r : ReplayFault) → (fault ≡ entries.Memory) ⊎ EntriesFail I.program names fault
      → (fault ≡ entries.Memory → r ≡ Memory) → (fault ≢ entries.Memory → r ≡ Entry fault) → IsRefusal r
  no_start fault r (inl e) memory other = inl (memory e)
  no_start entries.Memory r (inr fails) memory other = inl (memory refl)
  no_start fault r (inr fails) memory other =
      inr (subst (ImageReplayFails I names runs) (sym (other (λ e. cc))) (entry fails))

-- ---- a wrong number of entries

abbrev refused : {T F : Type 0} → F → Result T F
refused fault = Err fault

same_fault : {T F : Type 0} (x y : F) → refused {T = T} x ≡ refused {T = T} y → x ≡ y
same_fault x y is = cc

count_fault : (fault : EntryFault) (r : ReplayFault) → (fault ≡ entries.Memory → r ≡ Memory)
    → (fault ≢ entries.Memory → r ≡ Entry fault) → r ≡ Entry entries.Count → fault ≡ entries.Count
count_fault entries.Memory r memory other is = let e = memory refl in cc
count_fault (entries.Unknown place) r memory other is = let e = other (λ e. cc) in cc
count_fault (entries.NoMain place) r memory other is = let e = other (λ e. cc) in cc
count_fault entries.Count r memory other is = refl

-- it is told where `world` tells it
pub count_told : {T S : Type 0} (started : Result T EntryFault) (fault : EntryFault) (r : ReplayFault)
    (wrong : Type 0) → started ≡ Err fault → (started ≡ Err entries.Count) ↔ wrong
    → (fault ≡ entries.Memory → r ≡ Memory) → (fault ≢ entries.Memory → r ≡ Entry fault)
    → (refused {T = S} r ≡ refused {T = S} (Entry entries.Count)) ↔ wrong
count_told {T} {S} started fault r wrong is told memory other = (there, back)
  where
    there : refused {T = S} r ≡ refused {T = S} (Entry entries.Count) → wrong
    there same =
        let count : fault ≡ entries.Count =
        count_fault fault r memory other (same_fault {T = S} r (Entry entries.Count) same) in
        told.0 (is ∙ ap (λ (f : EntryFault). refused {T = T} f) count)

    back : wrong → refused {T = S} r ≡ refused {T = S} (Entry entries.Count)
    back w =
        let count : fault ≡ entries.Count =
        same_fault {T = T} fault entries.Count (sym is ∙ told.1 w) in
        let none : fault ≢ entries.Memory = λ e. cc in
        ap (λ (f : ReplayFault). refused {T = S} f)
        (other none ∙ ap (λ (f : EntryFault). Entry f) count)
