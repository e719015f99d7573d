-- What a row leads to in a shared state is what it leads to by the answers that it gets there.
use Rattle.std.proofs.Common.{◌≡◌, ℕ, Bool, true, false, [], refl, sym, ◌∙◌}
use Rattle.vm_state.specs.declared.value.Name.{Name}
use Rattle.vm_state.specs.declared.value.Maker.{Maker}
use Rattle.vm_state.specs.declared.object.Monitor.{Monitor}
use Rattle.vm_state.specs.declared.classes.Usability.{Usability}
use Rattle.vm_state.specs.declared.classes.Usability.TheVariants.{Ready, Fresh, Busy, Broken}
use Rattle.vm_state.specs.declared.ends.FaultKind.TheVariants.{Fault}
use Rattle.vm_state.specs.Statics.{usable}
use Rattle.vm_state.specs.SharedState.{SharedState, pool_of}
use Rattle.semantics.specs.Rows as rows
use Rattle.semantics.specs.Rows.{Row, Halt, Result, Lock, Blocked, Answered, lock_monitor, on_usable}
use Rattle.vm_state.specs.SharedState.{monitor_of}
use Rattle.semantics.specs.Rows.{on_lock, run_row}
use Rattle.semantics.specs.Answers.{Change, Writes, Changes, Makes, Sets, Prints, Transcript, Ends, Needs, Waits}
use Rattle.semantics.specs.Answers.{Mismatch, after}
use Rattle.semantics.specs.Answers.{by_state, by_lock}
use Rattle.semantics.specs.Answers.{told, change_done, enacted, on_state, on_answer, answers, AnswersDecide}

module _ (t : ℕ) (maker : Maker) where
  -- a change before a transcript is done before the transcript is enacted
  pub enacted-after : (sh : SharedState) (d : Change) (transcript : Transcript) →
      enacted t maker sh (after d transcript) ≡ enacted t maker (change_done t maker sh d) transcript
  enacted-after sh d (Ends outcome changes) = refl
  enacted-after sh d (Needs c) = refl
  enacted-after sh d Waits = refl
  enacted-after sh d Mismatch = refl

  -- the law of one row in one shared state
  abbrev pub IsDecided : Row → SharedState → Type 0
  IsDecided row sh = run_row t maker sh row ≡ enacted t maker sh (told row (answers t maker sh row))

  -- ---- what stands before the rest of a row

  -- a change
  decided_after : (sh : SharedState) (d : Change) (row : Row) → IsDecided row (change_done t maker sh d) →
      run_row t maker (change_done t maker sh d) row ≡ enacted t maker sh
      (after d (told row (answers t maker (change_done t maker sh d) row)))
  decided_after sh d row decided = decided
      ∙ sym (enacted-after sh d (told row (answers t maker (change_done t maker sh d) row)))

  -- the question for a class, which may have failed
  decided_class : (sh : SharedState) (c : ℕ) (u : Usability) (first second : Row) → IsDecided first sh
      → IsDecided second sh →
      on_usable u (run_row t maker sh first) (rows.Needs c) rows.Waits (run_row t maker sh second)
      ≡ enacted t maker sh (by_state u c
      (told first (on_state u (answers t maker sh first) (answers t maker sh second)))
      (told second (on_state u (answers t maker sh first) (answers t maker sh second))))
  decided_class sh c Ready first second works fails = works
  decided_class sh c Fresh first second works fails = refl
  decided_class sh c Busy first second works fails = refl
  decided_class sh c Broken first second works fails = fails

  -- the question for the class of a static
  decided_static : (sh : SharedState) (c : ℕ) (u : Usability) (ready : Result) (transcript : Transcript)
      → ready ≡ enacted t maker sh transcript →
      on_usable u ready (rows.Needs c) rows.Waits (rows.Moved (Halt Fault) sh)
      ≡ enacted t maker sh (by_state u c transcript (Ends (Halt Fault) []))
  decided_static sh c Ready ready transcript works = works
  decided_static sh c Fresh ready transcript works = refl
  decided_static sh c Busy ready transcript works = refl
  decided_static sh c Broken ready transcript works = refl

  -- a monitor
  decided_lock : (sh : SharedState) (l : Lock) (x : Name) (next : Bool → Row) →
      ((done : Bool) (m : Monitor) → IsDecided (next done) (change_done t maker sh (Sets x m))) →
      on_lock l rows.Waits (λ done m. run_row t maker (change_done t maker sh (Sets x m)) (next done))
      ≡ enacted t maker sh (by_lock l (λ done m. after (Sets x m) (told (next done)
      (on_answer l (λ done m. answers t maker (change_done t maker sh (Sets x m)) (next done))))))
  decided_lock sh Blocked x next decided = refl
  decided_lock sh (Answered done m) x next decided = decided_after sh (Sets x m) (next done) (decided done m)

  -- ---- a whole row

  decided : (row : Row) (sh : SharedState) → IsDecided row sh
  decided (rows.Ends outcome) sh = refl
  decided (rows.UseClass c next) sh =
      decided_class sh c (usable t (sh.states c)) (next true) (next false) (decided (next true) sh)
      (decided (next false) sh)
  decided (rows.ReadStatic c f next) sh = decided_static sh c (usable t (sh.states c)) _ _ (decided (next _) sh)
  decided (rows.WriteStatic c f v next) sh =
      decided_static sh c (usable t (sh.states c)) _ _ (decided_after sh (Writes c f v) next (decided next _))
  decided (rows.AskClass x next) sh = decided (next _) sh
  decided (rows.LookInto x part next) sh = decided (next _) sh
  decided (rows.Change x i v next) sh = decided_after sh (Changes x i v) next (decided next _)
  decided (rows.Make class slots next) sh = decided_after sh (Makes class slots) (next _) (decided (next _) _)
  decided (rows.UseMonitor x enter next) sh =
      decided_lock sh (lock_monitor t enter (monitor_of ((pool_of sh x.maker).at x.number))) x next
      (λ done m. decided (next done) _)
  decided (rows.Print text next) sh = decided_after sh (Prints text) next (decided next _)

pub answers_decide_lem : AnswersDecide
answers_decide_lem t maker sh row = decided t maker row sh
