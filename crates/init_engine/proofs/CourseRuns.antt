-- Instructions in a row after each of which a thread goes on above the same initializations are a run.
use Rattle.std.proofs.Common.{◌≡◌, ℕ, zero, suc, ◌<◌, List, [], ◌∷◌, Option, Some, length, get_or, slice_get, map}
use Rattle.std.proofs.Common.{slice_set}
use Rattle.std.proofs.Common.{replicate, sym, ap, subst, ◌∙◌}
use Rattle.std.proofs.lemmas.List.{map-set, set-set}
use Rattle.std.proofs.lemmas.Option.{slice_get-get_or}
use Rattle.vm_state.specs.declared.frame.Frame.{Frame}
use Rattle.vm_state.specs.declared.initialization.Level.{Level}
use Rattle.vm_state.specs.declared.initialization.Levels.{Levels}
use Rattle.vm_state.specs.declared.initialization.Frames.{Frames}
use Rattle.vm_state.specs.SharedTables.{SharedTables}
use Rattle.vm_state.specs.Output.{Print}
use Rattle.vm_state.specs.SharedState.{SharedState}
use Rattle.vm_state.specs.Shares.{shared_of}
use Rattle.vm_state.specs.Stacks.{segment_of, levels_of, levels_in}
use Rattle.semantics.specs.Steps.{Thread as DefinedThread, Going as IsGoingOn, follows, step_thread, maker_of}
use Rattle.semantics.specs.Worlds.{World, Run, step_of, put_thread}
use Rattle.program.specs.Tables.{Tables}
use Rattle.machine.specs.Linked.{program_of}
use Rattle.courses.specs.Courses.{Above, above, over}
use Rattle.courses.specs.Passages.{GoesOn, Passage}
use Rattle.init_engine.specs.declared.world.Thread.{Thread}
use Rattle.init_engine.specs.declared.world.Thread.TheVariants.{Going, Ended}
use Rattle.init_engine.specs.Numbering.{AreNumbered}
use Rattle.init_engine.specs.Threads.{thread_of}
use Rattle.init_engine.specs.steps.Threads.{RunsHere}
use Rattle.init_engine.proofs.SetLemmas.{get_set, set_same}
use Rattle.init_engine.proofs.WorldSteps.{world_with, thread_at}

goes_on_steps : (P : Tables) (t : ℕ) (fs gs : List Frame) (ls : List Level) (sh new : SharedState) →
    GoesOn P t (maker_of t ls) (over fs sh) (over gs new) →
    step_thread (program_of P) t sh (IsGoingOn fs ls) ≡ Some (record { shared = new; thread = IsGoingOn gs ls })
unfolding step_thread
goes_on_steps P t [] gs ls sh new (leads, some) = cc
goes_on_steps P t (f ∷ fs) [] ls sh new (leads, some) = absurd some
goes_on_steps P t (f ∷ fs) (g ∷ gs) ls sh new (leads, some) =
    ap (follows (program_of P) sh t (f ∷ fs) ls) leads

-- ---- in the whole world

abbrev world_by : SharedState → List DefinedThread → World
world_by sh threads = record { shared = sh; threads = threads }

module _ (P : Tables) (t : ℕ) (ls : List Level) where
  runs_above : (n : ℕ) (threads : List DefinedThread) (a b : Above) →
      slice_get threads t ≡ Some (IsGoingOn a.frames ls) → Passage P t (maker_of t ls) n a b →
      Run (program_of P) (world_by a.shared threads) (replicate n t)
      (world_by b.shared (slice_set threads t (IsGoingOn b.frames ls)))
  runs_above zero threads a b stands same =
      ap (world_by a.shared) (set_same threads t (IsGoingOn a.frames ls) stands)
      ∙ ap (λ (x : Above). world_by x.shared (slice_set threads t (IsGoingOn x.frames ls))) (sym same)
  runs_above (suc n) threads a b stands (m, leads, more) =
      let middle = IsGoingOn m.frames ls in
      let there = slice_set threads t middle in
      let stepped = ap (step_of (program_of P) (world_by a.shared threads) t) stands
      ∙ ap (put_thread (world_by a.shared threads) t)
      (goes_on_steps P t a.frames m.frames ls a.shared m.shared leads) in
      let rest = runs_above n there m b (get_set threads t (IsGoingOn a.frames ls) middle stands) more in (
        world_by m.shared there,
        stepped,
        subst (λ (ts : List DefinedThread). Run (program_of P) (world_by m.shared there) (replicate n t)
            (world_by b.shared ts))
            (set-set threads t middle (IsGoingOn b.frames ls)) rest,
      )

-- ---- what the code's run of one thread is

module _ (P : Tables) (n : ℕ) (threads : List Thread) (before after : SharedTables) (printed : List Print) (t : ℕ) where
  -- a run that leaves this thread so
  abbrev RunsTo : Thread → Type 0
  RunsTo new = Run (program_of P) (world_with threads before printed) (replicate n t)
      (world_with (slice_set threads t new) after printed)

  nothing_run : (old : Thread) → slice_get threads t ≡ Some old → n ≡ 0 → after ≡ before → RunsTo old
  nothing_run old stands none same =
      subst (λ k. Run (program_of P) (world_with threads before printed) (replicate k t)
      (world_with (slice_set threads t old) after printed)) (sym none)
      (ap (λ ts. world_with ts before printed) (set_same threads t old stands)
      ∙ ap (λ (s : SharedTables). world_with (slice_set threads t old) s printed) (sym same))

  top_runs : (s r : Frames) → slice_get threads t ≡ Some (Going s) →
      ((p : List Print) → Passage P t (maker_of t (levels_of s)) n (above (segment_of s) before p)
      (above (segment_of r) after p)) → r.levels ≡ s.levels → RunsTo (Going r)
  top_runs s r stands run same =
      let left : Thread = Going r in
      let stood = thread_at threads t (Going s) stands in
      let whole = runs_above P t (levels_of s) n _ (above (segment_of s) before printed)
      (above (segment_of r) after printed) stood (run printed) in
      let levels : IsGoingOn (segment_of r) (levels_of s) ≡ thread_of left =
      ap (λ (x : Option Levels). IsGoingOn (segment_of r) (levels_in x)) (sym same) in
      subst (λ (ts : List DefinedThread). Run (program_of P) (world_with threads before printed) (replicate n t)
      (world_by (shared_of after printed) ts))
      (ap (slice_set (map thread_of threads) t) levels ∙ sym (map-set thread_of threads t left)) whole

  thread_runs : (old new : Thread) → slice_get threads t ≡ Some old → AreNumbered threads
      → RunsHere P n old before new after →
      RunsTo new
  thread_runs (Ended end) new stands numbered (none, same, kept) =
      subst RunsTo (sym same) (nothing_run (Ended end) stands none kept)
  thread_runs (Going s) (Ended end) stands numbered h = absurd h
  thread_runs (Going s) (Going r) stands numbered (run, number, levels) =
      let same : s.thread ≡ t = numbered t (Going s) stands in
      top_runs s r stands
      (subst (λ k. (p : List Print) → Passage P k (maker_of k (levels_of s)) n (above (segment_of s) before p)
      (above (segment_of r) after p)) same run) levels

  pub world_runs : (old new : Thread) → t < length threads → old ≡ get_or threads t old → AreNumbered threads →
      RunsHere P n old before new after → RunsTo new
  world_runs old new inside is numbered run =
      thread_runs old new (slice_get-get_or threads t old inside ∙ ap Some (sym is)) numbered run
