-- What is wrong with an image, a journal or its replay, as refusals; and what a replay comes to.
use Rattle.std.proofs.Common.{◌≡◌, ◌∙◌, ◌≢◌, ◌⊎◌, inl, inr, ℕ, List, Option, Some, None, Result, Ok, Err, IfOk}
use Rattle.std.proofs.Common.{sym, ap, subst, refl, arith}
use Rattle.std.specs.Io.KnownBytes.{Appends}
use Rattle.vm_state.specs.Output.{Print, text_of}
use Rattle.object_graph.specs.Images.{ImageTables}
use Rattle.program.specs.Programs.{IsProgram}
use Rattle.image_parser.specs.ImageFaults.{ImageFails}
use Rattle.image_parser.specs.declared.image_fault.ImageFault.{ImageFault}
use Rattle.image_parser.specs.declared.image_fault.ImageFault.TheVariants as image_faults
use Rattle.init_engine.specs.Schedules.{schedule_of}
use Rattle.journal.specs.Journals.{IsJournalOf, JournalFails}
use Rattle.journal.specs.Journals as journals
use Rattle.journal.specs.declared.fault.JournalFault.{JournalFault}
use Rattle.journal.specs.declared.fault.JournalFault.TheVariants as journal_faults
use Rattle.image_reader.specs.Starts.{IsImageStart}
use Rattle.image_runner.specs.Replays.{ImageReplayFails, IsImageReplay}
use Rattle.image_runner.specs.Replays as replays
use Rattle.image_runner.specs.declared.fault.ReplayFault.{ReplayFault}
use Rattle.image_runner.specs.declared.fault.ReplayFault.TheVariants as replay_faults
use Rattle.command_line.specs.declared.request.Replay.{Replay}
use Rattle.command_line.specs.declared.request.Request.TheVariants as requests
use Rattle.cli.specs.declared.fault.CommandFault.{CommandFault}
use Rattle.cli.specs.declared.fault.CommandFault.TheVariants.{Image, Memory}
use Rattle.cli.specs.declared.image_replay.ImageReplay.{ImageReplay}
use Rattle.cli.specs.declared.status.Status.{Status}
use Rattle.cli.specs.Done.{HasReplayed}
use Rattle.cli.specs.Entries.{entry_names}
use Rattle.cli.specs.Files.{AreBytesOf, Contents}
use Rattle.cli.specs.FirstSteps.{IsReplayedTo, Spells, SpellsFirst}
use Rattle.cli.specs.ImageBuilds.{IsReadAsBuilt}
use Rattle.cli.specs.ImageReplays.{IsNoReplay, IsReplayed, IsReplayOf, image, journal, entry, turn}
use Rattle.cli.specs.ImageRuns.{IsSomeTextOf}
use Rattle.cli.specs.Running.{IsOfRun}
use Rattle.cli.specs.Status.{replay_status}
use Rattle.cli.specs.steps.Refusals.{journal_refusal, replay_refusal}
use Rattle.sinks.proofs.AppendsLemmas.{appends_nothing}
use Rattle.cli.proofs.RunningLemmas.{cut_at_end}

-- ---- refusals

module _ (bytes : List ℕ) (names : List (List ℕ)) (text : List ℕ) where
  abbrev IsRefusal : CommandFault → Type 0
  IsRefusal r = (r ≡ Memory) ⊎ IsNoReplay bytes names text r

  pub no_image : (fault : ImageFault) (r : CommandFault) → (fault ≡ image_faults.Memory) ⊎ ImageFails bytes fault
      → (fault ≡ image_faults.Memory → r ≡ Memory) → (fault ≢ image_faults.Memory → r ≡ Image fault) → IsRefusal r
  no_image fault r (inl e) memory other = inl (memory e)
  no_image image_faults.Memory r (inr fails) memory other = inl (memory refl)
  no_image fault r (inr fails) memory other =
      inr (subst (IsNoReplay bytes names text) (sym (other (λ e. cc))) (image fails))

  pub no_journal : (I : ImageTables) (fault : JournalFault) (r : CommandFault) → IsSomeTextOf bytes I
      → (fault ≡ journal_faults.Memory) ⊎ JournalFails text fault → r ≡ journal_refusal fault → IsRefusal r
  no_journal I fault r of (inl e) is = inl (is ∙ ap journal_refusal e)
  no_journal I fault r of (inr (journals.line first)) is =
      inr (subst (IsNoReplay bytes names text) (sym is) (journal I of first))

  pub no_replay : (I : ImageTables) (runs : List (ℕ × ℕ)) (fault : ReplayFault) (r : CommandFault)
      → IsProgram I.program → IsSomeTextOf bytes I → IsJournalOf text runs
      → (fault ≡ replay_faults.Memory) ⊎ ImageReplayFails I names runs fault → r ≡ replay_refusal fault → IsRefusal r
  no_replay I runs fault r program of is_journal (inl e) is = inl (is ∙ ap replay_refusal e)
  no_replay I runs fault r program of is_journal (inr (replays.entry fails)) is =
      inr (subst (IsNoReplay bytes names text) (sym is) (entry I program of is_journal fails))
  no_replay I runs fault r program of is_journal (inr (replays.turn none)) is =
      inr (subst (IsNoReplay bytes names text) (sym is) (turn I program of is_journal none))

-- ---- what is replayed

pub replayed_text : (bytes : List ℕ) (names : List (List ℕ)) (text : List ℕ) (I : ImageTables)
    (result : Result ImageReplay CommandFault) → IsSomeTextOf bytes I → IsReadAsBuilt bytes I → IsProgram I.program
    → IfOk result (λ r. r.image ≡ I) → IfOk result (λ r. IsJournalOf text r.journal)
    → IfOk result (λ r. IsImageReplay I names r.journal r.seen) → IfOk result (IsReplayed bytes names text)
replayed_text bytes names text I (Ok r) of built program same spelled shown = record {
  image = subst (IsSomeTextOf bytes) (sym same) of;
  built = subst (IsReadAsBuilt bytes) (sym same) built;
  program = subst (λ (J : ImageTables). IsProgram J.program) (sym same) program;
  journal = spelled;
  shown = subst (λ (J : ImageTables). IsImageReplay J names r.journal r.seen) (sym same) shown;
}
replayed_text bytes names text I (Err _) of built program same spelled shown = tt

-- the same of its first steps
pub replayed_first : (steps : ℕ) (bytes : List ℕ) (names : List (List ℕ)) (text : List ℕ) (I : ImageTables)
    (result : Result ImageReplay CommandFault) → IsSomeTextOf bytes I → IsReadAsBuilt bytes I → IsProgram I.program
    → IfOk result (λ r. r.image ≡ I) → IfOk result (λ r. SpellsFirst steps text r.journal)
    → IfOk result (λ r. IsImageReplay I names r.journal r.seen) → IfOk result (IsReplayedTo steps bytes names text)
replayed_first steps bytes names text I (Ok r) of built program same spelled shown = record {
  image = subst (IsSomeTextOf bytes) (sym same) of;
  built = subst (IsReadAsBuilt bytes) (sym same) built;
  program = subst (λ (J : ImageTables). IsProgram J.program) (sym same) program;
  journal = spelled;
  shown = subst (λ (J : ImageTables). IsImageReplay J names r.journal r.seen) (sym same) shown;
}
replayed_first steps bytes names text I (Err _) of built program same spelled shown = tt

-- replays of what files hold, where what they are made of is theirs
module _ (holds : Contents) (words : Replay) (bytes text : List ℕ) (names : List (List ℕ))
    (held : AreBytesOf (holds words.image.now) bytes) (told : AreBytesOf (holds words.journal.now) text)
    (are : names ≡ entry_names words.entries.now) where
  of_files : (r : ImageReplay) → IsSomeTextOf bytes r.image → IsReadAsBuilt bytes r.image → IsProgram r.image.program
      → IsImageReplay r.image names r.journal r.seen → Spells words.at text r.journal → IsReplayOf holds words r
  of_files r of built program shown spelled = record {
    first = shown.first;
    begun = record {
      bytes = bytes;
      held = held;
      text = of;
      built = built;
      program = program;
      start = subst (λ (ns : List (List ℕ)). IsImageStart r.image ns shown.first) are shown.start;
    };
    bytes = text;
    held = told;
    journal = spelled;
    shown = shown.has;
  }

  pub replay_of : (result : Result ImageReplay CommandFault) → words.at ≡ None
      → IfOk result (IsReplayed bytes names text) → IfOk result (IsReplayOf holds words)
  replay_of (Ok r) all is =
      of_files r is.image is.built is.program is.shown
      (subst (λ (steps : Option ℕ). Spells steps text r.journal) (sym all) is.journal)
  replay_of (Err _) all is = tt

  pub first_of : (steps : ℕ) (result : Result ImageReplay CommandFault) → words.at ≡ Some steps
      → IfOk result (IsReplayedTo steps bytes names text) → IfOk result (IsReplayOf holds words)
  first_of steps (Ok r) some is =
      of_files r is.image is.built is.program is.shown
      (subst (λ (most : Option ℕ). Spells most text r.journal) (sym some) is.journal)
  first_of steps (Err _) some is = tt

module _ (holds : Contents) (words : Replay) (before after : Option (List ℕ)) (replay : ImageReplay) where
  -- a replay of which nothing has gone out, or all
  pub of_replay : IsReplayOf holds words replay
      → (after ≡ before) ⊎ Appends before after (text_of replay.seen.printed)
      → IsOfRun holds (requests.Replay words) before after
  of_replay is (inl same) = record {
    program = replay.image.program;
    first = is.first;
    begun = record { image = replay.image; program = refl; begun = is.begun };
    cut = record {
      schedule = schedule_of replay.journal;
      last = is.shown.last;
      run = is.shown.run;
      sent = (0, omega arith, rw same (appends_nothing before));
    };
  }
  of_replay is (inr sent) = record {
    program = replay.image.program;
    first = is.first;
    begun = record { image = replay.image; program = refl; begun = is.begun };
    cut = cut_at_end replay.image.program is.first (schedule_of replay.journal) is.shown.last before after
        is.shown.run (subst (λ (prints : List Print). Appends before after (text_of prints)) is.shown.observed.0 sent);
  }

  pub has_replayed : (status : Status) → IsReplayOf holds words replay
      → (status ≡ replay_status replay.seen.threads.items) × Appends before after (text_of replay.seen.printed)
      → HasReplayed holds words before after status
  has_replayed status is (told, sent) = record {
    image = replay.image;
    first = is.first;
    begun = is.begun;
    bytes = is.bytes;
    held = is.held;
    runs = replay.journal;
    journal = is.journal;
    last = is.shown.last;
    run = is.shown.run;
    status_is = told ∙ ap replay_status is.shown.observed.1;
    sent = subst (λ (prints : List Print). Appends before after (text_of prints)) is.shown.observed.0 sent;
  }
