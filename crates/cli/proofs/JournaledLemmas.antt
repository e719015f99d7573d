-- Runs with their journals, and what of their text has gone out.
use Rattle.std.proofs.Common.{◌≡◌, ◌∙◌, ℕ, Bool, false, List, Option, Some, None, Result, length, sym, ap, subst, arith}
use Rattle.std.proofs.Math.Seq.{take-length}
use Rattle.std.specs.Io.KnownBytes.{Appends, Keeps}
use Rattle.vm_state.specs.declared.ends.Ending.{Ending}
use Rattle.vm_state.specs.Output.{Print, text_of}
use Rattle.semantics.specs.Worlds.{World, Run as Reaches, seen}
use Rattle.program.specs.Tables.{Tables}
use Rattle.machine.specs.Linked.{program_of}
use Rattle.init_engine.specs.Schedules.{schedule_of}
use Rattle.thread_runner.specs.Answers.{IsAnswer}
use Rattle.thread_runner.specs.declared.answer.Ended.{Ended as Over}
use Rattle.thread_runner.specs.declared.answer.RunFault.{RunFault}
use Rattle.command_line.specs.declared.request.Run.{Run as Asked}
use Rattle.cli.specs.declared.by_threads.Journaled.{Journaled}
use Rattle.cli.specs.declared.running.CutShort.TheVariants.{Device, Memory}
use Rattle.cli.specs.declared.status.Status.{Status}
use Rattle.cli.specs.declared.status.Status.TheVariants.{Refused}
use Rattle.cli.specs.Done.{HasEndedWithJournal, IsWritten}
use Rattle.cli.specs.Files.{Contents}
use Rattle.cli.specs.Journaled.{IsJournaled, limit_by_threads}
use Rattle.cli.specs.Running.{IsCutShort, cut_of}
use Rattle.cli.specs.Status.{run_status}
use Rattle.cli.proofs.RunningLemmas.{cut_at_end}

pub journaled_cut_at_end : (turns : Bool) (limit : ℕ) (P : Tables) (first : World) (before after : Option (List ℕ))
    (ran : Journaled) → IsJournaled turns limit P first before after ran → IsCutShort P first before after Memory
journaled_cut_at_end turns limit P first before after ran is =
    cut_at_end P first (schedule_of ran.journal) is.last before after is.run is.sent

-- a run that was cut short where its command was refused
pub cut_if_refused : (P : Tables) (first : World) (before after : Option (List ℕ)) (status : Status)
    → IsCutShort P first before after (cut_of status) → status ≡ Refused → IsCutShort P first before after Memory
cut_if_refused P first before after status is refused =
    subst (λ (s : Status). IsCutShort P first before after (cut_of s)) refused is

pub ended_with_journal : (old new : Contents) (words : Asked) (P : Tables) (first : World)
    (before after : Option (List ℕ)) (ran : Journaled) (status : Status)
    → IsJournaled words.turns words.limit P first before after ran → status ≡ ran.status
    → IsWritten old new words.journal (schedule_of ran.journal)
    → HasEndedWithJournal old new words P first before after status
ended_with_journal old new words P first before after ran status is told written = record {
  schedule = schedule_of ran.journal;
  last = is.last;
  ended = record {
    run = is.run;
    rest = is.rest;
    stands = is.stands;
    status_is = told ∙ (is.status ∙ ap (λ (threads : List Ending). run_status threads is.rest) is.threads);
    sent = is.sent;
  };
  keeps = is.keeps;
  written = written;
}

-- ---- a flush after a run

appends_kept : (old mid new : Option (List ℕ)) (text : List ℕ) → Appends old mid text → Keeps mid new
    → Appends old new text
appends_kept None mid new text a kept = tt
appends_kept (Some xs) None new text a kept = absurd a
appends_kept (Some xs) (Some ys) None text a kept = absurd kept
appends_kept (Some xs) (Some ys) (Some zs) text a kept = kept ∙ a

pub flush_failed : (limit : ℕ) (P : Tables) (first : World) (before mid after : Option (List ℕ)) (ran : Journaled)
    → IsJournaled false limit P first before mid ran → Keeps mid after → IsCutShort P first before after Device
flush_failed limit P first before mid after ran is kept =
    let text = text_of is.last.shared.printed in
    record {
      schedule = schedule_of ran.journal;
      last = is.last;
      run = is.run;
      sent = (
        length text,
        omega arith,
        subst (λ (all : List ℕ). Appends before after all) (sym (take-length text))
            (appends_kept before mid after text is.sent kept),
      );
    }

-- ---- limits

pub at_most : (P : Tables) (first : World) (most limit : ℕ) (answer : Result Over RunFault)
    (before after : Option (List ℕ)) (failed failures : ℕ) → most ≡ limit_by_threads limit
    → IsAnswer P first most answer before after failed failures
    → IsAnswer P first (limit_by_threads limit) answer before after failed failures
at_most P first most limit answer before after failed failures same is =
    subst (λ (k : ℕ). IsAnswer P first k answer before after failed failures) same is
