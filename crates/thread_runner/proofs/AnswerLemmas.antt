-- What is answered of a run, from what its book has.
use Rattle.std.proofs.Common.{◌≡◌, ℕ, ◌≤◌, ◌++◌, List, Option, Some, Result, Ok, Err, sym, ap}
use Rattle.std.proofs.Common.{subst, ◌∙◌, arith, take, length}
use Rattle.std.proofs.Math.Seq.{take-length}
use Rattle.std.specs.Io.KnownBytes.{Appends}
use Rattle.vm_state.specs.Output.{Print, text_of}
use Rattle.vm_state.specs.Shares.{shared_of}
use Rattle.semantics.specs.Worlds.{World, Run}
use Rattle.program.specs.Tables.{Tables}
use Rattle.machine.specs.Linked.{program_of}
use Rattle.init_engine.specs.Schedules.{schedule_of}
use Rattle.init_engine.specs.Standing.{Standing}
use Rattle.init_engine.specs.Turns.{world_of}
use Rattle.init_engine.specs.Rests.{AllEnded, IsStuck}
use Rattle.thread_runner.specs.Answers.{HasEnded, HavePrintsGoneOut, IsAnswer, IsAtLimit, IsBeginning, IsEnd}
use Rattle.thread_runner.specs.Kept.{Grows, IsKept, Past}
use Rattle.thread_runner.specs.Sendings.{AreOfPrints}
use Rattle.thread_runner.specs.declared.answer.Ended.{Ended}
use Rattle.thread_runner.specs.declared.answer.RunFault.{RunFault}
use Rattle.thread_runner.specs.declared.answer.RunFault.TheVariants.{Memory, Spawn, Device, Limit, Stuck}
use Rattle.thread_runner.specs.steps.Verdicts.{IsVerdict}
use Rattle.thread_runner.proofs.SendingLemmas.{Holds, holds_appends, prints_text, text_stays}

-- the first bytes of what was printed
beginning_of : (P : Tables) (start : World) (schedule : List ℕ) (s : Standing) (n : ℕ)
    (before got : Option (List ℕ)) → Run (program_of P) start schedule (world_of s) → n ≤ length (text_of s.printed)
    → Appends before got (take n (text_of s.printed)) → IsBeginning P start n before got
unfolding shared_of
beginning_of P start schedule s n before got run within sent = record {
  schedule = schedule;
  last = world_of s;
  run = run;
  within = within;
  sent = sent;
}

pub beginning : (P : Tables) (start : World) (h : Past) (n sent : ℕ) (before got : Option (List ℕ)) → IsKept P start h
    → n ≡ sent → sent ≤ length (text_of h.world.printed) → Holds before got (take sent (text_of h.world.printed))
    → IsBeginning P start n before got
beginning P start h n sent before got kept is within holds =
    let text = text_of h.world.printed in
    beginning_of P start (schedule_of h.journal) h.world n before got kept.runs (omega (arith, is, within))
    (subst (λ k. Appends before got (take k text)) (sym is) (holds_appends before got (take sent text) holds))

-- the first lines of what was printed
lines_of : (P : Tables) (start : World) (schedule : List ℕ) (s : Standing) (n : ℕ) (before got : Option (List ℕ))
    → Run (program_of P) start schedule (world_of s) → AreOfPrints s.printed n
    → Appends before got (take n (text_of s.printed)) → HavePrintsGoneOut P start before got
unfolding shared_of
lines_of P start schedule s n before got run (count, within, is) sent = record {
  schedule = schedule;
  last = world_of s;
  run = run;
  count = count;
  within = within;
  sent = subst (λ (t : List ℕ). Appends before got t) (prints_text s.printed count n is) sent;
}

pub lines_gone : (P : Tables) (start : World) (h : Past) (sent : ℕ) (before got : Option (List ℕ)) → IsKept P start h
    → AreOfPrints h.world.printed sent → Holds before got (take sent (text_of h.world.printed))
    → HavePrintsGoneOut P start before got
lines_gone P start h sent before got kept whole holds =
    lines_of P start (schedule_of h.journal) h.world sent before got kept.runs whole
    (holds_appends before got (take sent (text_of h.world.printed)) holds)

-- all that was printed
ended_so : (P : Tables) (start : World) (s : Standing) (e : Ended) (how : World → Type 0) (before got : Option (List ℕ))
    → Appends before got (text_of s.printed) → IsEnd P start e (world_of s)
    → how (world_of s) → HasEnded P start e how before got
unfolding shared_of
ended_so P start s e how before got sent is over = record { last = world_of s; is_end = is; over = over; sent = sent }

pub answer_of : (P : Tables) (start : World) (limit failed failures : ℕ) (schedule : List ℕ) (s : Standing)
    (r : Result Ended RunFault) (before got : Option (List ℕ)) → Run (program_of P) start schedule (world_of s)
    → Appends before got (text_of s.printed) → IsVerdict P start limit (world_of s) r
    → IsAnswer P start limit r before got failed failures
answer_of P start limit failed failures schedule s (Ok e) before got run sent v =
    ended_so P start s e AllEnded before got sent v.0 v.1
answer_of P start limit failed failures schedule s (Err Memory) before got run sent v =
    let text = text_of s.printed in
    let all : length text ≡ length (text_of (take (length s.printed) s.printed)) =
    ap (λ (ls : List Print). length (text_of ls)) (sym (take-length s.printed)) in
    lines_of P start schedule s (length text) before got run (length s.printed, omega arith, all)
    (subst (λ (t : List ℕ). Appends before got t) (sym (take-length text)) sent)
answer_of P start limit failed failures schedule s (Err Spawn) before got run sent v = absurd v
answer_of P start limit failed failures schedule s (Err (Device n)) before got run sent v = absurd v
answer_of P start limit failed failures schedule s (Err (Limit e)) before got run sent v =
    ended_so P start s e (IsAtLimit P limit e) before got sent v.0 v.1
answer_of P start limit failed failures schedule s (Err (Stuck e)) before got run sent v =
    ended_so P start s e (IsStuck (program_of P)) before got sent v.0 v.1

-- a sink that has got all
pub holds_all : (before got : Option (List ℕ)) (text : List ℕ) (n : ℕ) → n ≡ length text
    → Holds before got (take n text) → Appends before got text
holds_all before got text n is holds =
    subst (λ (t : List ℕ). Appends before got t) (ap (λ k. take k text) is ∙ take-length text)
    (holds_appends before got (take n text) holds)

-- what was sent stays where more is printed
pub holds_still : (before got : Option (List ℕ)) (old new : List Print) (n m : ℕ) → Grows old new
    → n ≤ length (text_of old) → m ≡ n → Holds before got (take n (text_of old))
    → Holds before got (take m (text_of new))
holds_still before got old new n m (more, grown) within same holds bs is =
    holds bs is
    ∙ ap (λ (t : List ℕ). Some (bs ++ t))
    (sym (text_stays old more n within)
    ∙ (ap (λ (ls : List Print). take n (text_of ls)) (sym grown)
    ∙ ap (λ k. take k (text_of new)) (sym same)))
