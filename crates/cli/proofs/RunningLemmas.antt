-- Lines that go out, one piece after the other.
use Rattle.std.proofs.Common.{◌≡◌, ◌+◌, ◌≤◌, ◌∙◌, ℕ, suc, List, [], ◌∷◌, ◌++◌, Option, length, take, drop}
use Rattle.std.proofs.Common.{ap}
use Rattle.std.proofs.Common.{sym, subst, refl, arith, length-append, Bool, true, Err}
use Rattle.std.proofs.Math.Seq.{take-length}
use Rattle.std.proofs.lemmas.List.{length-map, take-append-drop, take-append-le}
use Rattle.std.specs.Io.KnownBytes.{Appends}
use Rattle.vm_state.specs.Shares.{shared_of}
use Rattle.vm_state.specs.declared.ends.Ending.{Ending}
use Rattle.vm_state.specs.Output.{Print, text_of}
use Rattle.semantics.specs.Worlds.{World, Run, seen}
use Rattle.program.specs.Tables.{Tables}
use Rattle.machine.specs.Linked.{program_of}
use Rattle.init_engine.specs.Rests.{IsRest}
use Rattle.init_engine.specs.Rounds.{Turns}
use Rattle.init_engine.specs.Schedules.{AreRuns, schedule_of}
use Rattle.init_engine.specs.Standing.{Standing}
use Rattle.init_engine.specs.Threads.{thread_of}
use Rattle.init_engine.specs.Turnings.{Midway, IsUnderWay, HasTurned, IsSlice}
use Rattle.init_engine.specs.Turns.{world_of}
use Rattle.init_engine.proofs.RoundLemmas.{run_so_far}
use Rattle.thread_runner.proofs.SendingLemmas.{text_join}
use Rattle.cli.specs.Done.{HasEndedByTurns}
use Rattle.cli.specs.declared.running.Ran.{Ran}
use Rattle.cli.specs.declared.running.RunFault.{RunFault}
use Rattle.cli.specs.declared.running.RunFault.TheVariants.{Memory, Device}
use Rattle.cli.specs.declared.status.Status.{Status}
use Rattle.cli.specs.Running.{HasRun, IsCutShort, IsStanding, SendsTo}
use Rattle.cli.specs.Status.{run_status}
use Rattle.sinks.proofs.AppendsLemmas.{appends_then}

pub threads_counted : (s : Standing) → length (world_of s).threads ≡ length s.threads
threads_counted s = length-map s.threads thread_of

-- prints that went out, and the rest of them
all_prints : (sent : ℕ) (prints : List Print)
    → text_of (take sent prints) ++ text_of (drop sent prints) ≡ text_of prints
all_prints sent prints =
    sym (text_join (take sent prints) (drop sent prints))
    ∙ ap (λ (ls : List Print). text_of ls) (take-append-drop sent prints)

-- prints that went out stay the first where more are printed
first_prints : (sent : ℕ) (prints more new : List Print) → sent ≤ length prints → new ≡ prints ++ more
    → take sent new ≡ take sent prints
first_prints sent prints more new within is =
    ap (λ (ls : List Print). take sent ls) is ∙ take-append-le sent prints more within

-- the first bytes of two texts, past those of the first
take_past : (a b : List ℕ) (n : ℕ) → take (length a + n) (a ++ b) ≡ a ++ take n b
take_past [] b n =
    let same : 0 + n ≡ n = omega arith in
    ap (λ k. take k b) same
take_past (x ∷ xs) b n =
    let same : length (x ∷ xs) + n ≡ suc (length xs + n) = omega arith in
    ap (λ k. take k (x ∷ xs ++ b)) same ∙ ap (λ (r : List ℕ). x ∷ r) (take_past xs b n)

-- ---- a run, slice by slice

-- the prints that went out before a slice are the first of those after it
pub still_sent : (steps bytes sent : ℕ) (over : Bool) (old new : Midway) (before now : Option (List ℕ))
    → IsSlice steps bytes over old new → sent ≤ length old.world.printed →
    Appends before now (text_of (take sent old.world.printed)) →
    (sent ≤ length new.world.printed) × Appends before now (text_of (take sent new.world.printed))
still_sent steps bytes sent over old new before now s within got = (
  omega (arith, ap length s.lines, length-append old.world.printed s.printed),
  subst (λ (ls : List Print). Appends before now (text_of ls))
      (sym (first_prints sent old.world.printed s.printed new.world.printed within s.lines)) got,
)

-- all prints have gone out
all_sent : (sent count : ℕ) (prints : List Print) (before now after : Option (List ℕ))
    → Appends before now (text_of (take sent prints)) → Appends now after (text_of (drop sent prints)) →
    count ≡ length prints →
    (count ≤ length prints) × Appends before after (text_of (take count prints))
    × Appends before after (text_of prints)
all_sent sent count prints before now after first second all =
    let whole = subst (λ (text : List ℕ). Appends before after text) (all_prints sent prints)
    (appends_then before now after (text_of (take sent prints)) (text_of (drop sent prints)) first second) in (
      omega (arith, all),
      subst (λ (ls : List Print). Appends before after (text_of ls))
          (sym (ap (λ k. take k prints) all ∙ take-length prints)) whole,
      whole,
    )

-- after a slice all prints have gone out, since what was new was sent
pub slice_sent : (steps bytes sent count : ℕ) (over : Bool) (old new : Midway) (prints : List Print)
    (before now after : Option (List ℕ)) → IsSlice steps bytes over old new → sent ≤ length old.world.printed
    → Appends before now (text_of (take sent old.world.printed)) → prints ≡ new.world.printed
    → Appends now after (text_of (drop sent prints)) → count ≡ length prints →
    (count ≤ length new.world.printed) × Appends before after (text_of (take count new.world.printed))
    × Appends before after (text_of new.world.printed)
slice_sent steps bytes sent count over old new prints before now after slice within got same sends all =
    let still = still_sent steps bytes sent over old new before now slice within got in
    all_sent sent count new.world.printed before now after still.1 (rw same at sends) (rw same at all)

-- memory was refused where the first prints had gone out
pub cut_by_memory : (P : Tables) (first : World) (limit sent : ℕ) (t : Midway) (before now : Option (List ℕ))
    → IsUnderWay (program_of P) first limit t → sent ≤ length t.world.printed →
    Appends before now (text_of (take sent t.world.printed)) → IsCutShort P first before now Memory
unfolding shared_of
cut_by_memory P first limit sent t before now under within got = record {
  schedule = schedule_of t.schedule;
  last = world_of t.world;
  run = run_so_far (program_of P) (length t.world.threads) limit t.left t.asked t.done first (world_of t.world)
      (schedule_of t.schedule) under;
  sent = (sent, within, got);
}

cut_by_device : (P : Tables) (first : World) (limit sent : ℕ) (t : Midway) (before now after : Option (List ℕ))
    → IsUnderWay (program_of P) first limit t → Appends before now (text_of (take sent t.world.printed)) →
    SendsTo {A = ℕ} now after (text_of (drop sent t.world.printed)) (Err Device) →
    IsCutShort P first before after Device
unfolding shared_of
cut_by_device P first limit sent t before now after under got (count, within, further) =
    let a = text_of (take sent t.world.printed) in
    let b = text_of (drop sent t.world.printed) in
    let all : a ++ b ≡ text_of t.world.printed = all_prints sent t.world.printed in
    let part : take (length a + count) (text_of t.world.printed) ≡ a ++ take count b =
    ap (λ (text : List ℕ). take (length a + count) text) (sym all) ∙ take_past a b count in
    let inside : length a + count ≤ length (text_of t.world.printed) =
    omega (arith, within, sym (ap length all), length-append a b) in
    record {
      schedule = schedule_of t.schedule;
      last = world_of t.world;
      run = run_so_far (program_of P) (length t.world.threads) limit t.left t.asked t.done first (world_of t.world)
          (schedule_of t.schedule) under;
      sent = (
        length a + count,
        inside,
        subst (λ (text : List ℕ). Appends before after text) (sym part)
            (appends_then before now after a (take count b) got further),
      );
    }

-- the rest of the prints did not go out whole
pub cut_in_sending : (P : Tables) (first : World) (limit sent : ℕ) (t : Midway) (before now after : Option (List ℕ))
    (fault : RunFault) → IsUnderWay (program_of P) first limit t → sent ≤ length t.world.printed →
    Appends before now (text_of (take sent t.world.printed)) →
    SendsTo {A = ℕ} now after (text_of (drop sent t.world.printed)) (Err fault) →
    IsCutShort P first before after fault
cut_in_sending P first limit sent t before now after Memory under within got none =
    cut_by_memory P first limit sent t before after under within
    (subst (λ (o : Option (List ℕ)). Appends before o (text_of (take sent t.world.printed))) (sym none) got)
cut_in_sending P first limit sent t before now after Device under within got part =
    cut_by_device P first limit sent t before now after under got part

-- the turns are over, and all went out
pub run_ends : (P : Tables) (start : Standing) (limit : ℕ) (t : Midway) (before after : Option (List ℕ)) (ran : Ran)
    → HasTurned (program_of P) (world_of start) limit true t → length t.world.threads ≡ length start.threads →
    IsStanding P (world_of t.world) ran → ran.schedule.items ≡ t.schedule → AreRuns ran.schedule.items →
    Appends before after (text_of t.world.printed) → HasRun P (world_of start) limit before after ran
unfolding shared_of
run_ends P start limit t before after ran turned threads stands schedule apart sent =
    let count : length t.world.threads ≡ length (world_of start).threads = threads ∙ sym (threads_counted start) in
    record {
      last = world_of t.world;
      run = rw schedule turned.run;
      turns = rw schedule
          (subst (λ k. Turns (program_of P) k limit (world_of start) (schedule_of t.schedule) (world_of t.world)) count
          (turned.turns refl));
      apart = apart;
      stands = stands;
      sent = sent;
    }

-- what is told of a world that is the one that turns led to
pub stands_there : (P : Tables) (s t : Standing) (ran : Ran) → s ≡ t → ran.threads.items ≡ (seen (world_of s)).threads
    → IsRest (program_of P) (world_of s) ran.rest → IsStanding P (world_of t) ran
stands_there P s t ran same threads rest =
    subst (λ (u : Standing). IsStanding P (world_of u) ran) same (record { threads = threads; rest = rest })

-- ---- a run all of whose text has gone out

-- it is one whose first prints have gone out, all of them
pub cut_at_end : (P : Tables) (first : World) (schedule : List ℕ) (last : World) (before after : Option (List ℕ))
    → Run (program_of P) first schedule last → Appends before after (text_of last.shared.printed)
    → IsCutShort P first before after Memory
cut_at_end P first schedule last before after run sent =
    let prints = last.shared.printed in
    record {
      schedule = schedule;
      last = last;
      run = run;
      sent = (
        length prints,
        omega arith,
        subst (λ (all : List Print). Appends before after (text_of all)) (sym (take-length prints)) sent,
      );
    }

pub run_cut_at_end : (P : Tables) (first : World) (limit : ℕ) (before after : Option (List ℕ)) (ran : Ran)
    → HasRun P first limit before after ran → IsCutShort P first before after Memory
run_cut_at_end P first limit before after ran run =
    cut_at_end P first (schedule_of ran.schedule.items) run.last before after run.run run.sent

pub ended_by_turns : (P : Tables) (first : World) (limit : ℕ) (before after : Option (List ℕ)) (ran : Ran)
    (status : Status) → HasRun P first limit before after ran → status ≡ run_status ran.threads.items ran.rest
    → HasEndedByTurns P first limit before after status
ended_by_turns P first limit before after ran status run is = record {
  schedule = schedule_of ran.schedule.items;
  last = run.last;
  turns = run.turns;
  ended = record {
    run = run.run;
    rest = ran.rest;
    stands = run.stands.rest;
    status_is = is ∙ ap (λ (threads : List Ending). run_status threads ran.rest) run.stands.threads;
    sent = run.sent;
  };
}
