-- Runs, step by step, and schedules that have none.
use Rattle.std.proofs.Common.{◌≡◌, ℕ, zero, suc, ◌+◌, ◌-◌, ◌<◌, ◌≤◌, ◌++◌, List, [], ◌∷◌, Some, None, refl, sym}
use Rattle.std.proofs.Common.{◌⊎◌, inl, inr, ap, subst, ◌∙◌, arith, slice_get, replicate, length, get_or, take}
use Rattle.std.proofs.Common.{append_assoc}
use Rattle.std.proofs.lemmas.List.{take_more}
use Rattle.std.proofs.lemmas.Option.{slice_get-get_or}
use Rattle.init_engine.specs.Schedules.{schedule_of, AreRuns}
use Rattle.init_engine.specs.Standing.{Standing}
use Rattle.init_engine.specs.Turnings.{RunsAhead, text_length}
use Rattle.init_engine.specs.Turns.{world_of}
use Rattle.init_engine.proofs.ScheduleLemmas.{schedule_of-more}
use Rattle.thread_runner.specs.declared.replay.ReplayFault.TheVariants.{Turn}
use Rattle.thread_runner.specs.Replays.ReplayFails.{turn}
use Rattle.std.proofs.lemmas.List.{replicate-append-replicate}
use Rattle.semantics.specs.Programs.{Program}
use Rattle.semantics.specs.Worlds.{World, Run, step, step_of}
use Rattle.semantics.proofs.RunsLemmas.{runs_join_lem}
use Rattle.vm_state.specs.Output.{Print}
use Rattle.thread_runner.specs.Replays.{IsTurnFault, NoRun, ReplayFails}

same_world : (a b : World) → Some a ≡ Some b → a ≡ b
same_world a b h = cc

-- the rest of a run, from where a beginning of it leads
pub run_rest : (P : Program) (w m last : World) (before after : List ℕ) → Run P w before m
    → Run P w (before ++ after) last
    → Run P m after last
run_rest P w m last [] after is run = subst (λ (x : World). Run P x after last) is run
run_rest P w m last (t ∷ ts) after (next, stepped, rest) (other, also, more) =
    let same : other ≡ next = same_world other next (sym also ∙ stepped) in
    run_rest P next m last ts after rest (subst (λ (x : World). Run P x (ts ++ after) last) same more)

-- a run and a further one of the same thread
pub joined : (P : Program) (w m v : World) (a b c t : ℕ) → a + b ≡ c → Run P w (replicate a t) m
    → Run P m (replicate b t) v
    → Run P w (replicate c t) v
joined P w m v a b c t e one two =
    subst (λ s. Run P w s v) (replicate-append-replicate a b t ∙ ap (λ k. replicate k t) e)
    (runs_join_lem P w m v (replicate a t) (replicate b t) one two)

-- before the first step
pub not_begun : (P : Program) (w : World) (steps t : ℕ) → Run P w (replicate (steps - steps) t) w
not_begun P w steps t =
    let e : 0 ≡ steps - steps = omega arith in subst (λ (k : ℕ). Run P w (replicate k t) w) e refl

by_whole : (P : Program) (new : Standing) (t steps bytes made : ℕ) (printed : List Print) → made ≡ 0 → 0 < steps
    → 0 < bytes → printed ≡ []
    → (made ≡ steps) ⊎ (bytes ≤ text_length printed) ⊎ (step P (world_of new) t ≡ None)
    → step P (world_of new) t ≡ None
by_whole P new t steps bytes made printed none some room silent (inl all) = absurd (omega (arith, none, some, all))
by_whole P new t steps bytes made printed none some room silent (inr (inl long)) =
    let e : text_length printed ≡ 0 = ap text_length silent in absurd (omega (arith, room, long, e))
by_whole P new t steps bytes made printed none some room silent (inr (inr stands)) = stands

-- a thread that made no step, and might have, has none
pub none_left : (P : Program) (old new : Standing) (t steps bytes made : ℕ) → RunsAhead P t steps bytes made old new
    → made ≡ 0 → 0 < steps → 0 < bytes
    → step P (world_of new) t ≡ None
none_left P old new t steps bytes made ahead none some room =
    by_whole P new t steps bytes made ahead.printed none some room (ahead.silent none) ahead.whole

first_none : (P : Program) (w last : World) (t : ℕ) (ts : List ℕ) → step P w t ≡ None → ¬ Run P w (t ∷ ts) last
first_none P w last t ts none (next, stepped, rest) =
    let e : None ≡ Some next = sym none ∙ stepped in absurd cc

pub no_more : (P : Program) (w m : World) (n t steps : ℕ) → Run P w (replicate n t) m → step P m t ≡ None → n < steps
    → NoRun P w (replicate steps t)
no_more P w m n t steps run none short last whole =
    let k : n + suc (steps - (n + 1)) ≡ steps = omega (arith, short) in
    let e : replicate steps t ≡ replicate n t ++ replicate (suc (steps - (n + 1))) t =
    ap (λ i. replicate i t) (sym k) ∙ sym (replicate-append-replicate n (suc (steps - (n + 1))) t) in
    first_none P m last t (replicate (steps - (n + 1)) t) none
    (run_rest P w m last (replicate n t) (replicate (suc (steps - (n + 1))) t) run
    (subst (λ s. Run P w s last) e whole))

-- there is no such thread
past_end : {X : Type 0} (xs : List X) (t : ℕ) → length xs ≤ t → slice_get xs t ≡ None
past_end [] t h = refl
past_end (x ∷ xs) zero h = absurd (omega (arith, h))
past_end (x ∷ xs) (suc t) h = past_end xs t (omega (arith, h))

pub no_thread : (P : Program) (w : World) (t steps : ℕ) → length w.threads ≤ t → 0 < steps
    → NoRun P w (replicate steps t)
no_thread P w t steps past some =
    no_more P w w 0 t steps refl (ap (step_of P w t) (past_end w.threads t past)) some

-- ---- runs of a journal

pub some_steps : (xs : List (ℕ × ℕ)) (i : ℕ) (d : ℕ × ℕ) → AreRuns xs → i < length xs → 0 < (get_or xs i d).1
some_steps [] i d h within = absurd (omega (arith, within))
some_steps (x ∷ xs) zero d h within = h.0
some_steps (x ∷ xs) (suc i) d h within = some_steps xs i d h.2 (omega (arith, within))

pub run_of_more : (P : Program) (w m v : World) (xs : List (ℕ × ℕ)) (i : ℕ) (d : ℕ × ℕ) → i < length xs
    → Run P w (schedule_of (take i xs)) m → Run P m (replicate (get_or xs i d).1 (get_or xs i d).0) v
    → Run P w (schedule_of (take (i + 1) xs)) v
run_of_more P w m v xs i d within before more =
    let r = get_or xs i d in
    let e : schedule_of (take i xs) ++ replicate r.1 r.0 ≡ schedule_of (take (i + 1) xs) =
    sym (schedule_of-more (take i xs) r.0 r.1) ∙ ap schedule_of (sym (take_more xs i d within)) in
    subst (λ s. Run P w s v) e (runs_join_lem P w m v (schedule_of (take i xs)) (replicate r.1 r.0) before more)

pub turn_fault : (P : Program) (w m : World) (xs : List (ℕ × ℕ)) (i : ℕ) (d : ℕ × ℕ) → i < length xs
    → Run P w (schedule_of (take i xs)) m → NoRun P m (replicate (get_or xs i d).1 (get_or xs i d).0)
    → ReplayFails P w xs (Turn (i + 1))
turn_fault P w m xs i d within before none = turn (record {
  place = i;
  counted = refl;
  world = m;
  before = before;
  here = get_or xs i d;
  stands = slice_get-get_or xs i d within;
  none = none;
})

-- a journal that fails has no run
parted : (xs : List (ℕ × ℕ)) (i : ℕ) (r : ℕ × ℕ) → slice_get xs i ≡ Some r
    → (rest : List ℕ) × (schedule_of xs ≡ schedule_of (take i xs) ++ (replicate r.1 r.0 ++ rest))
parted [] i r h = absurd cc
parted (x ∷ xs) zero r h = let e : x ≡ r = cc in
    (schedule_of xs, ap (λ (y : ℕ × ℕ). replicate y.1 y.0 ++ schedule_of xs) e)
parted (x ∷ xs) (suc i) r h =
    let (rest, e) = parted xs i r h in (
      rest,
      ap (λ s. replicate x.1 x.0 ++ s) e
          ∙ sym (append_assoc (replicate x.1 x.0) (schedule_of (take i xs)) (replicate r.1 r.0 ++ rest)),
    )

pub run_first : (P : Program) (w last : World) (before after : List ℕ) → Run P w (before ++ after) last
    → (m : World) × Run P w before m
run_first P w last [] after run = (w, refl)
run_first P w last (t ∷ ts) after (next, stepped, rest) =
    let (m, more) = run_first P next last ts after rest in (m, (next, stepped, more))

pub failed_has_none : (P : Program) (w : World) (xs : List (ℕ × ℕ)) (n : ℕ) → IsTurnFault P w xs n
    → NoRun P w (schedule_of xs)
failed_has_none P w xs n fault last run =
    let (rest, e) = parted xs fault.place fault.here fault.stands in
    let there = run_rest P w fault.world last (schedule_of (take fault.place xs))
    (replicate fault.here.1 fault.here.0 ++ rest) fault.before (subst (λ s. Run P w s last) e run) in
    let (m, first) = run_first P fault.world last (replicate fault.here.1 fault.here.0) rest there in
    fault.none m first
