-- The history of a book grows by the steps of a commit.
use Rattle.std.proofs.Common.{◌≡◌, ◌≢◌, ℕ, zero, suc, ◌+◌, ◌<◌, ◌≤◌, ◌++◌, List, [], ◌∷◌, Option, Some, None, refl}
use Rattle.std.proofs.Common.{sym, ap, subst, ◌∙◌, arith, slice_get, replicate, length, length-append}
use Rattle.std.proofs.Common.{option_and_then, append-nil, inl, inr, Bool, Ok, Err}
use Rattle.std.specs.Prelude.{IfOk}
use Rattle.std.specs.declared.result.Result.{Result}
use Rattle.std.proofs.lemmas.List.{length-replicate}
use Rattle.vm_state.specs.declared.frame.Frame.{Frame}
use Rattle.vm_state.specs.declared.initialization.Frames.{Frames}
use Rattle.vm_state.specs.declared.initialization.Level.{Level}
use Rattle.vm_state.specs.Output.{Print}
use Rattle.vm_state.specs.Shares.{shared_of}
use Rattle.semantics.specs.Steps.{Thread, Going, Ended}
use Rattle.semantics.specs.Worlds.{World, Run, step}
use Rattle.semantics.proofs.RunsLemmas.{runs_join_lem, run_more}
use Rattle.program.specs.Tables.{Tables}
use Rattle.machine.specs.Effects.{going}
use Rattle.machine.specs.Linked.{program_of}
use Rattle.init_engine.specs.Schedules.{schedule_of, AreRuns}
use Rattle.init_engine.specs.Stacks.{IsStackOf, with_thread}
use Rattle.init_engine.specs.Standing.{Standing}
use Rattle.init_engine.specs.Turns.{Goes, IsOver, IsTurn, Prints, world_of}
use Rattle.init_engine.specs.declared.world.Turn.{Turn}
use Rattle.init_engine.specs.declared.world.Turn.TheVariants as turns
use Rattle.thread_runner.specs.Unshared.{unshared_steps, unshared_step}
use Rattle.thread_runner.specs.Stretches.{IsLocalRun, Reach}
use Rattle.thread_runner.specs.Kept.{Grows, IsBook, IsKept, Pages, Past, steps_of}
use Rattle.thread_runner.specs.Sendings.{IsPlace, sent_of}
use Rattle.thread_runner.specs.Commits.{Fits, IsCommit, IsCounted, MovedTo, PagesGoOn, after, there}
use Rattle.thread_runner.specs.Fronts.{FitsFront, FrontReach, IsFrontCommit, after_front, front_count}
use Rattle.thread_runner.specs.declared.advance.Commit.{Commit}
use Rattle.thread_runner.specs.declared.advance.Commit.TheVariants as commits
use Rattle.thread_runner.specs.declared.landing.Landing.{Landing}
use Rattle.thread_runner.specs.declared.landing.Landing.TheVariants as landings
use Rattle.thread_runner.specs.steps.Advances.{answered, counted}
use Rattle.thread_runner.specs.steps.Landings.{MayLand, landed}
use Rattle.init_engine.proofs.SetLemmas.{get_set, set_same}
use Rattle.thread_runner.proofs.LocalLemmas.{are_unshared}
use Rattle.thread_runner.proofs.UnsharedLemmas.{set_twice, unshared_run, replicate-more}
use Rattle.thread_runner.proofs.SendingLemmas.{place_grown, place_within, sent_stays}

abbrev with_threads : World → List Thread → World
with_threads w ts = record { shared = w.shared; threads = ts }

pub put_back : (w : World) (t : ℕ) (a b : Thread) → slice_get w.threads t ≡ Some a
    → with_thread (with_thread w t b) t a ≡ w
put_back w t a b at = ap (with_threads w) (set_twice w.threads t b a ∙ sym (set_same w.threads t a at))

-- a thread without frames makes no step
no_steps : (P : Tables) (done : List Bool) (n : ℕ) → unshared_steps P done (suc n) (Going [] []) ≡ None
no_steps P done zero = refl
no_steps P done (suc n) = ap (option_and_then (unshared_step P done)) (no_steps P done n)

none_gone : (P : Tables) (done : List Bool) (n : ℕ) (s : Frames) (b : Thread) → going s ≡ Going [] [] → 0 < n
    → unshared_steps P done n (going s) ≢ Some b
none_gone P done zero s b is some h = omega (arith, some)
none_gone P done (suc n) s b is some h =
    let e : None ≡ Some b = sym (no_steps P done n) ∙ (ap (unshared_steps P done (suc n)) (sym is) ∙ h) in absurd cc

-- a thread that makes steps stands so
stands_so : (P : Tables) (done : List Bool) (n : ℕ) (o : Option Thread) (s : Frames) (b : Thread) → IsStackOf o s
    → 0 < n → unshared_steps P done n (going s) ≡ Some b → o ≡ Some (going s)
stands_so P done n None s b stack some h = absurd stack
stands_so P done n (Some (Going fs ls)) s b stack some h = ap Some (sym stack)
stands_so P done n (Some (Ended end)) s b stack some h = absurd (none_gone P done n s b stack some h)

pub goes_so : (o : Option Thread) (s : Frames) → o ≡ Some (going s) → Goes o
goes_so o s h = subst Goes (sym h) tt

shares_nothing : (P : Tables) (s : Reach) → IsLocalRun P s
    → unshared_steps P s.done s.count (going s.from) ≡ Some (going s.to)
shares_nothing P s run = are_unshared P s.done s.count (going s.from) (going s.to) run

pub has_gone : (P : Tables) (w : World) (t : ℕ) (s : Reach) → Fits w t s → IsLocalRun P s → 0 < s.count
    → Goes (slice_get w.threads t)
has_gone P w t s fits run some =
    goes_so (slice_get w.threads t) s.from
    (stands_so P s.done s.count (slice_get w.threads t) s.from (going s.to) fits.0.1 some (shares_nothing P s run))

-- where its frames are, a stretch leads to the world after it
led_by : (P : Tables) (w : World) (t : ℕ) (s : Reach) (n : ℕ) → s.count ≡ n → Fits w t s → IsLocalRun P s
    → Run (program_of P) w (replicate n t) (there w t s.to n)
led_by P w t s zero is fits run = refl
led_by P w t s (suc n) is fits run =
    let some : 0 < s.count = omega (arith, is) in
    let steps = shares_nothing P s run in
    let at = stands_so P s.done s.count (slice_get w.threads t) s.from (going s.to) fits.0.1 some steps in
    unshared_run P s.done w fits.1 t (going s.from) at (suc n) (going s.to)
    (subst (λ k. unshared_steps P s.done k (going s.from) ≡ Some (going s.to)) is steps)

pub led_there : (P : Tables) (w : World) (t : ℕ) (s : Reach) → Fits w t s → IsLocalRun P s
    → Run (program_of P) w (replicate s.count t) (after w t s)
led_there P w t s fits run = led_by P w t s s.count refl fits run

-- ---- what advance does

pub gone : (o : Option Thread) → Goes o → (fs : List Frame) × (ls : List Level) × (o ≡ Some (Going fs ls))
gone None h = absurd h
gone (Some (Going fs ls)) h = (fs, ls, refl)
gone (Some (Ended end)) h = absurd h

far_here : (P : Tables) (w v : World) (t : ℕ) (to : Frames) (count : ℕ) (turn : Turn) → count ≡ 0
    → IsTurn (program_of P) w t turn v → IsTurn (program_of P) (there w t to count) t turn v
far_here P w v t to zero turn is h = h
far_here P w v t to (suc n) turn is h = absurd (omega (arith, is))

pub far_here_if : {E : Type 0} (P : Tables) (w v : World) (t : ℕ) (to : Frames) (count : ℕ) (r : Result Turn E)
    → count ≡ 0 → IfOk r (λ turn. IsTurn (program_of P) w t turn v)
    → IfOk r (λ turn. IsTurn (program_of P) (there w t to count) t turn v)
far_here_if P w v t to count (Ok turn) is h = far_here P w v t to count turn is h
far_here_if P w v t to count (Err e) is h = tt

-- exchanged twice
pub exchanged_back : (w m n u : World) (t : ℕ) (a b : Thread) → slice_get w.threads t ≡ Some a
    → m ≡ with_thread w t b → n ≡ m → u ≡ with_thread n t a → u ≡ w
exchanged_back w m n u t a b at there same back =
    back ∙ (ap (λ (x : World). with_thread x t a) (same ∙ there) ∙ put_back w t a b at)

pub stands_there : (w m n : World) (t : ℕ) (a b : Thread) → slice_get w.threads t ≡ Some a
    → m ≡ with_thread w t b → n ≡ m → slice_get n.threads t ≡ Some b
stands_there w m n t a b at there same =
    ap (λ (x : World). slice_get x.threads t) (same ∙ there) ∙ get_set w.threads t a b at

-- ---- what was printed

pub printed_same : (a b : Standing) → world_of a ≡ world_of b → a.printed ≡ b.printed
unfolding shared_of
printed_same a b h = ap (λ (w : World). w.shared.printed) h

pub grows_none : (old new : List Print) → new ≡ old → Grows old new
grows_none old new same = ([], same ∙ sym (append-nil old))

pub grows_by : (turn : Turn) (old new : List Print) → Prints turn old new → Grows old new
grows_by turns.Moved old new (inl same) = grows_none old new same
grows_by turns.Moved old new (inr (line, more)) = (line ∷ [], more)
grows_by turns.Waiting old new same = grows_none old new same
grows_by turns.Ended old new same = grows_none old new same

-- ---- what a commit does

-- a history of these parts
abbrev pub past_of : Standing → List (ℕ × ℕ) → ℕ → Past
past_of w j limit = record { world = w; journal = j; limit = limit }

-- a book of this history, of whose prints so many have gone out, and so many bytes of the next
abbrev pub pages_of : Past → ℕ → ℕ → Pages
pages_of h i n = record { past = h; sent = sent_of h.world.printed i n; part = n }

pub sent_as_before : (old new : List Print) (i n : ℕ) → Grows old new → IsPlace old i n
    → sent_of new i n ≡ sent_of old i n
sent_as_before old new i n (more, grown) place =
    ap (λ (ls : List Print). sent_of ls i n) grown ∙ sent_stays old more i n place

-- a place among lines of which more are printed
place_on : (old new : List Print) (i n : ℕ) → Grows old new → IsPlace old i n → IsPlace new i n
place_on old new i n (more, grown) place = place_grown old new more i n grown place

pub pages_on : (h : Past) (w : Standing) (j : List (ℕ × ℕ)) (i n : ℕ) → IsPlace h.world.printed i n
    → Grows h.world.printed w.printed → length w.threads ≡ length h.world.threads
    → PagesGoOn (pages_of h i n) (pages_of (past_of w j h.limit) i n)
pages_on h w j i n place grows threads = record {
  sent = sent_as_before h.world.printed w.printed i n grows place;
  part = refl;
  within = place_within h.world.printed i n place;
  grows = grows;
  threads = threads;
  limit = refl;
}

pub pages_none : (h : Past) (w : Standing) (j : List (ℕ × ℕ)) (i n : ℕ) → IsPlace h.world.printed i n
    → world_of w ≡ world_of h.world → length w.threads ≡ length h.world.threads
    → PagesGoOn (pages_of h i n) (pages_of (past_of w j h.limit) i n)
pages_none h w j i n place same threads =
    pages_on h w j i n place (grows_none h.world.printed w.printed (printed_same w h.world same)) threads

-- more steps of a thread in a journal that is the same as another one
pub schedule_grown : (old now new : List (ℕ × ℕ)) (t made n : ℕ)
    → schedule_of new ≡ schedule_of now ++ replicate made t → now ≡ old → made ≡ n
    → schedule_of new ≡ schedule_of old ++ replicate n t
schedule_grown old now new t made n grown same is =
    grown ∙ (ap (λ j. schedule_of j ++ replicate made t) same ∙ ap (λ k. schedule_of old ++ replicate k t) is)

-- how many steps a journal has after so many more
pub longer : (xs ys : List (ℕ × ℕ)) (n t : ℕ) → schedule_of ys ≡ schedule_of xs ++ replicate n t
    → length (schedule_of ys) ≡ length (schedule_of xs) + n
longer xs ys n t is =
    omega (arith, ap length is, length-append (schedule_of xs) (replicate n t), length-replicate n t)

-- what is kept, after n more steps of t
keeps_more : (P : Tables) (start : World) (h : Past) (v : Standing) (j : List (ℕ × ℕ)) (n t : ℕ)
    → IsKept P start h → Run (program_of P) (world_of h.world) (replicate n t) (world_of v)
    → schedule_of j ≡ schedule_of h.journal ++ replicate n t → AreRuns j → steps_of h + n < h.limit + 1024
    → IsKept P start (record { world = v; journal = j; limit = h.limit })
keeps_more P start h v j n t kept runs is apart room = record {
  runs = subst (λ s. Run (program_of P) start s (world_of v)) (sym is)
      (runs_join_lem (program_of P) start (world_of h.world) (world_of v) (schedule_of h.journal) (replicate n t)
      kept.runs runs);
  apart = apart;
  room = omega (arith, longer h.journal j n t is, room);
  limit = kept.limit;
}

-- a book whose world and journal are the same to whoever looks
pub books_still : (P : Tables) (start : World) (n : ℕ) (h : Past) (v : Standing) (j : List (ℕ × ℕ)) (i k : ℕ)
    → IsBook P start n h i k → world_of v ≡ world_of h.world → j ≡ h.journal
    → IsBook P start n (past_of v j h.limit) i k
books_still P start n h v j i k book same runs =
    let steps : length (schedule_of j) ≡ steps_of h = ap (λ x. length (schedule_of x)) runs in record {
      counted = book.counted ∙ sym steps;
      kept = record {
        runs = subst (λ x. Run (program_of P) start (schedule_of x) (world_of v)) (sym runs)
            (subst (λ (w : World). Run (program_of P) start (schedule_of h.journal) w) (sym same) book.kept.runs);
        apart = subst AreRuns (sym runs) book.kept.apart;
        room = omega (arith, book.kept.room, steps);
        limit = book.kept.limit;
      };
      place = subst (λ (ps : List Print). IsPlace ps i k) (sym (printed_same v h.world same)) book.place;
    }

-- where memory is refused before anything is changed the book is as it was, and what is seen of it goes on
pub books_refused : {P : Tables} {start : World} {n i k : ℕ} {h : Past} {p : Pages} {j : List (ℕ × ℕ)}
    → IsBook P start n h i k → pages_of h i k ≡ p → j ≡ h.journal
    → IsBook P start n (past_of h.world j h.limit) i k × PagesGoOn p (pages_of (past_of h.world j h.limit) i k)
books_refused {P} {start} {n} {i} {k} {h} {j = j} book view same = (
  books_still P start n h h.world j i k book refl same,
  subst (λ (q : Pages). PagesGoOn q (pages_of (past_of h.world j h.limit) i k)) view
      (pages_none h h.world j i k book.place refl refl),
)

-- a book with n steps of t more
pub books_more : (P : Tables) (start : World) (before after : ℕ) (h : Past) (v : Standing) (j : List (ℕ × ℕ))
    (n t i k : ℕ) → IsBook P start before h i k → after ≡ before + n
    → Run (program_of P) (world_of h.world) (replicate n t) (world_of v)
    → schedule_of j ≡ schedule_of h.journal ++ replicate n t → AreRuns j → steps_of h + n < h.limit + 1024
    → Grows h.world.printed v.printed → IsBook P start after (past_of v j h.limit) i k
books_more P start before after h v j n t i k book is runs schedule apart room grows = record {
  counted = omega (arith, is, book.counted, longer h.journal j n t schedule);
  kept = keeps_more P start h v j n t book.kept runs schedule apart room;
  place = place_on h.world.printed v.printed i k grows book.place;
}

-- after a turn behind n steps there were so many
pub turn_run : (P : Tables) (w there v : World) (t n : ℕ) (turn : Turn) → Run (program_of P) w (replicate n t) there
    → IsTurn (program_of P) there t turn v → Run (program_of P) w (replicate (counted turn n) t) v
turn_run P w there v t n turns.Moved led is =
    let k : suc n ≡ n + 1 = omega arith in
    subst (λ x. Run (program_of P) w x v) (replicate-more n t ∙ ap (λ i. replicate i t) k)
    (run_more (program_of P) w there v (replicate n t) t led is)
turn_run P w there v t n turns.Waiting led is = subst (λ x. Run (program_of P) w (replicate n t) x) (sym is.2) led
turn_run P w there v t n turns.Ended led is = subst (λ x. Run (program_of P) w (replicate n t) x) (sym is.2) led

pub counted_small : (turn : Turn) (n : ℕ) → n ≤ 1023 → counted turn n ≤ 1024
counted_small turns.Moved n h = omega (arith, h)
counted_small turns.Waiting n h = omega (arith, h)
counted_small turns.Ended n h = omega (arith, h)

-- no step leads to the same world
abbrev pub NoneLeads : World → ℕ → World → Type 0
NoneLeads w n there = n ≡ 0 → there ≡ w

pub steps_counted : (P : Tables) (old new : Past) (t n : ℕ) (far : World) (turn : Turn)
    → NoneLeads (world_of old.world) n far
    → IsTurn (program_of P) far t turn (world_of new.world)
    → schedule_of new.journal ≡ schedule_of old.journal ++ replicate (counted turn n) t
    → (counted turn n ≡ 0 → new.journal ≡ old.journal) → new.limit ≡ old.limit
    → IsCounted P old t n far (answered turn n) new
steps_counted P old new t n far turns.Moved same is grown none limit =
    subst (λ (o : Option World). MovedTo old t n far o new) (sym is)
    (record { world = refl; journal = grown; limit = limit })
steps_counted P old new t zero far turns.Waiting same is grown none limit =
    let at = same refl in (
      subst (λ (w : World). Goes (slice_get w.threads t)) at is.0,
      (
        refl,
        subst (λ (w : World). step (program_of P) w t ≡ None) at is.1,
        record { world = is.2 ∙ at; journal = none refl; limit = limit },
      ),
    )
steps_counted P old new t (suc n) far turns.Waiting same is grown none limit =
    subst (λ (o : Option World). MovedTo old t (suc n) far o new) (sym is.1)
    (omega arith, record { world = is.2; journal = grown; limit = limit })
steps_counted P old new t zero far turns.Ended same is grown none limit =
    let at = same refl in (
      subst (λ (w : World). IsOver (slice_get w.threads t)) at is.0,
      (
        refl,
        subst (λ (w : World). step (program_of P) w t ≡ None) at is.1,
        record { world = is.2 ∙ at; journal = none refl; limit = limit },
      ),
    )
steps_counted P old new t (suc n) far turns.Ended same is grown none limit =
    subst (λ (o : Option World). MovedTo old t (suc n) far o new) (sym is.1)
    (omega arith, record { world = is.2; journal = grown; limit = limit })

none_there : (w : World) (t : ℕ) (to : Frames) (n : ℕ) → NoneLeads w n (there w t to n)
none_there w t to zero is = refl
none_there w t to (suc n) is = absurd (omega (arith, is))

-- where a thread lands after no step
pub lands_none : (w : World) (t : ℕ) (to : Landing) (n : ℕ) → MayLand w t to n → NoneLeads w n (landed w t to n)
lands_none w t (landings.Whole to) n may = none_there w t to n
lands_none w t (landings.Top top) n may = λ is. absurd (omega (arith, is, may.0))

-- a commit that counts
counts : (P : Tables) (old : Past) (t : ℕ) (s : Reach) (a : Commit) (new : Past) → steps_of old < old.limit
    → Fits (world_of old.world) t s → IsCounted P old t s.count (after (world_of old.world) t s) a new
    → IsCommit P old t s a new
counts P old t s commits.Full new below fits h = absurd h
counts P old t s commits.Stale new below fits h = absurd h
counts P old t s commits.Moved new below fits h = (below, fits, h)
counts P old t s commits.Waiting new below fits h = (below, fits, h)
counts P old t s commits.Ended new below fits h = (below, fits, h)

pub counts_if : {E : Type 0} (P : Tables) (old : Past) (t : ℕ) (s : Reach) (to : Frames) (n : ℕ) (r : Result Commit E)
    (new : Past) → n ≡ s.count → to ≡ s.to → steps_of old < old.limit → Fits (world_of old.world) t s
    → IfOk r (λ a. IsCounted P old t n (there (world_of old.world) t to n) a new)
    → IfOk r (λ a. IsCommit P old t s a new)
counts_if P old t s to n (Ok a) new is at below fits h =
    counts P old t s a new below fits
    (subst (λ (f : Frames). IsCounted P old t s.count (there (world_of old.world) t f s.count) a new) at
    (subst (λ k. IsCounted P old t k (there (world_of old.world) t to k) a new) is h))
counts_if P old t s to n (Err e) new is at below fits h = tt

-- ---- a commit of a front

front_counts : (P : Tables) (old : Past) (t : ℕ) (s : Option FrontReach) (a : Commit) (new : Past)
    → steps_of old < old.limit → FitsFront (world_of old.world) t s
    → IsCounted P old t (front_count s) (after_front (world_of old.world) t s) a new → IsFrontCommit P old t s a new
front_counts P old t s commits.Full new below fits h = absurd h
front_counts P old t s commits.Stale new below fits h = absurd h
front_counts P old t s commits.Moved new below fits h = (below, fits, h)
front_counts P old t s commits.Waiting new below fits h = (below, fits, h)
front_counts P old t s commits.Ended new below fits h = (below, fits, h)

pub front_counts_if : {E : Type 0} (P : Tables) (old : Past) (t : ℕ) (s : Option FrontReach) (r : Result Commit E)
    (new : Past) (far : World) (n : ℕ) → n ≡ front_count s → far ≡ after_front (world_of old.world) t s
    → steps_of old < old.limit → FitsFront (world_of old.world) t s
    → IfOk r (λ a. IsCounted P old t n far a new) → IfOk r (λ a. IsFrontCommit P old t s a new)
front_counts_if P old t s (Ok a) new far n is at below fits h =
    front_counts P old t s a new below fits
    (subst (λ (w : World). IsCounted P old t (front_count s) w a new) at
    (subst (λ k. IsCounted P old t k far a new) is h))
front_counts_if P old t s (Err e) new far n is at below fits h = tt
