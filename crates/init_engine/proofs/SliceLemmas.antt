-- What the parts of a slice do, one after the other.
use Rattle.std.proofs.Common.{◌≡◌, ℕ, zero, suc, Bool, true, false, Some, ◌+◌, ◌-◌, ◌<◌, ◌≤◌, ◌⊎◌, inl, inr, List}
use Rattle.std.proofs.Common.{[], ◌∷◌, ◌++◌, length, slice_get, refl, sym, ap, subst, ◌∙◌, arith, append_assoc}
use Rattle.std.proofs.Common.{append-nil, length-append, replicate, None}
use Rattle.std.proofs.Math.Seq.{get_or-append_seam}
use Rattle.std.proofs.lemmas.Option.{slice_get-get_or}
use Rattle.std.proofs.lemmas.List.Sums.{sum_by-append}
use Rattle.vm_state.specs.Output.{Print}
use Rattle.semantics.specs.Programs.{Program}
use Rattle.semantics.specs.Worlds.{World, Run, step}
use Rattle.init_engine.specs.Turns.{Prints, world_of}
use Rattle.init_engine.specs.Schedules.{schedule_of}
use Rattle.init_engine.specs.Standing.{Standing}
use Rattle.init_engine.specs.Turnings.{IsWithin, Midway, IsUnderWay, HasTurned, IsSlice, RunsAhead, text_length}
use Rattle.init_engine.specs.declared.world.Turn.{Turn}
use Rattle.init_engine.specs.declared.world.Turn.TheVariants.{Moved, Waiting, Ended}
use Rattle.init_engine.specs.declared.rounds.RoundPlace.{RoundPlace}
use Rattle.init_engine.specs.declared.rounds.Allowance.{Allowance}
use Rattle.init_engine.specs.Rounds.{Turns, TurnsSoFar}
use Rattle.init_engine.specs.steps.Rounds.{IsAsking, IsAskedSo, IsRunAhead}
use Rattle.init_engine.specs.steps.Slices.{PrintsBy, Spends, AsksFurther, GoesOn, HasHalted, IsLast, IsSpent, IsPlace}
use Rattle.init_engine.specs.steps.Slices.{HasRunOut, steps_of}
use Rattle.init_engine.proofs.RoundLemmas.{asked_moved, asked_waiting, asked_ended, asked_so_far, next_so_far}
use Rattle.init_engine.proofs.RoundLemmas.{ahead_so_far, ahead_counts, turns_of_last, run_so_far}
use Rattle.init_engine.proofs.RoundLemmas.{stop_of_turns}

-- ---- text

text_joined : (ls ms : List Print) → text_length (ls ++ ms) ≡ text_length ls + text_length ms
text_joined ls ms = sum_by-append (λ (line : Print). length line.text) ls ms

within_then : (had mid : ℕ) (ls ms : List Print) → IsWithin had ls → mid ≡ had - text_length ls → IsWithin mid ms
    → IsWithin had (ls ++ ms)
within_then had mid ls ms first less (inl none) =
    subst (λ (ks : List Print). IsWithin had (ls ++ ks)) (sym none)
    (subst (λ (ks : List Print). IsWithin had ks) (sym (append-nil ls)) first)
within_then had mid ls ms first less (inr last) = inr (record {
  before = ls ++ last.before;
  last = last.last;
  are = ap (λ (ks : List Print). ls ++ ks) last.are ∙ sym (append_assoc ls last.before (last.last ∷ []));
  fewer = omega (arith, text_joined ls last.before, last.fewer, less);
})

pub prints_nothing : (n had : ℕ) (before now : List Print) → now ≡ before → PrintsBy n before now had had
prints_nothing n had before now same = record {
  lines = [];
  are = same ∙ sym (append-nil before);
  counted = omega arith;
  prompt = inl refl;
  silent = λ none. refl;
}

pub prints_then : (m n k had mid left : ℕ) (a b c : List Print) → k ≡ m + n → PrintsBy m a b had mid
    → PrintsBy n b c mid left → PrintsBy k a c had left
prints_then m n k had mid left a b c all p q = record {
  lines = p.lines ++ q.lines;
  are = q.are ∙ (ap (λ (ks : List Print). ks ++ q.lines) p.are ∙ append_assoc a p.lines q.lines);
  counted = omega (arith, p.counted, q.counted, text_joined p.lines q.lines);
  prompt = within_then had mid p.lines q.lines p.prompt p.counted q.prompt;
  silent = λ none.
      let first : m ≡ 0 = omega (arith, all, none) in
      let second : n ≡ 0 = omega (arith, all, none) in
      ap (λ (ks : List Print). ks ++ q.lines) (p.silent first) ∙ q.silent second;
}

-- steps that print nothing, of so many that were left
pub quiet_further : (most left count had text : ℕ) (a b c : List Print) → left ≤ most → count ≤ left → c ≡ b
    → PrintsBy (most - left) a b had text → PrintsBy (most - (left - count)) a c had text
quiet_further most left count had text a b c within few same before =
    let joined : most - (left - count) ≡ most - left + count = omega (arith, within, few) in
    prints_then (most - left) count (most - (left - count)) had text text a b c joined before
    (prints_nothing count text b c same)

-- no step
pub prints_no_more : (k had mid left : ℕ) (a b c : List Print) → PrintsBy k a b had mid → PrintsBy 0 b c mid left
    → PrintsBy k a c had left
prints_no_more k had mid left a b c before none =
    let same : k ≡ k + 0 = omega arith in
    prints_then k 0 k had mid left a b c same before none

-- the line at the end is the one that is counted
last_line : (old : List Print) (line : Print) → slice_get (old ++ line ∷ []) (length old) ≡ Some line
last_line old line =
    let inside : length old < length (old ++ line ∷ []) = omega (arith, length-append old (line ∷ [])) in
    slice_get-get_or (old ++ line ∷ []) (length old) line inside ∙ ap Some (get_or-append_seam old line [] line)

no_line : (n had bytes left : ℕ) (old new : List Print) → new ≡ old → left ≡ had - bytes
    → (length new ≤ length old → bytes ≡ 0) → PrintsBy n old new had left
no_line n had bytes left old new same counted none =
    let few : length new ≤ length old = omega (arith, ap length same) in
    let all : had ≡ left = omega (arith, counted, none few) in
    subst (λ k. PrintsBy n old new had k) all (prints_nothing n had old new same)

one_line : (had bytes left : ℕ) (old new : List Print) (line : Print) → 0 < had → new ≡ old ++ line ∷ []
    → left ≡ had - bytes → ((l : Print) → slice_get new (length old) ≡ Some l → bytes ≡ length l.text) →
    PrintsBy 1 old new had left
one_line had bytes left old new line some is counted all =
    let found = subst (λ (ls : List Print). slice_get ls (length old) ≡ Some line) (sym is) (last_line old line) in
    record {
      lines = line ∷ [];
      are = is;
      counted = omega (arith, counted, all line found);
      prompt = inr (record { before = []; last = line; are = refl; fewer = some });
      silent = λ none. absurd (omega (arith, none));
    }

-- a turn's line is counted
pub turn_prints : (turn : Turn) (had bytes left : ℕ) (old new : List Print) → 0 < had → Prints turn old new
    → left ≡ had - bytes → (length new ≤ length old → bytes ≡ 0) →
    ((l : Print) → slice_get new (length old) ≡ Some l → bytes ≡ length l.text) →
    PrintsBy (steps_of turn) old new had left
turn_prints Moved had bytes left old new some (inl same) counted none all =
    no_line 1 had bytes left old new same counted none
turn_prints Moved had bytes left old new some (inr (line, is)) counted none all =
    one_line had bytes left old new line some is counted all
turn_prints Waiting had bytes left old new some same counted none all =
    no_line 0 had bytes left old new same counted none
turn_prints Ended had bytes left old new some same counted none all =
    no_line 0 had bytes left old new same counted none

-- ---- steps, and what they printed

pub spends_then : (x y z : RoundPlace) (r s t : List ℕ) (a b c : List Print) (had mid left : Allowance)
    → Spends x y r s a b had mid → Spends y z s t b c mid left → Spends x z r t a c had left
spends_then x y z r s t a b c had mid left p q = record {
  made = p.made + q.made;
  fewer_to_go = omega (arith, p.fewer_to_go, q.fewer_to_go);
  scheduled = omega (arith, p.scheduled, q.scheduled);
  counted = omega (arith, p.counted, q.counted);
  prints = prints_then p.made q.made (p.made + q.made) had.text mid.text left.text a b c refl p.prints q.prints;
}

-- none is done where nobody was asked
ahead_is : (n left asked done : ℕ) → n ≤ left → done ≤ left → done ≤ asked → (0 < asked → n ≡ 0)
    → (left - n - done + n ≡ left - done) × (done ≤ left - n)
ahead_is n left zero done fits bounded few midst = (omega arith, omega arith)
ahead_is n left (suc asked) done fits bounded few midst =
    let none : n ≡ 0 = midst (omega arith) in
    (omega (arith, none), omega (arith, none))

-- ---- one turn in a round

pub steps_few : (turn : Turn) → steps_of turn ≤ 1
steps_few Moved = omega arith
steps_few Waiting = omega arith
steps_few Ended = omega arith

turn_counts : (P : Program) (w new : World) (t : ℕ) (turn : Turn) (before after : List ℕ)
    → IsAsking P w t turn new before after → length after ≡ length before + steps_of turn
turn_counts P w new t Moved before after asking =
    omega (arith, ap length asking.1, length-append before (t ∷ []))
turn_counts P w new t Waiting before after asking = omega (arith, ap length asking.2)
turn_counts P w new t Ended before after asking = omega (arith, ap length asking.2)

asked_turn : (P : Program) (first w new : World) (most t done : ℕ) (turn : Turn) (before now after : List ℕ)
    → IsAskedSo P first most t done w before now → done < most → IsAsking P w t turn new now after →
    IsAskedSo P first most (t + 1) (done + steps_of turn) new before after
asked_turn P first w new most t done Moved before now after so room asking =
    asked_moved P first w new most t done before now after so room asking
asked_turn P first w new most t done Waiting before now after so room asking =
    let same : done ≡ done + 0 = omega arith in
    subst (λ k. IsAskedSo P first most (t + 1) k new before after) same
    (asked_waiting P first w new most t done before now after so room asking)
asked_turn P first w new most t done Ended before now after so room asking =
    let same : done ≡ done + 0 = omega arith in
    subst (λ k. IsAskedSo P first most (t + 1) k new before after) same
    (asked_ended P first w new most t done before now after so room asking)

-- the place after a turn that made so many steps
abbrev pub after_turn : RoundPlace → ℕ → RoundPlace
after_turn p made = record { left = p.left; asked = p.asked + 1; done = p.done + made }

pub asks_turn : (P : Program) (turn : Turn) (made : ℕ) (from p : RoundPlace) (old w new : World)
    (before now after : List ℕ)
    → AsksFurther P from p old w before now → made ≡ steps_of turn → p.done < p.left →
    IsAsking P w p.asked turn new now after → AsksFurther P from (after_turn p made) old new before after
asks_turn P turn made from p old w new before now after asks is room asking begin rounds so =
    subst (λ k. IsAskedSo P begin p.left (p.asked + 1) (p.done + k) new rounds after) (sym is)
    (asked_turn P begin w new p.left p.asked p.done turn rounds now after (asks begin rounds so) room asking)

pub place_of_turn : (turn : Turn) (made count : ℕ) (p : RoundPlace) → IsPlace count p → made ≡ steps_of turn
    → p.asked < count → p.done < p.left → IsPlace count (after_turn p made)
place_of_turn turn made count p is made_is more room =
    let few : made ≤ 1 = omega (arith, steps_few turn, made_is) in
    record {
      within = omega arith;
      bounded = omega (arith, few, room);
      few = omega (arith, few, is.few);
    }

pub spends_turn : (P : Program) (turn : Turn) (made : ℕ) (from p : RoundPlace) (w next : World)
    (before now after : List ℕ) (old mid new : List Print) (had left : Allowance) (text : ℕ) →
    Spends from p before now old mid had left → made ≡ steps_of turn → p.done < p.left → 0 < left.steps →
    IsAsking P w p.asked turn next now after → PrintsBy (steps_of turn) mid new left.text text →
    Spends from (after_turn p made) before after old new had (record { steps = left.steps - made; text = text })
spends_turn P turn made from p w next before now after old mid new had left text spends is room some asking prints =
    let few : made ≤ 1 = omega (arith, steps_few turn, is) in
    let turned : Spends p (after_turn p made) now after mid new left (record { steps = left.steps - made; text = text })
    = record {
      made = made;
      fewer_to_go = omega (arith, few, room);
      scheduled = omega (arith, turn_counts P w next p.asked turn now after asking, is);
      counted = omega (arith, few, some);
      prints = subst (λ k. PrintsBy k mid new left.text text) (sym is) prints;
    } in
    spends_then from p (after_turn p made) before now after old mid new had left
    (record { steps = left.steps - made; text = text }) spends turned

-- ---- rounds of one step, and then a round

-- the place after so many rounds of one step
abbrev pub after_rounds : RoundPlace → ℕ → RoundPlace
after_rounds p n = record { left = p.left - n; asked = p.asked; done = p.done }

pub spends_ahead : (P : Program) (count most n : ℕ) (from p : RoundPlace) (w next : World) (before now after : List ℕ)
    (old mid new : List Print) (had left : Allowance) (text : ℕ) → Spends from p before now old mid had left →
    p.done ≤ p.left → p.done ≤ p.asked → IsRunAhead P count w most n next now after →
    PrintsBy n mid new left.text text → n ≤ p.left → n ≤ left.steps → (0 < p.asked → n ≡ 0) →
    Spends from (after_rounds p n) before after old new had (record { steps = left.steps - n; text = text })
spends_ahead P count most n from p w next before now after old mid new had left text spends bounded few alone prints
    fits room midst =
    let further : Spends p (after_rounds p n) now after mid new left (record { steps = left.steps - n; text = text }) =
    record {
      made = n;
      fewer_to_go = (ahead_is n p.left p.asked p.done fits bounded few midst).0;
      scheduled = ahead_counts P count most n w next now after alone;
      counted = omega (arith, room);
      prints = prints;
    } in
    spends_then from p (after_rounds p n) before now after old mid new had left
    (record { steps = left.steps - n; text = text }) spends further

pub goes_ahead : (P : Program) (count most n : ℕ) (from p : RoundPlace) (old w next : World) (before now after : List ℕ)
    → GoesOn P count from p old w before now → IsRunAhead P count w most n next now after → n ≤ p.left →
    (0 < p.asked → n ≡ 0) → GoesOn P count from (after_rounds p n) old next before after
goes_ahead P count most n from p old w next before now after on alone fits midst first limit t =
    ahead_so_far P count limit p.left p.asked p.done most n first w next now after (on first limit t) alone fits
    midst

pub goes_by_round : (P : Program) (count : ℕ) (from p to : RoundPlace) (old w new : World) (before now after : List ℕ)
    → GoesOn P count from p old w before now → AsksFurther P p to w new now after → to.left ≡ p.left →
    to.asked ≤ count → GoesOn P count from to old new before after
goes_by_round P count from p to old w new before now after on asks same within first limit t =
    subst (λ k. TurnsSoFar P count first limit after k to.asked to.done new) (sym same)
    (asked_so_far P count limit p.left p.asked p.done to.asked to.done first w new now after (on first limit t) within
    (λ begin rounds so. subst (λ k. IsAskedSo P begin k to.asked to.done new rounds after) same
    (asks begin rounds so)))

-- the beginning of the next round
abbrev pub after_round : RoundPlace → RoundPlace
after_round p = record { left = p.left - p.done; asked = 0; done = 0 }

pub goes_to_next : (P : Program) (count : ℕ) (from p : RoundPlace) (old now : World) (before after : List ℕ)
    → GoesOn P count from p old now before after → p.asked ≡ count → 0 < p.done →
    GoesOn P count from (after_round p) old now before after
goes_to_next P count from p old now before after on all some first limit t =
    next_so_far P count limit p.left p.asked p.done first now after (on first limit t) all some

pub place_of_next : (count : ℕ) (p : RoundPlace) → IsPlace count (after_round p)
place_of_next count p = record { within = omega arith; bounded = omega arith; few = omega arith }

pub spends_to_next : (from p : RoundPlace) (before after : List ℕ) (old new : List Print) (had left : Allowance)
    → Spends from p before after old new had left → Spends from (after_round p) before after old new had left
spends_to_next from p before after old new had left s = record {
  made = s.made;
  fewer_to_go = omega (arith, s.fewer_to_go);
  scheduled = s.scheduled;
  counted = s.counted;
  prints = s.prints;
}

-- ---- both, one after the other

pub goes_round : (P : Program) (count threads most n : ℕ) (from p to : RoundPlace) (old w mid new : World)
    (before now further after : List ℕ) → GoesOn P count from p old w before now → threads ≡ count →
    IsRunAhead P threads w most n mid now further → n ≤ p.left → (0 < p.asked → n ≡ 0) →
    AsksFurther P (after_rounds p n) to mid new further after → to.left ≡ p.left - n → to.asked ≤ count →
    GoesOn P count from to old new before after
goes_round P count threads most n from p to old w mid new before now further after on all alone fits midst asks same
    within =
    let ahead = goes_ahead P count most n from p old w mid before now further on
    (subst (λ k. IsRunAhead P k w most n mid now further) all alone) fits midst in
    goes_by_round P count from (after_rounds p n) to old mid new before further after ahead asks same within

pub spends_round : (P : Program) (count threads most n : ℕ) (from p to : RoundPlace) (w mid : World)
    (before now further after : List ℕ) (a b c d : List Print) (had left spent : Allowance) (text : ℕ) →
    Spends from p before now a b had left → IsPlace count p → IsRunAhead P threads w most n mid now further →
    PrintsBy n b c left.text text → n ≤ p.left → n ≤ left.steps → (0 < p.asked → n ≡ 0) →
    Spends (after_rounds p n) to further after c d (record { steps = left.steps - n; text = text }) spent →
    Spends from to before after a d had spent
spends_round P count threads most n from p to w mid before now further after a b c d had left spent text spends is
    alone prints fits room midst rest =
    let ahead = spends_ahead P threads most n from p w mid before now further a b c had left text spends is.bounded
    is.few alone prints fits room midst in
    spends_then from (after_rounds p n) to before further after a c d had
    (record { steps = left.steps - n; text = text }) spent ahead rest

-- ---- where they halted

pub last_of : (count : ℕ) (over : Bool) (p : RoundPlace) (a : Allowance) → HasHalted count over p a → over ≡ true
    → IsLast count p
last_of count true p a halted is = halted
last_of count false p a halted is = cc

pub spent_of : (count : ℕ) (over : Bool) (p : RoundPlace) (a : Allowance) → HasHalted count over p a → over ≡ false
    → IsSpent a
spent_of count true p a halted is = cc
spent_of count false p a halted is = halted

-- what was spent whole was as many steps, or as much text
pub spent_whole : (from to : RoundPlace) (before after : List ℕ) (old new : List Print) (had left : Allowance)
    (s : Spends from to before after old new had left) → IsSpent left →
    (s.made ≡ had.steps) ⊎ (had.text ≤ text_length s.prints.lines)
spent_whole from to before after old new had left s (inl steps) = inl (omega (arith, s.counted, steps))
spent_whole from to before after old new had left s (inr text) = inr (omega (arith, s.prints.counted, text))

-- ---- a whole slice

abbrev pub place_of : Midway → RoundPlace
place_of t = record { left = t.left; asked = t.asked; done = t.done }

pub has_turned : (P : Program) (first : World) (limit : ℕ) (over : Bool) (old new : Midway) (a : Allowance)
    → IsUnderWay P first limit old →
    GoesOn P (length old.world.threads) (place_of old) (place_of new) (world_of old.world) (world_of new.world)
    (schedule_of old.schedule) (schedule_of new.schedule) → length new.world.threads ≡ length old.world.threads →
    HasHalted (length old.world.threads) over (place_of new) a → HasTurned P first limit over new
has_turned P first limit over old new a under on same halted =
    let count = length new.world.threads in
    let so_far = subst (λ k. TurnsSoFar P k first limit (schedule_of new.schedule) new.left new.asked new.done
    (world_of new.world)) (sym same) (on first limit under) in
    let turns : over ≡ true → Turns P count limit first (schedule_of new.schedule) (world_of new.world) = λ is.
    let last = subst (λ k. IsLast k (place_of new)) (sym same)
    (last_of (length old.world.threads) over (place_of new) a halted is) in
    turns_of_last P count limit new.left new.asked new.done first (world_of new.world) (schedule_of new.schedule)
    so_far last in
    record {
      under_way = so_far;
      run = run_so_far P count limit new.left new.asked new.done first (world_of new.world) (schedule_of new.schedule)
          so_far;
      turns = turns;
      stopped = λ is. stop_of_turns (turns is);
    }

pub is_slice : (steps bytes count : ℕ) (over : Bool) (old new : Midway) (a : Allowance) →
    Spends (place_of old) (place_of new) (schedule_of old.schedule) (schedule_of new.schedule) old.world.printed
    new.world.printed (record { steps = steps; text = bytes }) a → HasHalted count over (place_of new) a →
    IsSlice steps bytes over old new
is_slice steps bytes count over old new a s halted = record {
  made = s.made;
  printed = s.prints.lines;
  scheduled = s.scheduled;
  fewer_to_go = s.fewer_to_go;
  few = omega (arith, s.counted);
  lines = s.prints.are;
  prompt = s.prints.prompt;
  silent = s.prints.silent;
  whole = λ is. spent_whole (place_of old) (place_of new) (schedule_of old.schedule) (schedule_of new.schedule)
      old.world.printed new.world.printed (record { steps = steps; text = bytes }) a s
      (spent_of count over (place_of new) a halted is);
}

-- ---- one thread alone

whole_ahead : (P : Program) (w : World) (thread steps bytes made left : ℕ) (lines : List Print)
    → left ≡ bytes - text_length lines → HasRunOut P w thread steps made left
    → (made ≡ steps) ⊎ (bytes ≤ text_length lines) ⊎ (step P w thread ≡ None)
whole_ahead P w thread steps bytes made left lines counted (inl all) = inl all
whole_ahead P w thread steps bytes made left lines counted (inr (inl none)) = inr (inl (omega (arith, counted, none)))
whole_ahead P w thread steps bytes made left lines counted (inr (inr stands)) = inr (inr stands)

pub runs_ahead : (P : Program) (thread steps bytes made left : ℕ) (old new : Standing)
    → Run P (world_of old) (replicate made thread) (world_of new) → made ≤ steps
    → PrintsBy made old.printed new.printed bytes left → HasRunOut P (world_of new) thread steps made left
    → RunsAhead P thread steps bytes made old new
runs_ahead P thread steps bytes made left old new run few prints whole = record {
  run = run;
  few = few;
  printed = prints.lines;
  lines = prints.are;
  prompt = prints.prompt;
  silent = prints.silent;
  whole = whole_ahead P (world_of new) thread steps bytes made left prints.lines prints.counted whole;
}
