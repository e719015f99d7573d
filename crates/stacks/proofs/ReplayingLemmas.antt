-- Steps in a row, and what is kept of the last run of each thread.
use Rattle.std.proofs.Common.{◌≡◌, ◌≢◌, ℕ, zero, suc, ◌+◌, ◌-◌, ◌<◌, ◌≤◌, ◌⊎◌, inl, inr, ◌++◌, Bool, true, false}
use Rattle.std.proofs.Common.{List, [], ◌∷◌, Option, Some, None, refl, sym, ap, subst, ◌∙◌, arith, length, replicate}
use Rattle.std.proofs.Common.{slice_get, slice_set, take}
use Rattle.std.proofs.Common.{◌==◌, eqb-true, get_or}
use Rattle.std.proofs.Math.Nat.{eq-or-lt_of_le}
use Rattle.std.proofs.lemmas.List.{replicate-append-replicate}
use Rattle.std.proofs.lemmas.Bool.{cases_lt}
use Rattle.std.proofs.lemmas.Option.{slice_get_within, slice_get-get_or}
use Rattle.vm_state.specs.declared.initialization.Frames.{Frames}
use Rattle.vm_state.proofs.ListLemmas.{tested, unequal}
use Rattle.semantics.specs.Programs.{Program}
use Rattle.semantics.specs.Worlds.{World, Run}
use Rattle.semantics.proofs.RunsLemmas.{runs_join_lem}
use Rattle.init_engine.specs.Schedules.{schedule_of}
use Rattle.thread_runner.specs.Replays.{NoRun}
use Rattle.thread_runner.proofs.ReplayLemmas.{run_first, run_rest}
use Rattle.stacks.specs.Stacks.{AreBefore}
use Rattle.stacks.specs.steps.Replaying.{AreKept, AreLast, AreLastBelow, IsKept, StoodAt, StoodIn}

-- ---- steps in a row

pub steps_on : (P : Program) (w m v : World) (n k t : ℕ) → Run P w (replicate n t) m → Run P m (replicate k t) v
    → Run P w (replicate (n + k) t) v
steps_on P w m v n k t first then =
    subst (λ s. Run P w s v) (replicate-append-replicate n k t)
    (runs_join_lem P w m v (replicate n t) (replicate k t) first then)

-- who has not so many steps has no more
pub none_longer : (P : Program) (w : World) (n k t : ℕ) → n ≤ k → NoRun P w (replicate n t) → NoRun P w (replicate k t)
none_longer P w n k t le none last run =
    let whole : n + (k - n) ≡ k = omega (arith, le) in
    let parts : replicate k t ≡ replicate n t ++ replicate (k - n) t =
    ap (λ i. replicate i t) (sym whole) ∙ sym (replicate-append-replicate n (k - n) t) in
    let (m, first) = run_first P w last (replicate n t) (replicate (k - n) t) (subst (λ s. Run P w s last) parts run) in
    none m first

pub none_after : (P : Program) (w m : World) (n k t : ℕ) → Run P w (replicate n t) m → NoRun P m (replicate k t)
    → NoRun P w (replicate (n + k) t)
none_after P w m n k t first none last run =
    none last (run_rest P w m last (replicate n t) (replicate k t) first
    (subst (λ s. Run P w s last) (sym (replicate-append-replicate n k t)) run))

-- ---- rows

set_same : {X : Type 0} (xs : List X) (i : ℕ) (x : X) → i < length xs → slice_get (slice_set xs i x) i ≡ Some x
set_same [] i x h = absurd (omega (arith, h))
set_same (y ∷ ys) zero x h = refl
set_same (y ∷ ys) (suc i) x h = set_same ys i x (omega (arith, h))

set_other : {X : Type 0} (xs : List X) (i j : ℕ) (x : X) → j ≢ i → slice_get (slice_set xs i x) j ≡ slice_get xs j
set_other [] i j x h = refl
set_other (y ∷ ys) zero zero x h = absurd (h refl)
set_other (y ∷ ys) zero (suc j) x h = refl
set_other (y ∷ ys) (suc i) zero x h = refl
set_other (y ∷ ys) (suc i) (suc j) x h = set_other ys i j x (λ e. h (ap suc e))

same_place : (i j : ℕ) → Some i ≡ Some j → i ≡ j
same_place i j h = cc

set_length : {X : Type 0} (xs : List X) (i : ℕ) (x : X) → length (slice_set xs i x) ≡ length xs
set_length [] i x = refl
set_length (y ∷ ys) zero x = refl
set_length (y ∷ ys) (suc i) x = ap suc (set_length ys i x)

below : (p i : ℕ) → i < p + 1 → i ≤ p
below p i h = omega (arith, h)

same_or_not : (i j : ℕ) → (i ≡ j) ⊎ (i ≢ j)
same_or_not i j = elim (tested (i == j)) [
  | inl e ↦ inl (eqb-true i j e)
  | inr e ↦ inr (unequal i j e)
]

first_in : Option (ℕ × ℕ) → ℕ
first_in None = 0
first_in (Some pair) = pair.0

second_in : Option (ℕ × ℕ) → ℕ
second_in None = 0
second_in (Some pair) = pair.1

same_pair : (a b c d : ℕ) → ◌≡◌ {A = Option (ℕ × ℕ)} (Some (a, b)) (Some (c, d)) → (a ≡ c) × (b ≡ d)
unfolding first_in second_in
same_pair a b c d h = (ap first_in h, ap second_in h)

-- ---- last runs

-- the place of the last run of thread t, which is not before this one
abbrev HasLast : List (ℕ × ℕ) → List ℕ → ℕ → ℕ → Type 0
HasLast runs last t i = (j : ℕ) × (i ≤ j) × (slice_get last t ≡ Some j) × ((m : ℕ) × (slice_get runs j ≡ Some (t, m)))

-- a run of a thread that is there
last_at : (runs : List (ℕ × ℕ)) (last : List ℕ) (p u m t n i : ℕ) → slice_get runs p ≡ Some (u, m)
    → u < length last → slice_get runs i ≡ Some (t, n) → i ≡ p → HasLast runs (slice_set last u p) t i
last_at runs last p u m t n i here within is same =
    let pair = same_pair t n u m (sym is ∙ ap (slice_get runs) same ∙ here) in
    let found : slice_get (slice_set last u p) t ≡ Some p =
    ap (slice_get (slice_set last u p)) pair.0 ∙ set_same last u p within in
    (p, omega (arith, same), found, (m, here ∙ ap (λ (k : ℕ). Some (k, m)) (sym pair.0)))

last_moved : (runs : List (ℕ × ℕ)) (last : List ℕ) (p u m t i : ℕ) → slice_get runs p ≡ Some (u, m)
    → u < length last → i < p → HasLast runs last t i → (t ≡ u) ⊎ (t ≢ u) → HasLast runs (slice_set last u p) t i
last_moved runs last p u m t i here within before old (inl same) =
    let found : slice_get (slice_set last u p) t ≡ Some p =
    ap (slice_get (slice_set last u p)) same ∙ set_same last u p within in
    (p, omega (arith, before), found, (m, here ∙ ap (λ (k : ℕ). Some (k, m)) (sym same)))
last_moved runs last p u m t i here within before (j, le, found, there) (inr other) =
    (j, le, set_other last u t p other ∙ found, there)

pub last_set : (runs : List (ℕ × ℕ)) (last : List ℕ) (p u m : ℕ) → slice_get runs p ≡ Some (u, m)
    → u < length last → AreLastBelow p runs last → AreLastBelow (p + 1) runs (slice_set last u p)
last_set runs last p u m here within old t n i before is there =
    elim (eq-or-lt_of_le (below p i before)) [
      | inl same ↦ last_at runs last p u m t n i here within is same
      | inr less ↦
          last_moved runs last p u m t i here within less
          (old t n i less is (subst (λ k. t < k) (set_length last u p) there)) (same_or_not t u)
    ]

-- a run of one that is not
pub last_skipped : (runs : List (ℕ × ℕ)) (last : List ℕ) (p u m : ℕ) → slice_get runs p ≡ Some (u, m)
    → ¬ (u < length last) → AreLastBelow p runs last → AreLastBelow (p + 1) runs last
last_skipped runs last p u m here past old t n i before is there =
    elim (eq-or-lt_of_le (below p i before)) [
      | inl same ↦
          let pair = same_pair t n u m (sym is ∙ ap (slice_get runs) same ∙ here) in
          absurd (past (subst (λ k. k < length last) pair.0 there))
      | inr less ↦ old t n i less is there
    ]

noted_by : (runs : List (ℕ × ℕ)) (old new : List ℕ) (p u m : ℕ) → slice_get runs p ≡ Some (u, m)
    → (u < length old → new ≡ slice_set old u p) → (¬ (u < length old) → new ≡ old) → AreLastBelow p runs old
    → (u < length old) ⊎ (length old ≤ u) → AreLastBelow (p + 1) runs new
noted_by runs old new p u m here there past before (inl within) =
    subst (λ (l : List ℕ). AreLastBelow (p + 1) runs l) (sym (there within))
    (last_set runs old p u m here within before)
noted_by runs old new p u m here there past before (inr beyond) =
    let none : ¬ (u < length old) = λ within. omega (arith, within, beyond) in
    subst (λ (l : List ℕ). AreLastBelow (p + 1) runs l) (sym (past none)) (last_skipped runs old p u m here none before)

-- one run further
pub noted : (runs : List (ℕ × ℕ)) (old new : List ℕ) (p : ℕ) (d : ℕ × ℕ) → p < length runs
    → ((get_or runs p d).0 < length old → new ≡ slice_set old (get_or runs p d).0 p)
    → (¬ ((get_or runs p d).0 < length old) → new ≡ old) → AreLastBelow p runs old → AreLastBelow (p + 1) runs new
noted runs old new p d within there past before =
    let u : ℕ = (get_or runs p d).0 in
    noted_by runs old new p u (get_or runs p d).1 (slice_get-get_or runs p d within) there past before
    (cases_lt u (length old))

noted_length_by : (old new : List ℕ) (p u : ℕ) → (u < length old → new ≡ slice_set old u p)
    → (¬ (u < length old) → new ≡ old) → (u < length old) ⊎ (length old ≤ u) → length new ≡ length old
noted_length_by old new p u there past (inl within) = ap length (there within) ∙ set_length old u p
noted_length_by old new p u there past (inr beyond) = ap length (past (λ within. omega (arith, within, beyond)))

pub noted_length : (old new : List ℕ) (p u : ℕ) → (u < length old → new ≡ slice_set old u p)
    → (¬ (u < length old) → new ≡ old) → length new ≡ length old
noted_length old new p u there past = noted_length_by old new p u there past (cases_lt u (length old))

-- ---- what is kept

-- where a run is not its thread's last one nothing is kept
pub kept_none : (P : Program) (first : World) (runs : List (ℕ × ℕ)) (last : List ℕ) (before : List (Option Frames))
    → AreKept P first runs last before 0
kept_none P first runs last before t n i less = absurd (omega (arith, less))

abbrev Stood : Program → World → List (ℕ × ℕ) → List (Option Frames) → ℕ → ℕ → Type 0
Stood P first runs before t i = (s : Frames) × (slice_get before t ≡ Some (Some s)) × StoodAt P first runs t i s

stood_at : (P : Program) (first w : World) (runs : List (ℕ × ℕ)) (p u n : ℕ) (s : Frames)
    → slice_get runs p ≡ Some (u, n) → 0 < n → Run P first (schedule_of (take p runs)) w → StoodIn P w u n s
    → StoodAt P first runs u p s
stood_at P first w runs p u n s here some run stood =
    let whole : n ≡ n - 1 + 1 = omega (arith, some) in
    record {
      steps = n - 1;
      here = here ∙ ap (λ (k : ℕ). Some (u, k)) whole;
      world = stood.world;
      run = runs_join_lem P first w stood.world (schedule_of (take p runs)) (replicate (n - 1) u) run stood.run;
      frames = stood.frames;
    }

-- the run at this place
kept_here : (P : Program) (first w : World) (runs : List (ℕ × ℕ)) (last : List ℕ) (old new : List (Option Frames))
    (p u n : ℕ) (is_last : Bool) → slice_get runs p ≡ Some (u, n) → 0 < n → u < length old
    → Run P first (schedule_of (take p runs)) w → (slice_get last u ≡ Some p → is_last ≡ true)
    → IsKept P w u n is_last old new → slice_get last u ≡ Some p → Stood P first runs new u p
kept_here P first w runs last old new p u n true here some within run known (s, is, stood) found = (
  s,
  ap (λ (xs : List (Option Frames)). slice_get xs u) is ∙ set_same old u (Some s) within,
  stood_at P first w runs p u n s here some run stood,
)
kept_here P first w runs last old new p u n false here some within run known same found =
    let clash : false ≡ true = known found in absurd cc

-- one before it
kept_still : (P : Program) (w : World) (last : List ℕ) (old new : List (Option Frames)) (p u n t i : ℕ)
    (is_last : Bool) → (is_last ≡ true → slice_get last u ≡ Some p) → IsKept P w u n is_last old new → i < p
    → slice_get last t ≡ Some i → slice_get new t ≡ slice_get old t
kept_still P w last old new p u n t i true known (s, is, stood) less found =
    let other : t ≢ u = λ same. omega (
      arith,
      less,
      same_place i p (sym found ∙ ap (slice_get last) same ∙ known refl),
    ) in
    ap (λ (xs : List (Option Frames)). slice_get xs t) is ∙ set_other old u t (Some s) other
kept_still P w last old new p u n t i false known same less found =
    ap (λ (xs : List (Option Frames)). slice_get xs t) same

pub kept_more : (P : Program) (first w : World) (runs : List (ℕ × ℕ)) (last : List ℕ) (old new : List (Option Frames))
    (p u n : ℕ) (is_last : Bool) → slice_get runs p ≡ Some (u, n) → 0 < n → u < length old
    → length new ≡ length old → Run P first (schedule_of (take p runs)) w
    → (slice_get last u ≡ Some p → is_last ≡ true) → (is_last ≡ true → slice_get last u ≡ Some p)
    → IsKept P w u n is_last old new → AreKept P first runs last old p → AreKept P first runs last new (p + 1)
kept_more P first w runs last old new p u n is_last here some within even run known means kept before t m i less is =
    elim (eq-or-lt_of_le (below p i less)) [
      | inl same ↦
          let pair = same_pair t m u n (sym is ∙ ap (slice_get runs) same ∙ here) in (
            subst (λ k. k < length new) (sym pair.0) (omega (arith, within, even)),
            λ found.
                let there : slice_get last u ≡ Some p =
                ap (slice_get last) (sym pair.0) ∙ found ∙ ap (λ (k : ℕ). Some k) same in
                let stood = kept_here P first w runs last old new p u n is_last here some within run known kept there in
                subst (λ k. Stood P first runs new k i) (sym pair.0)
                (subst (λ k. Stood P first runs new u k) (sym same) stood),
          )
      | inr earlier ↦
          let (there, stood) = before t m i earlier is in (
            omega (arith, there, even),
            λ found.
                let (s, at, rest) = stood found in
                (s, kept_still P w last old new p u n t i is_last means kept earlier found ∙ at, rest),
          )
    ]

-- no run of the thread comes later
none_later : (runs : List (ℕ × ℕ)) (last : List ℕ) (t j k n : ℕ) → AreLast runs last → t < length last
    → slice_get last t ≡ Some j → j < k → ¬ (slice_get runs k ≡ Some (t, n))
none_later runs last t j k n all there found later is =
    let (l, le, at, more) = all t n k (slice_get_within runs k (t, n) is) is there in
    omega (arith, later, le, same_place l j (sym at ∙ found))

pub all_before : (P : Program) (first : World) (runs : List (ℕ × ℕ)) (last : List ℕ) (before : List (Option Frames))
    → AreLast runs last → length last ≡ length before → AreKept P first runs last before (length runs)
    → AreBefore P first runs before
all_before P first runs last before all even kept t n i is =
    let there = (kept t n i (slice_get_within runs i (t, n) is) is).0 in
    let inside : t < length last = omega (arith, there, even) in
    let (j, le, found, (m, at)) = all t n i (slice_get_within runs i (t, n) is) is inside in
    let (s, held, stood) = (kept t m j (slice_get_within runs j (t, m) at) at).1 found in (
      s,
      held,
      record {
        place = j;
        steps = stood.steps;
        here = stood.here;
        last = λ later k less. none_later runs last t j later k all inside found less;
        world = stood.world;
        run = stood.run;
        frames = stood.frames;
      },
    )
