-- The first steps of a schedule, by its runs.
use Rattle.std.proofs.Common.{◌≡◌, ◌∙◌, ℕ, zero, suc, ◌+◌, ◌-◌, ◌<◌, ◌≤◌, ◌==◌, ◌++◌, List, [], ◌∷◌, length}
use Rattle.std.proofs.Common.{Bool, replicate, take, drop, get_or, if◌then◌else◌, sym, ap, subst, arith}
use Rattle.std.proofs.Common.{length-append, append-nil}
use Rattle.std.proofs.lemmas.List.{length-replicate, take-append-le, take-replicate}
use Rattle.std.proofs.Math.Dec.{eqb-suc-zero}
use Rattle.std.proofs.Math.Seq.{take-append-add}
use Rattle.init_engine.specs.Schedules.{AreRuns, BeginsWithOther, schedule_of}
use Rattle.init_engine.proofs.ScheduleLemmas.{schedule_of-append, schedule_of-more}

-- ---- runs whose neighbours are of different threads

other_before : (u : ℕ) (xs ys : List (ℕ × ℕ)) → BeginsWithOther u (xs ++ ys) → BeginsWithOther u xs
other_before u [] ys h = tt
other_before u (x ∷ xs) ys h = h

runs_before : (xs ys : List (ℕ × ℕ)) → AreRuns (xs ++ ys) → AreRuns xs
runs_before [] ys h = tt
runs_before (x ∷ xs) ys h = (h.0, other_before x.0 xs ys h.1, runs_before xs ys h.2)

other_cut : (u : ℕ) (xs ys : List (ℕ × ℕ)) (t n m : ℕ) → BeginsWithOther u (xs ++ (t, n) ∷ ys)
    → BeginsWithOther u (xs ++ (t, m) ∷ [])
other_cut u [] ys t n m h = h
other_cut u (x ∷ xs) ys t n m h = h

runs_cut : (xs ys : List (ℕ × ℕ)) (t n m : ℕ) → AreRuns (xs ++ (t, n) ∷ ys) → 0 < m → AreRuns (xs ++ (t, m) ∷ [])
runs_cut [] ys t n m h some = (some, tt, tt)
runs_cut (x ∷ xs) ys t n m h some = (h.0, other_cut x.0 xs ys t n m h.1, runs_cut xs ys t n m h.2 some)

-- ---- their schedules

-- a list, where it has an element
split_at : (xs : List (ℕ × ℕ)) (i : ℕ) (x : ℕ × ℕ) → i < length xs → x ≡ get_or xs i x
    → take i xs ++ x ∷ drop (suc i) xs ≡ xs
split_at [] i x low is = absurd (omega (arith, low))
split_at (y ∷ ys) zero x low is = ap (λ (z : ℕ × ℕ). z ∷ ys) is
split_at (y ∷ ys) (suc i) x low is = ap (λ (zs : List (ℕ × ℕ)). y ∷ zs) (split_at ys i x (omega (arith, low)) is)

-- the first steps end within a run
cut_within : (xs ys : List (ℕ × ℕ)) (t n m : ℕ) → m ≤ n
    → take (length (schedule_of xs) + m) (schedule_of (xs ++ (t, n) ∷ ys)) ≡ schedule_of xs ++ replicate m t
cut_within xs ys t n m low =
    let rest = schedule_of ys in
    let fits : m ≤ length (replicate n t) = omega (arith, low, length-replicate n t) in
    ap (take (length (schedule_of xs) + m)) (schedule_of-append xs ((t, n) ∷ ys))
    ∙ take-append-add (schedule_of xs) (replicate n t ++ rest) m
    ∙ ap (λ (z : List ℕ). schedule_of xs ++ z) (take-append-le m (replicate n t) rest fits ∙ take-replicate m n t low)

-- what is added of the run in which they end
abbrev pub AreFirst : List (ℕ × ℕ) → ℕ → List (ℕ × ℕ) → Type 0
AreFirst all steps runs = (schedule_of runs ≡ take steps (schedule_of all)) × AreRuns runs

within : (xs ys : List (ℕ × ℕ)) (t n m steps : ℕ) → AreRuns (xs ++ (t, n) ∷ ys)
    → length (schedule_of xs) + m ≡ steps → m ≤ n
    → AreFirst (xs ++ (t, n) ∷ ys) steps (if m == 0 then xs else xs ++ (t, m) ∷ [])
within xs ys t n zero steps runs is low =
    let same = ap (λ (k : ℕ). take k (schedule_of (xs ++ (t, n) ∷ ys))) is in
    (sym (append-nil (schedule_of xs)) ∙ sym (cut_within xs ys t n 0 low) ∙ same, runs_before xs ((t, n) ∷ ys) runs)
within xs ys t n (suc m) steps runs is low =
    let all = xs ++ (t, n) ∷ ys in
    let same = ap (λ (k : ℕ). take k (schedule_of all)) is in
    let cut : AreFirst all steps (xs ++ (t, suc m) ∷ []) = (
      schedule_of-more xs t (suc m) ∙ sym (cut_within xs ys t n (suc m) low) ∙ same,
      runs_cut xs ys t n (suc m) runs (omega arith),
    ) in
    subst (λ (b : Bool). AreFirst all steps (if b then xs else xs ++ (t, suc m) ∷ [])) (sym (eqb-suc-zero m)) cut

pub ends_within : (all runs new : List (ℕ × ℕ)) (i steps left : ℕ) (x : ℕ × ℕ) → AreRuns all → i < length all
    → x ≡ get_or all i x → runs ≡ take i all → length (schedule_of runs) + left ≡ steps → left ≤ x.1
    → new ≡ (if left == 0 then runs else runs ++ (x.0, left) ∷ []) → AreFirst all steps new
ends_within all runs new i steps left x are low is so_far so_many fits new_is =
    let whole = split_at all i x low is in
    let pre = take i all in
    let post = drop (suc i) all in
    let many : length (schedule_of pre) + left ≡ steps =
    subst (λ (z : List (ℕ × ℕ)). length (schedule_of z) + left ≡ steps) so_far so_many in
    let new_as : new ≡ (if left == 0 then pre else pre ++ (x.0, left) ∷ []) =
    subst (λ (z : List (ℕ × ℕ)). new ≡ (if left == 0 then z else z ++ (x.0, left) ∷ [])) so_far new_is in
    subst (AreFirst all steps) (sym new_as)
    (subst (λ (z : List (ℕ × ℕ)). AreFirst z steps (if left == 0 then pre else pre ++ (x.0, left) ∷ [])) whole
    (within pre post x.0 x.1 left steps (subst AreRuns (sym whole) are) many fits))

-- a whole run is added
pub run_more : (all runs : List (ℕ × ℕ)) (i steps left : ℕ) (x : ℕ × ℕ)
    → length (schedule_of runs) + left ≡ steps → x.1 ≤ left
    → length (schedule_of (runs ++ x ∷ [])) + (left - x.1) ≡ steps
run_more all runs i steps left x so_many fits =
    let longer = ap length (schedule_of-more runs x.0 x.1) in
    omega (arith, longer, length-append (schedule_of runs) (replicate x.1 x.0), length-replicate x.1 x.0, so_many, fits)
