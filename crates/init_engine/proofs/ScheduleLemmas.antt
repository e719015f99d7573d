-- Schedules as runs, with one more step.
use Rattle.std.proofs.Common.{◌≡◌, ◌≢◌, ℕ, ◌+◌, ◌<◌, ◌≤◌, List, [], ◌∷◌, ◌++◌, length, replicate, refl, sym, ap, ◌∙◌}
use Rattle.std.proofs.Common.{arith, append_assoc, append-nil, length-append, Some, None}
use Rattle.std.proofs.lemmas.List.{replicate-append-replicate, length-replicate}
use Rattle.init_engine.specs.Schedules.{schedule_of, AreRuns, BeginsWithOther}

pub schedule_of-append : (xs ys : List (ℕ × ℕ)) → schedule_of (xs ++ ys) ≡ schedule_of xs ++ schedule_of ys
schedule_of-append [] ys = refl
schedule_of-append (x ∷ xs) ys =
    ap (λ r. replicate x.1 x.0 ++ r) (schedule_of-append xs ys)
    ∙ sym (append_assoc (replicate x.1 x.0) (schedule_of xs) (schedule_of ys))

-- more steps of the last thread
longer : (t n m : ℕ) → replicate (n + m) t ++ [] ≡ (replicate n t ++ []) ++ replicate m t
longer t n m =
    append-nil (replicate (n + m) t)
    ∙ (sym (replicate-append-replicate n m t) ∙ ap (λ r. r ++ replicate m t) (sym (append-nil (replicate n t))))

pub schedule_of-longer : (xs : List (ℕ × ℕ)) (t n m : ℕ)
    → schedule_of (xs ++ (t, n + m) ∷ []) ≡ schedule_of (xs ++ (t, n) ∷ []) ++ replicate m t
schedule_of-longer xs t n m =
    schedule_of-append xs ((t, n + m) ∷ [])
    ∙ (ap (λ r. schedule_of xs ++ r) (longer t n m)
    ∙ (sym (append_assoc (schedule_of xs) (replicate n t ++ []) (replicate m t))
    ∙ ap (λ r. r ++ replicate m t) (sym (schedule_of-append xs ((t, n) ∷ [])))))

-- steps of another thread
pub schedule_of-more : (xs : List (ℕ × ℕ)) (t m : ℕ) → schedule_of (xs ++ (t, m) ∷ []) ≡ schedule_of xs ++ replicate m t
schedule_of-more xs t m = schedule_of-append xs ((t, m) ∷ [])
    ∙ ap (λ r. schedule_of xs ++ r) (append-nil (replicate m t))

-- the last run is no longer than the schedule
pub last_fits : (xs : List (ℕ × ℕ)) (t n : ℕ) → n ≤ length (schedule_of (xs ++ (t, n) ∷ []))
last_fits xs t n =
    let whole = ap length (schedule_of-append xs ((t, n) ∷ [])) in
    omega (
      arith,
      whole,
      length-append (schedule_of xs) (replicate n t ++ []),
      length-append (replicate n t) [],
      length-replicate n t,
    )

other_longer : (u : ℕ) (xs : List (ℕ × ℕ)) (t n m : ℕ) → BeginsWithOther u (xs ++ (t, n) ∷ [])
    → BeginsWithOther u (xs ++ (t, n + m) ∷ [])
other_longer u [] t n m h = h
other_longer u (x ∷ xs) t n m h = h

pub runs_longer : (xs : List (ℕ × ℕ)) (t n m : ℕ) → AreRuns (xs ++ (t, n) ∷ []) → AreRuns (xs ++ (t, n + m) ∷ [])
runs_longer [] t n m h = (omega (arith, h.0), tt, tt)
runs_longer (x ∷ xs) t n m h = (h.0, other_longer x.0 xs t n m h.1, runs_longer xs t n m h.2)

other_more : (u : ℕ) (xs : List (ℕ × ℕ)) (last t n m : ℕ) → BeginsWithOther u (xs ++ (last, n) ∷ [])
    → BeginsWithOther u ((xs ++ (last, n) ∷ []) ++ (t, m) ∷ [])
other_more u [] last t n m h = h
other_more u (x ∷ xs) last t n m h = h

pub runs_more : (xs : List (ℕ × ℕ)) (last t n m : ℕ) → AreRuns (xs ++ (last, n) ∷ []) → last ≢ t → 0 < m
    → AreRuns ((xs ++ (last, n) ∷ []) ++ (t, m) ∷ [])
runs_more [] last t n m h apart some = (h.0, apart, (some, tt, tt))
runs_more (x ∷ xs) last t n m h apart some =
    (h.0, other_more x.0 xs last t n m h.1, runs_more xs last t n m h.2 apart some)

pub no_last_run : (x : ℕ × ℕ) (xs : List (ℕ × ℕ)) → Some x ≡ None → xs ≡ []
no_last_run x xs h = cc

pub first_run : (xs : List (ℕ × ℕ)) (t m : ℕ) → xs ≡ [] → 0 < m → AreRuns (xs ++ (t, m) ∷ [])
first_run xs t m is some = rw is (some, tt, tt)
