-- Steps of one thread in a row, at the end of some runs.
use Rattle.std.proofs.Common.{◌≡◌, ◌≢◌, ℕ, ◌+◌, ◌<◌, ◌≤◌, ◌^◌, ◌++◌, List, [], ◌∷◌, length, replicate, refl}
use Rattle.std.proofs.Common.{sym, ap, subst, ◌∙◌, arith, length-append}
use Rattle.std.proofs.lemmas.List.{length-replicate}
use Rattle.std.proofs.lemmas.Bool.Decides.{nat_tests}
use Rattle.init_engine.specs.Schedules.{schedule_of, AreRuns}
use Rattle.init_engine.proofs.ScheduleLemmas.{schedule_of-longer, schedule_of-more, runs_longer, runs_more}
use Rattle.journal.specs.Journals.{in_row, in_row_after, last_in_row}
use Rattle.journal.specs.steps.Adding.{Extends}

in_row_other : (t n u m : ℕ) → u ≢ t → in_row t n (u, m) ≡ 0
in_row_other t n u m apart = grind (arith, nat_tests)

in_row_same : (t n m : ℕ) → in_row t n (t, m) ≡ n + m
in_row_same t n m = grind (arith, nat_tests)

in_row_twice : (t k u c n : ℕ) → in_row t k (u, c + n) ≡ in_row t (in_row t k (u, c)) (u, n)
in_row_twice t k u c n = grind (arith, nat_tests)

in_row_small : (t n u m : ℕ) → in_row t n (u, m) ≤ n + m
in_row_small t n u m = grind (arith, nat_tests)

after_more : (t n : ℕ) (xs : List (ℕ × ℕ)) (r : ℕ × ℕ)
    → in_row_after t n (xs ++ r ∷ []) ≡ in_row t (in_row_after t n xs) r
after_more t n [] r = refl
after_more t n (x ∷ xs) r = after_more t (in_row t n x) xs r

pub last_more : (t : ℕ) (xs : List (ℕ × ℕ)) (r : ℕ × ℕ) → last_in_row t (xs ++ r ∷ []) ≡ in_row t (last_in_row t xs) r
last_more t xs r = after_more t 0 xs r

after_small : (t n : ℕ) (xs : List (ℕ × ℕ)) → in_row_after t n xs ≤ n + length (schedule_of xs)
after_small t n [] = omega arith
after_small t n (x ∷ xs) =
    omega (
      arith,
      after_small t (in_row t n x) xs,
      in_row_small t n x.0 x.1,
      length-append (replicate x.1 x.0)
          (schedule_of xs),
      length-replicate x.1 x.0,
    )

pub last_small : (t : ℕ) (xs : List (ℕ × ℕ)) → last_in_row t xs ≤ length (schedule_of xs)
last_small t xs = omega (arith, after_small t 0 xs)

none_before : (t n : ℕ) (x : ℕ × ℕ) (xs : List (ℕ × ℕ)) (m : ℕ) → AreRuns (x ∷ (xs ++ (t, m) ∷ []))
    → in_row_after t n (x ∷ xs) ≡ 0
none_before t n x [] m h = in_row_other t n x.0 x.1 h.1
none_before t n x (y ∷ ys) m h = none_before t (in_row t n x) y ys m h.2

last_none : (t : ℕ) (xs : List (ℕ × ℕ)) (m : ℕ) → AreRuns (xs ++ (t, m) ∷ []) → last_in_row t xs ≡ 0
last_none t [] m h = refl
last_none t (x ∷ xs) m h = none_before t 0 x xs m h

last_is : (t : ℕ) (xs : List (ℕ × ℕ)) (m : ℕ) → AreRuns (xs ++ (t, m) ∷ []) → last_in_row t (xs ++ (t, m) ∷ []) ≡ m
last_is t xs m h = last_more t xs (t, m)
    ∙ (ap (λ k. in_row t k (t, m)) (last_none t xs m h) ∙ (in_row_same t 0 m ∙ omega arith))

-- to runs that end with another thread a run is added
pub extends_other : (old xs new : List (ℕ × ℕ)) (u c t n : ℕ) → old ≡ xs ++ (u, c) ∷ [] → AreRuns old → u ≢ t → 0 < n
    → n < 2 ^ 64 → new ≡ (xs ++ (u, c) ∷ []) ++ (t, n) ∷ [] → Extends old t n new
extends_other old xs new u c t n is runs apart some small made =
    let now : new ≡ old ++ (t, n) ∷ [] = made ∙ ap (λ r. r ++ (t, n) ∷ []) (sym is) in
    record {
      runs = subst AreRuns (sym made) (runs_more xs u t c n (subst AreRuns is runs) apart some);
      schedule = ap schedule_of now ∙ schedule_of-more old t n;
      last = λ s. ap (last_in_row s) now ∙ last_more s old (t, n);
      fits = omega (
        arith,
        ap (last_in_row t) is
            ∙ (last_more t xs (u, c) ∙ in_row_other t (last_in_row t xs) u c apart),
        small,
      );
    }

-- the last run grows
pub extends_same : (old xs new : List (ℕ × ℕ)) (u c t n : ℕ) → old ≡ xs ++ (u, c) ∷ [] → AreRuns old → u ≡ t
    → c + n < 2 ^ 64 → new ≡ xs ++ (t, c + n) ∷ [] → Extends old t n new
extends_same old xs new u c t n was runs same small made =
    let is : old ≡ xs ++ (t, c) ∷ [] = was ∙ ap (λ k. xs ++ (k, c) ∷ []) same in
    record {
      runs = subst AreRuns (sym made) (runs_longer xs t c n (subst AreRuns is runs));
      schedule = ap schedule_of made
          ∙ (schedule_of-longer xs t c n ∙ ap (λ r. schedule_of r ++ replicate n t) (sym is));
      last = λ s.
          ap (last_in_row s) made ∙ (last_more s xs (t, c + n) ∙ (in_row_twice s (last_in_row s xs) t c n
          ∙ (ap (λ k. in_row s k (t, n)) (sym (last_more s xs (t, c)))
          ∙ ap (λ r. in_row s (last_in_row s r) (t, n)) (sym is))));
      fits = omega (arith, ap (last_in_row t) is ∙ last_is t xs c (subst AreRuns is runs), small);
    }

pub too_many : (old xs : List (ℕ × ℕ)) (u c t n : ℕ) → old ≡ xs ++ (u, c) ∷ [] → AreRuns old → u ≡ t → 2 ^ 64 ≤ c + n
    → ¬ (last_in_row t old + n < 2 ^ 64)
too_many old xs u c t n was runs same many fits =
    let is : old ≡ xs ++ (t, c) ∷ [] = was ∙ ap (λ k. xs ++ (k, c) ∷ []) same in
    omega (arith, ap (last_in_row t) is ∙ last_is t xs c (subst AreRuns is runs), many, fits)
