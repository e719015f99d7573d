-- A schedule has one text whose neighbours are of different threads.
use Rattle.std.proofs.Common.{◌≡◌, ◌≢◌, ℕ, zero, suc, ◌+◌, ◌<◌, ◌≤◌, ◌++◌, List, [], ◌∷◌, length, replicate, refl, sym}
use Rattle.std.proofs.Common.{ap, subst, ◌∙◌, arith, length-append}
use Rattle.std.proofs.lemmas.List.{length-replicate}
use Rattle.init_engine.specs.Schedules.{schedule_of, AreRuns, BeginsWithOther}

abbrev BeginsApart : ℕ → List ℕ → Type 0
BeginsApart t [] = Unit {0}
BeginsApart t (s ∷ ss) = t ≢ s

heads : (x y : ℕ) (xs ys : List ℕ) → x ∷ xs ≡ y ∷ ys → x ≡ y
heads x y xs ys e = cc

tails : (x y : ℕ) (xs ys : List ℕ) → x ∷ xs ≡ y ∷ ys → xs ≡ ys
tails x y xs ys e = cc

apart_clash : (t : ℕ) (us vs : List ℕ) → BeginsApart t us → us ≡ t ∷ vs → ⊥
apart_clash t [] vs h e = absurd (omega (arith, ap length e))
apart_clash t (a ∷ us) vs h e = h (sym (heads a t us vs e))

same_lead : (n m t : ℕ) (us vs : List ℕ) → BeginsApart t us → BeginsApart t vs
    → replicate n t ++ us ≡ replicate m t ++ vs → (n ≡ m) × (us ≡ vs)
same_lead zero zero t us vs h k e = (refl, e)
same_lead zero (suc m) t us vs h k e = absurd (apart_clash t us (replicate m t ++ vs) h e)
same_lead (suc n) zero t us vs h k e = absurd (apart_clash t vs (replicate n t ++ us) k (sym e))
same_lead (suc n) (suc m) t us vs h k e =
    let r = same_lead n m t us vs h k (tails t t (replicate n t ++ us) (replicate m t ++ vs) e) in (ap suc r.0, r.1)

other_run : (t n : ℕ) (s : ℕ) (rest : List ℕ) → t ≢ s → 0 < n → BeginsApart t (replicate n s ++ rest)
other_run t zero s rest apart some = absurd (omega (arith, some))
other_run t (suc n) s rest apart some = apart

begins_apart : (t : ℕ) (xs : List (ℕ × ℕ)) → BeginsWithOther t xs → AreRuns xs → BeginsApart t (schedule_of xs)
begins_apart t [] h runs = tt
begins_apart t (x ∷ xs) h runs = other_run t x.1 x.0 (schedule_of xs) h runs.0

none_left : (x : ℕ × ℕ) (xs : List (ℕ × ℕ)) → AreRuns (x ∷ xs) → [] ≢ schedule_of (x ∷ xs)
none_left x xs runs e =
    omega (arith, ap length e, length-append (replicate x.1 x.0) (schedule_of xs), length-replicate x.1 x.0, runs.0)

first_of : (n m t s : ℕ) (us vs : List ℕ) → 0 < n → 0 < m → replicate n t ++ us ≡ replicate m s ++ vs → t ≡ s
first_of zero m t s us vs p q e = absurd (omega (arith, p))
first_of (suc n) zero t s us vs p q e = absurd (omega (arith, q))
first_of (suc n) (suc m) t s us vs p q e = heads t s (replicate n t ++ us) (replicate m s ++ vs) e

pub one_list : (xs ys : List (ℕ × ℕ)) → AreRuns xs → AreRuns ys → schedule_of xs ≡ schedule_of ys → xs ≡ ys
one_list [] [] p q e = refl
one_list [] (y ∷ ys) p q e = absurd (none_left y ys q e)
one_list (x ∷ xs) [] p q e = absurd (none_left x xs p (sym e))
one_list (x ∷ xs) (y ∷ ys) p q e =
    let t : x.0 ≡ y.0 = first_of x.1 y.1 x.0 y.0 (schedule_of xs) (schedule_of ys) p.0 q.0 e in
    let e' : replicate x.1 x.0 ++ schedule_of xs ≡ replicate y.1 x.0 ++ schedule_of ys =
    e ∙ ap (λ k. replicate y.1 k ++ schedule_of ys) (sym t) in
    let r = same_lead x.1 y.1 x.0 (schedule_of xs) (schedule_of ys) (begins_apart x.0 xs p.1 p.2)
    (subst (λ k. BeginsApart k (schedule_of ys)) (sym t) (begins_apart y.0 ys q.1 q.2)) e' in
    ap (λ rest. x ∷ rest) (one_list xs ys p.2 q.2 r.1)
    ∙ (ap (λ k. (k, x.1) ∷ ys) t ∙ ap (λ k. (y.0, k) ∷ ys) r.0)
