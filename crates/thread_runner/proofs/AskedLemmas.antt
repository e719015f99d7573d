-- Classes that were asked for, and how many of a set were not.
use Rattle.std.proofs.Common.{◌≡◌, ◌<◌, ◌≤◌, ◌+◌, ℕ, zero, suc, Bool, true, false, List, [], ◌∷◌, ◌++◌, refl, sym, ap}
use Rattle.std.proofs.Common.{subst, ◌∙◌, arith, eqb-true, eq-eqb}
use Rattle.std.specs.Prelude.{◌&&◌, ◌||◌, ◌==◌, not, if◌then◌else◌}
use Rattle.std.specs.List.{list_any}
use Rattle.std.proofs.lemmas.List.Elements.{All-head, All-tail, All-nil, All-cons}
use Rattle.std.proofs.lemmas.List.Folds.{list_any-append}
use Rattle.thread_runner.specs.Unshared.{is_done}
use Rattle.thread_runner.specs.Fronts.{AreMembers}
use Rattle.thread_runner.specs.steps.Asked.{has}

-- ---- members of a set

pub member_has : (asked : List ℕ) (done : List Bool) (c : ℕ) → AreMembers asked done → has asked c ≡ true
    → is_done done c ≡ true
member_has [] done c all h = absurd cc
member_has (x ∷ xs) done c all h =
    by (x == c) refl h (λ later. member_has xs done c (All-tail (λ d. is_done done d ≡ true) x xs all) later) where
      by : (b : Bool) → (x == c) ≡ b → (b || has xs c) ≡ true → (has xs c ≡ true → is_done done c ≡ true)
          → is_done done c ≡ true
      by true is h more =
          subst (λ d. is_done done d ≡ true) (eqb-true x c is) (All-head (λ d. is_done done d ≡ true) x xs all)
      by false is h more = more h

pub members_before : (asked : List ℕ) (done : List Bool) (c : ℕ) → AreMembers (asked ++ c ∷ []) done
    → AreMembers asked done
members_before [] done c all = All-nil (λ d. is_done done d ≡ true)
members_before (x ∷ xs) done c all =
    All-cons (λ d. is_done done d ≡ true) x xs
    (All-head (λ d. is_done done d ≡ true) x (xs ++ c ∷ []) all)
    (members_before xs done c (All-tail (λ d. is_done done d ≡ true) x (xs ++ c ∷ []) all))

-- ---- how many are left to be asked for

abbrev one : Bool → Bool → ℕ
one flagged asked = if flagged && not asked then 1 else 0

-- how many classes of a set, whose first flag is that of class i, were not asked for
abbrev pub unasked : List Bool → ℕ → List ℕ → ℕ
unasked [] i asked = 0
unasked (m ∷ ms) i asked = one m (has asked i) + unasked ms (suc i) asked

none_more : (m asked more : Bool) → one m (asked || more) ≤ one m asked
none_more false asked more = omega arith
none_more true true more = omega arith
none_more true false true = omega arith
none_more true false false = omega arith

module _ (asked : List ℕ) (c : ℕ) where
  one_fewer : (m : Bool) (i : ℕ) → one m (has (asked ++ c ∷ []) i) ≤ one m (has asked i)
  one_fewer m i =
      subst (λ b. one m b ≤ one m (has asked i)) (sym (list_any-append (λ x. x == i) asked (c ∷ [])))
      (none_more m (has asked i) (list_any (λ x. x == i) (c ∷ [])))

  fewer : (ms : List Bool) (i : ℕ) → unasked ms i (asked ++ c ∷ []) ≤ unasked ms i asked
  fewer [] i = omega arith
  fewer (m ∷ ms) i = omega (arith, one_fewer m i, fewer ms (suc i))

  module _ (fresh : has asked c ≡ false) where
    now_has : has (asked ++ c ∷ []) c ≡ true
    now_has =
        list_any-append (λ x. x == c) asked (c ∷ [])
        ∙ (ap (λ b. b || ((c == c) || false)) fresh ∙ ap (λ b. false || (b || false)) (eq-eqb c c refl))

    asked_now : (i : ℕ) → c ≡ i → one true (has (asked ++ c ∷ []) i) < one true (has asked i)
    asked_now i same =
        subst (λ k. one true (has (asked ++ c ∷ []) k) < one true (has asked k)) same
        (subst (λ b. one true b < one true (has asked c)) (sym now_has)
        (subst (λ b. 0 < one true b) (sym fresh) (omega arith)))

    -- one that is a member of the set, and was not
    pub one_less : (ms : List Bool) (i k : ℕ) → c ≡ i + k → is_done ms k ≡ true
        → unasked ms i (asked ++ c ∷ []) < unasked ms i asked
    one_less [] i k same is = absurd cc
    one_less (false ∷ ms) i zero same is = absurd cc
    one_less (true ∷ ms) i zero same is = omega (arith, asked_now i (omega (arith, same)), fewer ms (suc i))
    one_less (m ∷ ms) i (suc k) same is =
        omega (arith, one_fewer m i, one_less ms (suc i) k (omega (arith, same)) is)

-- a class of the set that was not asked for
pub asks_less : (asked : List ℕ) (done : List Bool) (c : ℕ) → has asked c ≡ false → is_done done c ≡ true
    → unasked done 0 (asked ++ c ∷ []) < unasked done 0 asked
asks_less asked done c fresh is = one_less asked c fresh done 0 c (omega arith) is
