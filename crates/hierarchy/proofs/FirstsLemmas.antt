-- Lists in which each number stays where it stands first.
use Rattle.std.proofs.Common.{◌≡◌, ℕ, Bool, true, false, not, cond, ◌&&◌, ◌||◌, eqb, List, [], ◌∷◌, ◌++◌, refl, sym, ap}
use Rattle.std.proofs.Common.{◌∙◌, subst, append-nil, ◌↔◌}
use Rattle.std.specs.Bool.{Decides}
use Rattle.std.specs.List.{Contains, filter, list_any}
use Rattle.std.proofs.Math.Bool.{and-false, and-true}
use Rattle.std.proofs.lemmas.Bool.{eqb-true, eq-eqb, false_from_ne_true}
use Rattle.std.proofs.lemmas.Bool.Decides.{Decides-by_or, Decides-eqb, same_from_decides}
use Rattle.std.proofs.lemmas.List.Elements.{Decides-contains, filter-append, filter_agree}
use Rattle.graph.specs.Seen.{Joins}
use Rattle.hierarchy.specs.Search.{firsts}

-- those that do not stand in a list
abbrev without : List ℕ → List ℕ → List ℕ
without taken = filter (λ x. not (list_any (λ y. eqb y x) taken))

-- whether a number stands in a list
abbrev pub has : ℕ → List ℕ → Bool
has x = list_any (λ y. eqb y x)

pub has_tells : (x : ℕ) (xs : List ℕ) → Decides (has x xs) (Contains xs x)
has_tells x xs = Decides-contains xs x (has x xs)
    (Decides-by_or (λ y. eqb y x) (λ y. y ≡ x) (has x) (λ y. Decides-eqb y x) refl (λ _ _. refl) xs)

eqb_turned : (x y : ℕ) → eqb x y ≡ eqb y x
eqb_turned x y =
    same_from_decides (eqb x y) (eqb y x) (Decides-eqb x y) ((λ e. sym (eqb-true y x e)), (λ e. eq-eqb y x (sym e)))

-- ---- filters of filters

filter_both : (p q : ℕ → Bool) (xs : List ℕ) → filter p (filter q xs) ≡ filter (λ x. q x && p x) xs
filter_both p q [] = refl
filter_both p q (x ∷ xs) = by_tests (q x) (p x) refl refl (filter_both p q xs)
  where
    by_tests : (b c : Bool) → q x ≡ b → p x ≡ c → filter p (filter q xs) ≡ filter (λ x. q x && p x) xs
        → filter p (filter q (x ∷ xs)) ≡ filter (λ x. q x && p x) (x ∷ xs)
    by_tests true true e f rest = rw (e, f) (ap (λ (ys : List ℕ). x ∷ ys) rest)
    by_tests true false e f rest = rw (e, f) rest
    by_tests false c e f rest = rw e rest

filter_whole : (xs : List ℕ) → filter (λ _. true) xs ≡ xs
filter_whole [] = refl
filter_whole (x ∷ xs) = ap (λ (ys : List ℕ). x ∷ ys) (filter_whole xs)

-- ---- what a filter keeps

has-filter : (p : ℕ → Bool) (x : ℕ) (ys : List ℕ) → has x (filter p ys) ≡ (has x ys && p x)
has-filter p x [] = refl
has-filter p x (y ∷ ys) = by_tests (p y) (eqb y x) refl refl (has-filter p x ys)
  where
    by_tests : (b c : Bool) → p y ≡ b → eqb y x ≡ c → has x (filter p ys) ≡ (has x ys && p x)
        → has x (filter p (y ∷ ys)) ≡ (has x (y ∷ ys) && p x)
    by_tests true true e f rest = rw (e, f) (sym e ∙ ap p (eqb-true y x f))
    by_tests true false e f rest = rw (e, f) rest
    by_tests false true e f rest =
        let at : p x ≡ false = sym (ap p (eqb-true y x f)) ∙ e in
        rw (e, f) (rest ∙ ap (λ (b : Bool). has x ys && b) at ∙ and-false (has x ys) ∙ sym at)
    by_tests false false e f rest = rw (e, f) rest

-- the first places have what the list has
pub has-firsts : (x : ℕ) (xs : List ℕ) → has x (firsts xs) ≡ has x xs
has-firsts x [] = refl
has-firsts x (y ∷ ys) = by_test (eqb y x) refl (has-firsts x ys)
  where
    by_test : (b : Bool) → eqb y x ≡ b → has x (firsts ys) ≡ has x ys → has x (firsts (y ∷ ys)) ≡ has x (y ∷ ys)
    by_test true e rest = rw e refl
    by_test false e rest = rw e (has-filter (λ z. not (eqb z y)) x (firsts ys)
        ∙ ap (λ (b : Bool). has x (firsts ys) && not b) (eqb_turned x y ∙ e) ∙ and-true (has x (firsts ys)) ∙ rest)

pub Contains-firsts : (xs : List ℕ) (x : ℕ) → Contains (firsts xs) x ↔ Contains xs x
Contains-firsts xs x = (
  λ h. (has_tells x xs).0 (sym (has-firsts x xs) ∙ (has_tells x (firsts xs)).1 h),
  λ h. (has_tells x (firsts xs)).0
      (has-firsts x xs ∙ (has_tells x xs).1 h),
)

-- ---- the first places of joined lists

or_turned : (b c d : Bool) → b ≡ d → (not c && not b) ≡ not (d || c)
or_turned true true d e = rw (sym e) refl
or_turned true false d e = rw (sym e) refl
or_turned false true d e = rw (sym e) refl
or_turned false false d e = rw (sym e) refl

pub firsts-append : (xs ys : List ℕ) → firsts (xs ++ ys) ≡ firsts xs ++ without xs (firsts ys)
firsts-append [] ys = sym (filter_whole (firsts ys))
firsts-append (x ∷ xs) ys =
    let other : ℕ → Bool = λ y. not (eqb y x) in
    let rest : filter other (firsts (xs ++ ys)) ≡ filter other (firsts xs) ++ without (x ∷ xs) (firsts ys) =
    ap (filter other) (firsts-append xs ys) ∙ filter-append other (firsts xs) (without xs (firsts ys))
    ∙ ap (λ (zs : List ℕ). filter other (firsts xs) ++ zs)
    (filter_both other (λ z. not (has z xs)) (firsts ys)
    ∙ filter_agree (λ z. not (has z xs) && other z) (λ z. not (has z (x ∷ xs)))
    (λ z. or_turned (eqb z x) (has z xs) (eqb x z) (eqb_turned z x)) (firsts ys)) in
    ap (λ (zs : List ℕ). x ∷ zs) rest

-- ---- one more number

pub firsts_joins : (fresh : Bool) (front old new : List ℕ) (x : ℕ) → old ≡ firsts front → Joins fresh old x new
    → new ≡ firsts (front ++ x ∷ [])
firsts_joins true front old new x e (absent, is) =
    let in_old : Contains front x → Contains old x =
    λ h. subst (λ (ys : List ℕ). Contains ys x) (sym e) ((Contains-firsts front x).1 h) in
    let free : has x front ≡ false =
    false_from_ne_true (has x front) (λ h. absent (in_old ((has_tells x front).0 h))) in
    is ∙ ap (λ (ys : List ℕ). ys ++ x ∷ []) e
    ∙ sym (firsts-append front (x ∷ []) ∙ ap (λ (b : Bool). firsts front ++ cond (not b) (x ∷ []) []) free)
firsts_joins false front old new x e (present, is) =
    let in_front : Contains old x → Contains front x =
    λ h. (Contains-firsts front x).0 (subst (λ (ys : List ℕ). Contains ys x) e h) in
    let there : has x front ≡ true = (has_tells x front).1 (in_front present) in
    is ∙ e ∙ sym (firsts-append front (x ∷ []) ∙ ap (λ (b : Bool). firsts front ++ cond (not b) (x ∷ []) []) there
    ∙ append-nil (firsts front))

-- ---- the first of each number that passes a test

kept_twice : (p : ℕ → Bool) (xs : List ℕ) → filter p (filter p xs) ≡ filter p xs
kept_twice p xs = filter_both p p xs ∙ filter_agree (λ x. p x && p x) p (λ x. same (p x)) xs
  where
    same : (b : Bool) → (b && b) ≡ b
    same true = refl
    same false = refl

-- what a filter takes out may be taken out before
other_kept : (p : ℕ → Bool) (x : ℕ) → p x ≡ false → (ys : List ℕ)
    → filter p (filter (λ y. not (eqb y x)) ys) ≡ filter p ys
other_kept p x fails ys =
    filter_both p (λ y. not (eqb y x)) ys
    ∙ filter_agree (λ y. not (eqb y x) && p y) p (λ y. by_test y (eqb y x) refl) ys
  where
    by_test : (y : ℕ) (b : Bool) → eqb y x ≡ b → (not b && p y) ≡ p y
    by_test y true e = sym (ap p (eqb-true y x e) ∙ fails)
    by_test y false e = refl

swapped : (p q : ℕ → Bool) (ys : List ℕ) → filter p (filter q ys) ≡ filter q (filter p ys)
swapped p q ys =
    filter_both p q ys ∙ filter_agree (λ y. q y && p y) (λ y. p y && q y) (λ y. turned (q y) (p y)) ys
    ∙ sym (filter_both q p ys)
  where
    turned : (b c : Bool) → (b && c) ≡ (c && b)
    turned true true = refl
    turned true false = refl
    turned false true = refl
    turned false false = refl

pub filter-firsts : (p : ℕ → Bool) (xs : List ℕ) → filter p (firsts xs) ≡ firsts (filter p xs)
filter-firsts p [] = refl
filter-firsts p (x ∷ xs) = by_test (p x) refl (filter-firsts p xs)
  where
    other : List ℕ → List ℕ
    other = filter (λ y. not (eqb y x))

    by_test : (b : Bool) → p x ≡ b → filter p (firsts xs) ≡ firsts (filter p xs)
        → cond b (x ∷ filter p (other (firsts xs))) (filter p (other (firsts xs)))
        ≡ firsts (cond b (x ∷ filter p xs) (filter p xs))
    by_test true e rest =
        ap (λ (l : List ℕ). x ∷ l) (swapped p (λ y. not (eqb y x)) (firsts xs) ∙ ap other rest)
    by_test false e rest = other_kept p x e (firsts xs) ∙ rest

pub firsts_twice : (xs : List ℕ) → firsts (firsts xs) ≡ firsts xs
firsts_twice [] = refl
firsts_twice (x ∷ xs) =
    let other : ℕ → Bool = λ y. not (eqb y x) in
    ap (λ (l : List ℕ). x ∷ l)
    (ap (filter other) (sym (filter-firsts other (firsts xs)) ∙ ap (filter other) (firsts_twice xs))
    ∙ kept_twice other (firsts xs))

-- lists that were looked through are joined
firsts_joined : (xs ys : List ℕ) → firsts (firsts xs ++ firsts ys) ≡ firsts (xs ++ ys)
firsts_joined xs ys =
    firsts-append (firsts xs) (firsts ys)
    ∙ ap (λ (l : List ℕ). l ++ without (firsts xs) (firsts (firsts ys))) (firsts_twice xs)
    ∙ ap (λ (l : List ℕ). firsts xs ++ without (firsts xs) l) (firsts_twice ys)
    ∙ ap (λ (l : List ℕ). firsts xs ++ l)
    (filter_agree (λ x. not (has x (firsts xs))) (λ x. not (has x xs)) (λ x. ap not (has-firsts x xs)) (firsts ys))
    ∙ sym (firsts-append xs ys)

pub filter_again : (p : ℕ → Bool) (list seen whole : List ℕ) → list ≡ filter p seen → filter p seen ≡ whole
    → filter p list ≡ whole
filter_again p list seen whole is kept = ap (filter p) is ∙ kept_twice p seen ∙ kept

pub kept_joined : (p : ℕ → Bool) (seen list new xs ys : List ℕ) → filter p seen ≡ filter p (firsts xs)
    → filter p list ≡ filter p (firsts ys) → new ≡ firsts (seen ++ list) → filter p new ≡ filter p (firsts (xs ++ ys))
kept_joined p seen list new xs ys before more is =
    ap (filter p) is ∙ filter-firsts p (seen ++ list)
    ∙ ap firsts (filter-append p seen list ∙ ap (λ (l : List ℕ). l ++ filter p list) before
    ∙ ap (λ (l : List ℕ). filter p (firsts xs) ++ l) more ∙ sym (filter-append p (firsts xs) (firsts ys)))
    ∙ sym (filter-firsts p (firsts xs ++ firsts ys)) ∙ ap (filter p) (firsts_joined xs ys)
