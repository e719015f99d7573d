-- Numbers of the methods of given classes.
use Rattle.std.proofs.Common.{◌≡◌, ◌⊎◌, ℕ, zero, suc, ◌+◌, ◌<◌, ◌≤◌, List, [], ◌∷◌, ◌++◌, length, Option, Some, None}
use Rattle.std.proofs.Common.{IsSome, slice_get, refl, sym, ap, subst, ◌∙◌, inl, inr, arith, length-append}
use Rattle.std.proofs.lemmas.Option.{slice_get_within}
use Rattle.program.specs.declared.class.Class.{Class}
use Rattle.program.specs.Tables.{Tables, implementations_of}
use Rattle.hierarchy.specs.declared.member.DeclaredMember.{DeclaredMember}
use Rattle.use_graph.specs.steps.Numbers.{HasNumber, Adds, NumbersBelow, AreMethods, method_count}

-- ---- lists

module _ {A : Type 0} where
  front : (xs ys : List A) (n : ℕ) (m : A) → slice_get xs n ≡ Some m → slice_get (xs ++ ys) n ≡ Some m
  front [] ys n m e = absurd cc
  front (x ∷ xs) ys zero m e = e
  front (x ∷ xs) ys (suc n) m e = front xs ys n m e

  last : (xs : List A) (x : A) → slice_get (xs ++ x ∷ []) (length xs) ≡ Some x
  last [] x = refl
  last (y ∷ xs) x = last xs x

  pub push_cases : (xs : List A) (x m : A) (n : ℕ) → slice_get (xs ++ x ∷ []) n ≡ Some m
      → (slice_get xs n ≡ Some m) ⊎ ((n ≡ length xs) × (x ≡ m))
  push_cases [] x m zero e = inr (refl, cc)
  push_cases [] x m (suc n) e = absurd cc
  push_cases (y ∷ xs) x m zero e = inl e
  push_cases (y ∷ xs) x m (suc n) e = elim (push_cases xs x m n e) [
    | inl was ↦ inl was
    | inr (at, is) ↦ inr (ap suc at, is)
  ]

  some_within : (xs : List A) (k : ℕ) → IsSome (slice_get xs k) → k < length xs
  some_within [] k h = absurd cc
  some_within (x ∷ xs) zero h = omega arith
  some_within (x ∷ xs) (suc k) h = omega (arith, some_within xs k h)

  within_some : (xs : List A) (k : ℕ) → k < length xs → IsSome (slice_get xs k)
  within_some [] k h = absurd (omega arith)
  within_some (x ∷ xs) zero h = refl
  within_some (x ∷ xs) (suc k) h = within_some xs k (omega arith)

abbrev member : ℕ → ℕ → DeclaredMember
member c k = record { class = c; index = k }

-- ---- the methods of one class

pub adds_one : (c i : ℕ) (old new : List DeclaredMember) → Adds c i old new
    → Adds c (i + 1) old (new ++ record { class = c; index = i } ∷ [])
adds_one c i old new a = record {
  len = omega (arith, a.len, length-append new (member c i ∷ []));
  keeps = λ n m e. front new (member c i ∷ []) n m (a.keeps n m e);
  adds = λ k h. by k h (decide k);
  only = λ n d k e. elim (push_cases new (member c i) (member d k) n e) [
    | inl was ↦ elim (a.only n d k was) [
      | inl before ↦ inl before
      | inr (at, low, place) ↦ inr (at, omega (arith, low), place)
    ]
    | inr (end, is) ↦ (let index : i ≡ k = ap (λ (m : DeclaredMember). m.index) is in
        inr (sym (ap (λ (m : DeclaredMember). m.class) is), omega (arith, index), omega (arith, end, a.len, index)))
  ];
}
  where
    decide : (k : ℕ) → (k < i) ⊎ (i ≤ k)
    decide k = grind arith

    by : (k : ℕ) → k < i + 1 → (k < i) ⊎ (i ≤ k)
        → slice_get (new ++ member c i ∷ []) (length old + k) ≡ Some (member c k)
    by k h (inl low) = front new (member c i ∷ []) (length old + k) (member c k) (a.adds k low)
    by k h (inr high) =
        let same : k ≡ i = omega arith in
        let place : length old + k ≡ length new = omega (arith, a.len, same) in
        ap (slice_get (new ++ member c i ∷ [])) place ∙ last new (member c i)
        ∙ ap (λ (j : ℕ). Some (member c j)) (sym same)

-- ---- the methods of all

pub numbers_one : (P : Tables) (c : ℕ) (firsts : List ℕ) (old new : List DeclaredMember) → NumbersBelow P c firsts old
    → Adds c (method_count P c) old new → method_count P c ≤ 65535
    → NumbersBelow P (c + 1) (firsts ++ length old ∷ []) new
numbers_one P c firsts old new b a small = record {
  classes = omega (arith, b.classes, length-append firsts (length old ∷ []));
  numbered = record {
    placed = λ n d k e. elim (a.only n d k e) [
      | inl was ↦ (let before = b.numbered.placed n d k was in
          (before.0, front firsts (length old ∷ []) d before.0 before.1, before.2))
      | inr (at, low, place) ↦ (
        length old,
        ap (slice_get (firsts ++ length old ∷ [])) (at ∙ sym b.classes)
            ∙ last firsts (length old),
        place,
      )
    ];
  };
  only = λ n d k e. elim (a.only n d k e) [
    | inl was ↦ (let before = b.only n d k was in (omega (arith, before.0), before.1))
    | inr (at, low, place) ↦ (omega (arith, at), subst (λ (x : ℕ). k < method_count P x) (sym at) low)
  ];
  all = λ d k low some. by d k low some (decide d);
  few = omega (arith, b.few, a.len, small);
}
  where
    decide : (d : ℕ) → (d < c) ⊎ (c ≤ d)
    decide d = grind arith

    by : (d k : ℕ) → d < c + 1 → k < method_count P d → (d < c) ⊎ (c ≤ d) → HasNumber new d k
    by d k low some (inl less) = (let was = b.all d k less some in (was.0, a.keeps was.0 (member d k) was.1))
    by d k low some (inr more) =
        let same : d ≡ c = omega arith in (
          length old + k,
          a.adds k (subst (λ (x : ℕ). k < method_count P x) same some) ∙ ap (λ (x : ℕ). Some (member x k)) (sym same),
        )

pub are_methods : (P : Tables) (c : ℕ) (firsts : List ℕ) (methods : List DeclaredMember) → length P.classes ≤ c
    → NumbersBelow P c firsts methods → AreMethods P methods
are_methods P c firsts methods whole b d k = (
  λ some. (let low = some_within (implementations_of (slice_get P.classes d)) k some in
      b.all d k (omega (arith, whole, given d k low)) low),
  λ (n, e). within_some (implementations_of (slice_get P.classes d)) k (b.only n d k e).1,
)
  where
    given : (d k : ℕ) → k < method_count P d → d < length P.classes
    given d k low = by (slice_get P.classes d) refl
      where
        by : (o : Option Class) → slice_get P.classes d ≡ o → d < length P.classes
        by None at = absurd (let none : k < length (implementations_of None) = rw at at low in omega arith)
        by (Some class) at = slice_get_within P.classes d class at
