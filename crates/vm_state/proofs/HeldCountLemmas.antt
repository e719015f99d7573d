-- How many objects a maker's pool holds.
use Rattle.std.proofs.Common.{◌≡◌, ℕ, zero, suc, ◌<◌, ◌≤◌, ◌+◌, Bool, is_some, length, true, false, List, [], ◌∷◌}
use Rattle.std.proofs.Common.{Option, Some, None, refl, sym, ap, ◌∙◌}
use Rattle.std.proofs.Common.{◌==◌, eqb-true, inl, inr, arith, subst, cond}
use Rattle.std.proofs.lemmas.List.Sums.{sum_by-cons}
use Rattle.std.specs.List.{count_by, range_with_len}
use Rattle.vm_state.specs.declared.object.Object.{Object}
use Rattle.vm_state.specs.Objects.{AscendsFrom, HeldObjects, or_later, object_in}
use Rattle.vm_state.specs.Pools.{held_count, pool_by}
use Rattle.vm_state.proofs.ListLemmas.{tested}
use Rattle.vm_state.proofs.ObjectLemmas.{none_below}

or_later-none : (o : Option Object) → or_later None o ≡ o
or_later-none None = refl
or_later-none (Some x) = refl

ends : (low : ℕ) (os : List (ℕ × Object)) (count : ℕ) → AscendsFrom low os count → low ≤ count
ends low [] count h = h
ends low (x ∷ xs) count (h, hs) = let rest = ends (x.0 + 1) xs count hs in omega (arith, h, rest)

-- one number more
count-more : (f : ℕ → Bool) (a k : ℕ) (b : Bool) → f a ≡ b
    → count_by f (range_with_len a (suc k)) ≡ cond b 1 0 + count_by f (range_with_len (a + 1) k)
count-more f a k b is =
    sum_by-cons (λ n. cond (f n) 1 0) a (range_with_len (a + 1) k)
    ∙ ap (λ (t : Bool). cond t 1 0 + count_by f (range_with_len (a + 1) k)) is

count-same : (f g : ℕ → Bool) (a k : ℕ) → ((n : ℕ) → a ≤ n → f n ≡ g n)
    → count_by f (range_with_len a k) ≡ count_by g (range_with_len a k)
count-same f g a zero same = refl
count-same f g a (suc k) same =
    let rest = count-same f g (a + 1) k (λ n past. same n (omega (arith, past))) in
    count-more f a k (g a) (same a (omega arith))
    ∙ (ap (λ (n : ℕ). cond (g a) 1 0 + n) rest ∙ sym (count-more g a k (g a) refl))

unequal_past : (k n : ℕ) → n < k → (k == n) ≡ false
unequal_past k n h = grind arith

held-from : (k : ℕ) (os : List (ℕ × Object)) (low count : ℕ) → low + k ≡ count → AscendsFrom low os count
    → length os ≡ count_by (λ n. is_some (object_in os n)) (range_with_len low k)
held-from zero [] low count is h = refl
held-from zero (x ∷ xs) low count is (h, hs) =
    absurd (let past = ends (x.0 + 1) xs count hs in omega (arith, past, h, is))
held-from (suc k) [] low count is h =
    let rest = held-from k [] (low + 1) count (omega (arith, is)) (omega (arith, is)) in
    omega (arith, rest, count-more (λ n. is_some (object_in [] n)) low k false refl)
held-from (suc k) (x ∷ xs) low count is (h, hs) = elim (tested (low == x.0)) [
  | inl e ↦
      let here : low ≡ x.0 = eqb-true low x.0 e in
      let later : object_in xs low ≡ None = none_below (x.0 + 1) xs count low hs (omega (arith, here)) in
      let rest =
      held-from k xs (low + 1) count (omega (arith, is))
      (subst (λ (n : ℕ). AscendsFrom (n + 1) xs count) (sym here) hs) in
      let same =
      count-same (λ n. is_some (object_in xs n)) (λ n. is_some (object_in (x ∷ xs) n)) (low + 1) k
      (λ n past. rw (unequal_past n x.0 (omega (arith, past, here)))
      (ap is_some (sym (or_later-none (object_in xs n)))))
      in
      let one = count-more (λ n. is_some (object_in (x ∷ xs) n)) low k true (rw (later, e) refl) in
      omega (arith, rest, same, one)
  | inr e ↦
      let below : low < x.0 = grind arith in
      let none : object_in (x ∷ xs) low ≡ None = none_below x.0 (x ∷ xs) count low (omega arith, hs) below in
      let rest = held-from k (x ∷ xs) (low + 1) count (omega (arith, is)) (omega (arith, below), hs) in
      omega (arith, rest, count-more (λ n. is_some (object_in (x ∷ xs) n)) low k false (ap is_some none))
]

pub held_here : (r : HeldObjects) → AscendsFrom 0 r.objects r.count → length r.objects ≡ held_count (pool_by r)
held_here r h = held-from r.count r.objects 0 r.count (omega arith) h
