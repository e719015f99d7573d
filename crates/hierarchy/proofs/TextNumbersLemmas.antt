-- The numbers that texts are found at: what one more text changes.
use Rattle.std.proofs.Common.{◌≡◌, ◌<◌, ◌+◌, ℕ, zero, suc, Bool, true, false, List, [], ◌∷◌, ◌++◌, length, Option, Some, None}
use Rattle.std.proofs.Common.{slice_get, MatchOption, Vec, Global, nat_eq, refl, sym, ap, ◌∙◌, subst, inl, inr, map, take, get_or, arith}
use Rattle.std.proofs.lemmas.List.{length-map, length-take-le}
use Rattle.std.proofs.lemmas.Option.{slice_get_within}
use Rattle.std.specs.List.{Contains}
use Rattle.std.specs.Cmp.Lexicographic.{pointwise, same_text, nat_list_eq_equiv}
use Rattle.std.specs.HashMap.{HashMap, Updates}
use Rattle.std.specs.Map.{lookup, KeepsOthers, IsKeyTest, AreApart}
use Rattle.loading.proofs.PlaceLemmas.{contains_at, place_in, pushed_at, kept_at, last_at, map_push, mapped_at}
use Rattle.hierarchy.specs.Texts.{AreDistinct}
use Rattle.hierarchy.specs.declared.text_state.TextState.{TextState}
use Rattle.hierarchy.specs.steps.HeldTexts.{texts_of}
use Rattle.hierarchy.specs.steps.TextNumbers.{FindTexts, number_in}
use Rattle.hierarchy.proofs.HeldTextsLemmas.{holds, alike}

abbrev Numbers : Type 0
Numbers = HashMap (Vec ℕ Global) ℕ TextState

-- no two texts that are found are the same
pub distinct_found : (texts : List (List ℕ)) (numbers : Numbers) → FindTexts texts numbers → AreDistinct texts
distinct_found texts numbers is i j text at also =
    let same : Some i ≡ Some j = sym (is.found i text at) ∙ is.found j text also in cc

-- the number of a text, if it has one
pub numbered_found : (texts : List (List ℕ)) (numbers : Numbers) (text : List ℕ) (result : Option ℕ)
    → FindTexts texts numbers → result ≡ number_in numbers text
    → MatchOption result (¬ Contains texts text) (λ n. slice_get texts n ≡ Some text)
numbered_found texts numbers text None is none = λ has.
    let at = place_in texts text has in
    let clash : None ≡ Some at.0 = none ∙ is.found at.0 text at.1 in absurd cc
numbered_found texts numbers text (Some n) is some = is.there n text (sym some)

others_kept : (eq : Vec ℕ Global → Vec ℕ Global → Bool) (test : Vec ℕ Global → Bool) (old new : List (Vec ℕ Global × ℕ))
    → KeepsOthers eq test old new → (other : Vec ℕ Global → Bool) → IsKeyTest eq other → AreApart test other
    → lookup other new ≡ lookup other old
unfolding KeepsOthers
others_kept eq test old new keeps = keeps

module _ (texts : List (List ℕ)) (old new : Numbers) (key : Vec ℕ Global) (text : List ℕ) (is : FindTexts texts old)
    (spells : key.items ≡ text) (fresh : ¬ Contains texts text)
    (updates : Updates alike old new key (Some (length texts))) where
  here : (other : List ℕ) → text ≡ other → number_in new other ≡ Some (length texts)
  here other same = subst (λ t. number_in new t ≡ Some (length texts)) (spells ∙ same) updates.1

  elsewhere : (other : List ℕ) → pointwise nat_eq key.items other ≡ false → number_in new other ≡ number_in old other
  elsewhere other differs =
      others_kept alike (alike key) old.entries new.entries updates.3 (holds other)
      (λ x y. nat_list_eq_equiv.congr other x.items y.items)
      (λ k same. nat_list_eq_equiv.symm other k.items ∙ sym (nat_list_eq_equiv.congr key.items k.items other same) ∙ differs)

  -- a new text is found at the end
  pub found_next : FindTexts (texts ++ text ∷ []) new
  found_next = record {
    found = λ n other at. elim (pushed_at texts text other n at) [
      | inl early ↦ by_test other (pointwise nat_eq key.items other) refl
          (λ same. absurd (fresh (contains_at texts n text (early ∙ ap Some (sym same)))))
          (λ differs. elsewhere other differs ∙ is.found n other early)
      | inr last ↦ here other last.1 ∙ ap Some (sym last.0)
    ];
    there = λ n other at. by_test_at other (pointwise nat_eq key.items other) refl n at;
  }
    where
      by_test : (other : List ℕ) (b : Bool) → pointwise nat_eq key.items other ≡ b → {n : ℕ}
          → (text ≡ other → number_in new other ≡ Some n)
          → (pointwise nat_eq key.items other ≡ false → number_in new other ≡ Some n) → number_in new other ≡ Some n
      by_test other true e same differs = same (sym spells ∙ same_text key.items other (sym e))
      by_test other false e same differs = differs e

      by_test_at : (other : List ℕ) (b : Bool) → pointwise nat_eq key.items other ≡ b → (n : ℕ)
          → number_in new other ≡ Some n → slice_get (texts ++ text ∷ []) n ≡ Some other
      by_test_at other true e n at =
          let same : text ≡ other = sym spells ∙ same_text key.items other (sym e) in
          let number : Some (length texts) ≡ Some n = sym (here other same) ∙ at in
          let is_last : length texts ≡ n = cc in
          subst (λ k. slice_get (texts ++ text ∷ []) k ≡ Some other) is_last (last_at texts text ∙ ap Some same)
      by_test_at other false e n at =
          kept_at texts text other n (is.there n other (sym (elsewhere other e) ∙ at))

-- ---- texts by place

pub take_front : {A : Type 0} (xs ys : List A) → take (length xs) (xs ++ ys) ≡ xs
take_front [] ys = refl
take_front (x ∷ xs) ys = ap (λ l. x ∷ l) (take_front xs ys)

take_more : {A : Type 0} (xs : List A) (n : ℕ) (x : A) → slice_get xs n ≡ Some x → take (suc n) xs ≡ take n xs ++ x ∷ []
take_more [] n x at = absurd cc
take_more (y ∷ ys) zero x at = let same : y ≡ x = cc in ap (λ z. z ∷ []) same
take_more (y ∷ ys) (suc n) x at = ap (λ l. y ∷ l) (take_more ys n x at)

pub take_next : {A : Type 0} (xs : List A) (n : ℕ) (x : A) → slice_get xs n ≡ Some x
    → take (n + 1) xs ≡ take n xs ++ x ∷ []
take_next xs n x at = let one : n + 1 ≡ suc n = omega arith in ap (λ k. take k xs) one ∙ take_more xs n x at

taken_at : {A : Type 0} (xs : List A) (n i : ℕ) (x : A) → slice_get (take n xs) i ≡ Some x
    → (i < n) × (slice_get xs i ≡ Some x)
taken_at [] zero i x at = absurd cc
taken_at [] (suc n) i x at = absurd cc
taken_at (y ∷ ys) zero i x at = absurd cc
taken_at (y ∷ ys) (suc n) zero x at = (omega arith, at)
taken_at (y ∷ ys) (suc n) (suc i) x at =
    let there = taken_at ys n i x at in (omega (arith, there.0), there.1)

-- what stands at a place of distinct items is not before it
pub fresh_at : (texts : List (List ℕ)) (n : ℕ) (text : List ℕ) → AreDistinct texts → slice_get texts n ≡ Some text
    → ¬ Contains (take n texts) text
fresh_at texts n text apart at has =
    let place = place_in (take n texts) text has in
    let before = taken_at texts n place.0 text place.1 in
    absurd (omega (arith, before.0, apart place.0 n text before.1 at))

map_take : {A B : Type 0} (f : A → B) (n : ℕ) (xs : List A) → map f (take n xs) ≡ take n (map f xs)
map_take f zero xs = refl
map_take f (suc n) [] = refl
map_take f (suc n) (x ∷ xs) = ap (λ l. f x ∷ l) (map_take f n xs)

-- what a loop reads at a place stands there
pub held_there : {A : Type 0} (xs : List A) (n : ℕ) (x : A) → n < length xs → x ≡ get_or xs n x → slice_get xs n ≡ Some x
held_there [] n x within is = absurd (omega (arith, within))
held_there (y ∷ ys) zero x within is = ap Some (sym is)
held_there (y ∷ ys) (suc n) x within is = held_there ys n x (omega (arith, within)) is

-- one more text by its place
pub found_at : (all : List (Vec ℕ Global)) (n : ℕ) (held key : Vec ℕ Global) (old new : Numbers)
    → AreDistinct (texts_of all) → slice_get all n ≡ Some held → key.items ≡ held.items
    → FindTexts (texts_of (take n all)) old → Updates alike old new key (Some n)
    → FindTexts (texts_of (take (n + 1) all)) new
found_at all n held key old new apart at spells is updates =
    let front : texts_of (take n all) ≡ take n (texts_of all) = map_take (λ (v : Vec ℕ Global). v.items) n all in
    let fresh : ¬ Contains (texts_of (take n all)) held.items =
    subst (λ ts. ¬ Contains ts held.items) (sym front)
    (fresh_at (texts_of all) n held.items apart (mapped_at (λ (v : Vec ℕ Global). v.items) all n held at)) in
    let within = slice_get_within all n held at in
    let count : length (texts_of (take n all)) ≡ n =
    length-map (take n all) (λ (v : Vec ℕ Global). v.items) ∙ length-take-le n all (omega (arith, within)) in
    let next : texts_of (take (n + 1) all) ≡ texts_of (take n all) ++ held.items ∷ [] =
    ap texts_of (take_next all n held at) ∙ map_push (λ (v : Vec ℕ Global). v.items) (take n all) held in
    subst (λ ts. FindTexts ts new) (sym next)
    (found_next (texts_of (take n all)) old new key held.items is spells fresh
    (subst (λ k. Updates alike old new key (Some k)) (sym count) updates))

-- one more text at the end
module _ (old new : List (Vec ℕ Global)) (copy : Vec ℕ Global) (text : List ℕ) (pushed : new ≡ old ++ copy ∷ [])
    (spells : copy.items ≡ text) where
  pub texts_pushed : texts_of new ≡ texts_of old ++ text ∷ []
  texts_pushed =
      ap texts_of pushed ∙ map_push (λ (v : Vec ℕ Global). v.items) old copy ∙ ap (λ t. texts_of old ++ t ∷ []) spells

  pub at_end : (n : ℕ) → n ≡ length old → slice_get (texts_of new) n ≡ Some text
  at_end n count =
      let end : n ≡ length (texts_of old) = count ∙ sym (length-map old (λ (v : Vec ℕ Global). v.items)) in
      ap (λ ts. slice_get ts n) texts_pushed ∙ ap (slice_get (texts_of old ++ text ∷ [])) end ∙ last_at (texts_of old) text

  pub found_pushed : (n : ℕ) (key : Vec ℕ Global) (numbers more : Numbers) → n ≡ length old → key.items ≡ text
      → ¬ Contains (texts_of old) text → FindTexts (texts_of old) numbers → Updates alike numbers more key (Some n)
      → FindTexts (texts_of new) more
  found_pushed n key numbers more count held fresh is updates =
      let end : n ≡ length (texts_of old) = count ∙ sym (length-map old (λ (v : Vec ℕ Global). v.items)) in
      subst (λ ts. FindTexts ts more) (sym texts_pushed)
      (found_next (texts_of old) numbers more key text is held fresh
      (subst (λ k. Updates alike numbers more key (Some k)) end updates))
