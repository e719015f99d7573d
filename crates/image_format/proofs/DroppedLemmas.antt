-- Regions without the objects that are not reached: there are just one such. What numbers objects have.
use Rattle.std.proofs.Common.{◌≡◌, ◌⊎◌, ◌↔◌, inl, inr, ℕ, zero, suc, ◌+◌, ◌<◌, ◌≤◌, ◌==◌, Bool, true, false, List, []}
use Rattle.std.proofs.Common.{◌∷◌, length, get_or, Option, Some, refl, sym, ap, ◌∙◌, arith, eq-eqb}
use Rattle.std.proofs.Math.Path.{fun_ext}
use Rattle.std.specs.List.{All}
use Rattle.image_format.specs.Regions.{ImageRegion, KeptObject}
use Rattle.image_format.specs.declared.version.Version.TheVariants as versions
use Rattle.image_format.specs.Objects.{object_with}
use Rattle.image_format.specs.Reached.{IsReached, kept_from, IsDropped}
use Rattle.image_format.specs.Shapes.{AreNumbered}
use Rattle.image_format.proofs.ReachedLemmas.{reached_known}

abbrev Held : Type 0
Held = List (Option ImageRegion)

abbrev Keeps : Type 0
Keeps = ℕ → ℕ → Bool

-- ---- one choice

same_bool : (a b : Bool) → (a ≡ true → b ≡ true) → (b ≡ true → a ≡ true) → a ≡ b
same_bool true true there back = refl
same_bool true false there back = sym (there refl)
same_bool false true there back = back refl
same_bool false false there back = refl

pub one_dropped : (all a b : Held) → IsDropped all a → IsDropped all b → a ≡ b
one_dropped all a b p q =
    let same : p.keeps ≡ q.keeps = fun_ext (λ c. fun_ext (λ n. same_bool (p.keeps c n) (q.keeps c n)
    (λ h. (q.reached c n).1 ((p.reached c n).0 h)) (λ h. (p.reached c n).1 ((q.reached c n).0 h)))) in
    p.is ∙ ap (λ (k : Keeps). kept_from k 0 all) same ∙ sym q.is

-- ---- there is one

abbrev decided : {P : Type 0} → P ⊎ (P → ⊥) → Bool
decided (inl p) = true
decided (inr never) = false

decides : {P : Type 0} (known : P ⊎ (P → ⊥)) → (decided known ≡ true) ↔ P
decides (inl p) = (λ e. p, λ h. refl)
decides (inr never) = (λ e. absurd cc, λ h. absurd (never h))

pub keeps_of : Held → Keeps
keeps_of all c n = decided (reached_known all c n)

pub keeps_reached : (all : Held) (c n : ℕ) → (keeps_of all c n ≡ true) ↔ IsReached all c n
unfolding keeps_of
keeps_reached all c n = decides (reached_known all c n)

pub dropped_of : (all : Held) → IsDropped all (kept_from (keeps_of all) 0 all)
dropped_of all = record { keeps = keeps_of all; reached = keeps_reached all; is = refl }

-- ---- numbers

pub numbers_lower : (count least lower : ℕ) (os : List KeptObject) → lower ≤ least
    → AreNumbered versions.Two count least os → AreNumbered versions.Two count lower os
numbers_lower count least lower [] le h = tt
numbers_lower count least lower (k ∷ ks) le h = (let a = h.0.0 in (omega (arith, le, a), h.0.1), h.1)

-- all numbers are some of them
pub numbers_all : (count least : ℕ) (os : List KeptObject) → least + length os ≤ count
    → AreNumbered versions.One count least os → AreNumbered versions.Two count least os
numbers_all count least [] le h = tt
numbers_all count least (k ∷ ks) le h =
    let is = h.0 in
    ((omega (arith, is), omega (arith, is, le)), numbers_all count (k.number + 1) ks (omega (arith, is, le)) h.1)

at_least : (count least : ℕ) (os : List KeptObject) → AreNumbered versions.Two count least os → (i : ℕ)
    (d : KeptObject) → i < length os → least ≤ (get_or os i d).number
at_least count least [] h i d lt = absurd (omega (arith, lt))
at_least count least (k ∷ ks) h zero d lt = h.0.0
at_least count least (k ∷ ks) h (suc i) d lt =
    let later = at_least count (k.number + 1) ks h.1 i d (omega (arith, lt)) in
    let here = h.0.0 in
    omega (arith, later, here)

apart : (k n : ℕ) → k < n → (k == n) ≡ false
apart k n lt = grind arith

-- each object is the one of its number
pub found_all : (count least : ℕ) (os : List KeptObject) → AreNumbered versions.Two count least os
    → All (λ (kept : KeptObject). object_with os kept.number ≡ Some kept.object) os
found_all count least [] h i d lt = absurd (omega (arith, lt))
found_all count least (k ∷ ks) h zero d lt =
    let same : (k.number == k.number) ≡ true = eq-eqb k.number k.number refl in rw same refl
found_all count least (k ∷ ks) h (suc i) d lt =
    let low : i < length ks = omega (arith, lt) in
    let above = at_least count (k.number + 1) ks h.1 i d low in
    let other : (k.number == (get_or ks i d).number) ≡ false =
    apart k.number (get_or ks i d).number (omega (arith, above)) in
    rw other (found_all count (k.number + 1) ks h.1 i d low)
