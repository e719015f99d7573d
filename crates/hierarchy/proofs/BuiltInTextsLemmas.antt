-- What built-in methods are called, each text once.
use Rattle.std.proofs.Common.{◌≡◌, ℕ, zero, suc, Bool, true, false, ◌||◌, List, [], ◌∷◌, Some, slice_get, nat_eq, refl}
use Rattle.std.proofs.Common.{sym, ap, ◌∙◌, true≢false, if◌then◌else◌, ◌<◌, length, map, get_or, Bor}
use Rattle.std.proofs.lemmas.Option.{slice_get-get_or}
use Rattle.std.specs.List.{list_any}
use Rattle.std.specs.Cmp.Lexicographic.{pointwise}
use Rattle.loading.proofs.PlaceLemmas.{mapped_at}
use Rattle.hierarchy.specs.Texts.{AreDistinct}
use Rattle.hierarchy.specs.steps.BuiltInTexts.{built_in_texts}
use Rattle.hierarchy.proofs.HeldTextsLemmas.{told}

pub first_is_empty : slice_get built_in_texts 0 ≡ Some []
unfolding built_in_texts
first_is_empty = refl

-- ---- distinct texts, as a test

all_apart : List (List ℕ) → Bool
all_apart [] = true
all_apart (t ∷ ts) = if list_any (pointwise nat_eq t) ts then false else all_apart ts

either_false : (a b : Bool) → (a || b) ≡ false → (a ≡ false) × (b ≡ false)
either_false true b h = absurd (true≢false h)
either_false false b h = (refl, h)

nowhere : (text : List ℕ) (ts : List (List ℕ)) → list_any (pointwise nat_eq text) ts ≡ false → (i : ℕ)
    → ¬ (slice_get ts i ≡ Some text)
nowhere text [] none i at = absurd cc
nowhere text (t ∷ ts) none zero at =
    let same : t ≡ text = cc in
    true≢false (sym (told text t (sym same)) ∙ (either_false (pointwise nat_eq text t) _ none).0)
nowhere text (t ∷ ts) none (suc i) at = nowhere text ts (either_false (pointwise nat_eq text t) _ none).1 i at

one_more : (text : List ℕ) (ts : List (List ℕ)) → list_any (pointwise nat_eq text) ts ≡ false → AreDistinct ts
    → AreDistinct (text ∷ ts)
one_more text ts none apart zero zero t at also = refl
one_more text ts none apart zero (suc j) t at also =
    let same : text ≡ t = cc in absurd (nowhere text ts none j (also ∙ ap Some (sym same)))
one_more text ts none apart (suc i) zero t at also =
    let same : text ≡ t = cc in absurd (nowhere text ts none i (at ∙ ap Some (sym same)))
one_more text ts none apart (suc i) (suc j) t at also = ap suc (apart i j t at also)

apart_are_distinct : (ts : List (List ℕ)) → all_apart ts ≡ true → AreDistinct ts
unfolding all_apart
apart_are_distinct [] h = λ i j t at also. absurd cc
apart_are_distinct (text ∷ ts) h =
    by (list_any (pointwise nat_eq text) ts) refl
    (λ none. apart_are_distinct ts (sym (ap (λ b. if b then false else all_apart ts) none) ∙ h))
  where
    by : (b : Bool) → list_any (pointwise nat_eq text) ts ≡ b
        → (list_any (pointwise nat_eq text) ts ≡ false → AreDistinct ts) → AreDistinct (text ∷ ts)
    by true e rest = absurd (true≢false (sym h ∙ ap (λ b. if b then false else all_apart ts) e))
    by false e rest = one_more text ts e (rest e)

pub built_in_distinct : AreDistinct built_in_texts
unfolding built_in_texts all_apart
built_in_distinct = apart_are_distinct built_in_texts refl

-- ---- what is spelled at a place of them

pub spelled_at : (spelled : List (Bor (List ℕ))) (n : ℕ) (bytes : List ℕ) (other : Bor (List ℕ))
    → map (λ (t : Bor (List ℕ)). t.now) spelled ≡ built_in_texts → n < length spelled
    → bytes ≡ (get_or spelled n other).now → slice_get built_in_texts n ≡ Some bytes
spelled_at spelled n bytes other are within is =
    ap (λ ts. slice_get ts n) (sym are)
    ∙ mapped_at (λ (t : Bor (List ℕ)). t.now) spelled n (get_or spelled n other) (slice_get-get_or spelled n other within)
    ∙ ap Some (sym is)
