-- What holds of one of some things, collected from one after another.
use Rattle.std.proofs.Common.{◌≡◌, ◌↔◌, ◌⊎◌, ℕ, ◌+◌, ◌<◌, ◌≤◌, List, [], ◌∷◌, ◌++◌, length, take, get_or, sym}
use Rattle.std.proofs.Common.{subst, inl, inr, arith}
use Rattle.std.specs.List.{Contains}
use Rattle.std.proofs.lemmas.Grind.{common_steps}
use Rattle.std.proofs.lemmas.List.{take_more}
use Rattle.std.proofs.lemmas.List.Elements.{Contains-push_cases, Contains-push, Contains-append_left}
use Rattle.use_graph.specs.steps.Deeds.{HoldsOfOne}

pub take_all : {A : Type 0} (items : List A) (i : ℕ) → length items ≤ i → take i items ≡ items
take_all items i h = grind (arith, common_steps)

-- those of the first so many were added
abbrev pub Collected : {A X : Type 0} → (A → X → Type 0) → List A → ℕ → List X → List X → Type 0
Collected {A} {X} R items i old new = (x : X) → Contains new x ↔ (Contains old x ⊎ HoldsOfOne R (take i items) x)

module _ {A X : Type 0} (R : A → X → Type 0) (items : List A) where
  none_first : (k : ℕ) → k < length (take 0 items) → ⊥
  none_first k small = grind (arith, common_steps)

  take_is : (i : ℕ) (d : A) → i < length items → take (i + 1) items ≡ take i items ++ get_or items i d ∷ []
  take_is i d small = take_more items i d small

  pub collected_none : (old : List X) → Collected R items 0 old old
  collected_none old x = (
    λ p. inl p,
    λ p. elim p [ inl was ↦ was | inr (item, (k, small, e), r) ↦ absurd (none_first k small) ],
  )

  later : (i : ℕ) (d : A) (x : X) → i < length items → HoldsOfOne R (take i items) x
      → HoldsOfOne R (take (i + 1) items) x
  later i d x small (item, among, r) = (
    item,
    subst (λ (l : List A). Contains l item) (sym (take_is i d small))
        (Contains-append_left (take i items) (get_or items i d ∷ []) item among),
    r,
  )

  last : (i : ℕ) (d : A) → i < length items → Contains (take (i + 1) items) (get_or items i d)
  last i d small = subst (λ (l : List A). Contains l (get_or items i d)) (sym (take_is i d small))
      (Contains-push (take i items) (get_or items i d))

  cases : (i : ℕ) (d item : A) → i < length items → Contains (take (i + 1) items) item
      → Contains (take i items) item ⊎ (get_or items i d ≡ item)
  cases i d item small among = Contains-push_cases (take i items) (get_or items i d) item
      (subst (λ (l : List A). Contains l item) (take_is i d small) among)

  pub collected_more : (old mid new : List X) (i : ℕ) (d : A) → i < length items → Collected R items i old mid
      → ((x : X) → Contains new x ↔ (Contains mid x ⊎ R (get_or items i d) x)) → Collected R items (i + 1) old new
  collected_more old mid new i d small before step x = (
    λ p. elim ((step x).0 p) [
      | inl was ↦ elim ((before x).0 was) [ inl first ↦ inl first | inr h ↦ inr (later i d x small h) ]
      | inr r ↦ inr (get_or items i d, last i d small, r)
    ],
    λ p. elim p [
      | inl first ↦ (step x).1 (inl ((before x).1 (inl first)))
      | inr (item, among, r) ↦ elim (cases i d item small among) [
        | inl low ↦ (step x).1 (inl ((before x).1 (inr (item, low, r))))
        | inr same ↦ (step x).1 (inr (subst (λ (y : A). R y x) (sym same) r))
      ]
    ],
  )

  pub collected_all : (old new : List X) (i : ℕ) → length items ≤ i → Collected R items i old new
      → (x : X) → Contains new x ↔ (Contains old x ⊎ HoldsOfOne R items x)
  collected_all old new i whole all =
      subst (λ (l : List A). (x : X) → Contains new x ↔ (Contains old x ⊎ HoldsOfOne R l x))
      (take_all items i whole) all

-- ---- what holds of each

-- of each of the first so many
abbrev pub EachBefore : {A : Type 0} → List A → (A → Type 0) → ℕ → Type 0
EachBefore {A} items Q i = (item : A) → Contains (take i items) item → Q item

module _ {A : Type 0} (items : List A) (Q : A → Type 0) where
  pub before_more : (i : ℕ) (d : A) → i < length items → EachBefore items Q i → Q (get_or items i d)
      → EachBefore items Q (i + 1)
  before_more i d small before here item among =
      elim (Contains-push_cases (take i items) (get_or items i d) item
      (subst (λ (l : List A). Contains l item) (take_more items i d small) among)) [
        | inl low ↦ before item low
        | inr same ↦ subst Q same here
      ]

  pub before_all : (i : ℕ) → length items ≤ i → EachBefore items Q i → (item : A) → Contains items item → Q item
  before_all i whole each =
      subst (λ (l : List A). (item : A) → Contains l item → Q item) (take_all items i whole) each
