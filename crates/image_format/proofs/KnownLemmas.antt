-- Questions on lists that have an answer.
use Rattle.std.proofs.Common.{◌≡◌, ◌⊎◌, inl, inr, ℕ, zero, suc, ◌<◌, Bool, true, false, List, [], ◌∷◌, ◌++◌, length}
use Rattle.std.proofs.Common.{refl}
use Rattle.std.proofs.Common.{sym, ap, subst, arith}
use Rattle.std.specs.List.{Contains}
use Rattle.hierarchy.proofs.AscentsOrderLemmas.{none_in_empty, in_front, in_rest, cons_cases}
use Rattle.image_format.specs.Values.{ImageValue}
use Rattle.image_format.specs.Values as values

-- it holds or it does not
abbrev pub Known : Type 0 → Type 0
Known P = P ⊎ (P → ⊥)

pub both_known : {P Q : Type 0} → Known P → Known Q → Known (P × Q)
both_known (inl p) (inl q) = inl (p, q)
both_known (inl p) (inr never) = inr (λ h. never h.1)
both_known (inr never) q = inr (λ h. never h.0)

pub one_known : {P Q : Type 0} → Known P → Known Q → Known (P ⊎ Q)
one_known (inl p) q = inl (inl p)
one_known (inr never) (inl q) = inl (inr q)
one_known (inr never) (inr none) = inr (λ h. elim h [ inl p ↦ never p | inr q ↦ none q ])

pub same_number : (a b : ℕ) → Known (a ≡ b)
same_number zero zero = inl refl
same_number zero (suc b) = inr (λ e. omega (arith, e))
same_number (suc a) zero = inr (λ e. omega (arith, e))
same_number (suc a) (suc b) = elim (same_number a b) [
  | inl e ↦ inl (omega (arith, e))
  | inr never ↦ inr (λ e. never (omega (arith, e)))
]

-- an object by its class and number
abbrev pub Name : Type 0
Name = ℕ × ℕ

abbrev pub name : ℕ → ℕ → Name
name c n = (c, n)

pub name_is : (a b c d : ℕ) → a ≡ c → b ≡ d → name a b ≡ name c d
name_is a b c d p q = λ i. (p i, q i)

pub same_name : (x y : Name) → Known (x ≡ y)
same_name (a, b) (c, d) = elim (both_known (same_number a c) (same_number b d)) [
  | inl both ↦ inl (name_is a b c d both.0 both.1)
  | inr never ↦ inr (λ e. never (ap (λ (z : Name). z.0) e, ap (λ (z : Name). z.1) e))
]

-- one of a list is such
pub record Some_is {X : Type 0} (P : X → Type 0) (xs : List X) : Type 0 where
  pub one : X
  pub is_in : Contains xs one
  pub is : P one

pub some_known : {X : Type 0} (P : X → Type 0) → ((x : X) → Known (P x)) → (xs : List X) → Known (Some_is P xs)
some_known P known [] = inr (λ h. none_in_empty h.one h.is_in)
some_known {X} P known (x ∷ xs) = elim (known x) [
  | inl is ↦ inl (record { one = x; is_in = in_front x xs; is = is })
  | inr never ↦ elim (some_known P known xs) [
    | inl some ↦ inl (record { one = some.one; is_in = in_rest x xs some.one some.is_in; is = some.is })
    | inr none ↦ inr (λ h. elim (cons_cases x xs h.one h.is_in) [
      | inl same ↦ never (let Q : X → Type 0 = λ z. P z in
          subst Q (sym same) h.is)
      | inr more ↦ none (record { one = h.one; is_in = more; is = h.is })
    ])
  ]
]

-- ---- values that name an object

pub named_known : (v : ImageValue) (c n : ℕ) → Known (v ≡ values.Object c n)
named_known values.Null c n = inr (λ e. cc)
named_known (values.Int k) c n = inr (λ e. cc)
named_known (values.Long k) c n = inr (λ e. cc)
named_known (values.Text units) c n = inr (λ e. cc)
named_known values.Out c n = inr (λ e. cc)
named_known (values.Object a b) c n = elim (both_known (same_number a c) (same_number b n)) [
  | inl both ↦ inl (λ i. values.Object (both.0 i) (both.1 i))
  | inr never ↦ inr (λ e. never (cc, cc))
]

pub contains_known : (vs : List ImageValue) (c n : ℕ) → Known (Contains vs (values.Object c n))
contains_known [] c n = inr (λ h. none_in_empty (values.Object c n) h)
contains_known (v ∷ vs) c n = elim (named_known v c n) [
  | inl same ↦ inl (let Q : ImageValue → Type 0 = λ z. Contains (v ∷ vs) z in subst Q same (in_front v vs))
  | inr never ↦ elim (contains_known vs c n) [
    | inl more ↦ inl (in_rest v vs (values.Object c n) more)
    | inr none ↦ inr (λ h. elim (cons_cases v vs (values.Object c n) h) [
      | inl same ↦ never same
      | inr more ↦ none more
    ])
  ]
]

-- the names in values
abbrev pub name_in : ImageValue → List Name
name_in (values.Object c n) = (c, n) ∷ []
name_in _ = []

abbrev pub names_in : List ImageValue → List Name
names_in [] = []
names_in (v ∷ vs) = name_in v ++ names_in vs
