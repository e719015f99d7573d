-- Bits of words, and what they tell of a declaration.
use Rattle.std.proofs.Common.{◌≡◌, ◌≢◌, ◌↔◌, ◌⊎◌, ℕ, ◌<◌, ◌*◌, ◌%◌, ◌^◌, inl, inr, sym, ◌∙◌, subst, arith, w64, bit_and}
use Rattle.std.specs.Prelude.{bit_or}
use Rattle.std.specs.Int.{bit_at, bit_not, trailing_zeros}
use Rattle.std.proofs.lemmas.Bool.{cases_eq}
use Rattle.std.proofs.lemmas.Nat.Bits.{bit_at_or, bit_at_and, bit_at_not, bit_at-zero, bit_at-lt, bit_at_set_same}
use Rattle.std.proofs.lemmas.Nat.Bits.{bit_at_set_other, bit_at-trailing_zeros}
use Rattle.hierarchy.specs.steps.DeclarationBits.{Has}

-- a bit is set or not
pub set_or_not : (a n : ℕ) → Has a n ⊎ (¬ Has a n)
set_or_not a n = cases_eq (bit_at a n) 1

pub either : (a b n : ℕ) → Has (bit_or a b) n → Has a n ⊎ Has b n
either a b n has = elim (set_or_not a n) [
  | inl set ↦ inl set
  | inr not ↦ inr (omega (arith, bit_at_or a b n, has, not, bit_at-lt a n, bit_at-lt b n))
]

pub either_left : (a b n : ℕ) → Has a n → Has (bit_or a b) n
either_left a b n has = omega (arith, bit_at_or a b n, has, bit_at-lt b n)

pub either_right : (a b n : ℕ) → Has b n → Has (bit_or a b) n
either_right a b n has = omega (arith, bit_at_or a b n, has, bit_at-lt a n)

pub both : (a b n : ℕ) → Has (bit_and a b) n ↔ (Has a n × Has b n)
both a b n = (
  λ has. (
    omega (arith, bit_at_and a b n, has, bit_at-lt a n, bit_at-lt b n),
    omega (arith, bit_at_and a b n, has, bit_at-lt a n, bit_at-lt b n),
  ),
  λ has. omega (arith, bit_at_and a b n, has.0, has.1),
)

pub without : (a b n : ℕ) → b < 2 ^ 64 → n < 64 → Has (bit_and a (bit_not w64 b)) n ↔ (Has a n × (¬ Has b n))
without a b n fits small = (
  λ has.
      let parts = (both a (bit_not w64 b) n).0 has in
      (parts.0, λ set. omega (arith, parts.1, set, bit_at_not w64 b n fits small)),
  λ has. (both a (bit_not w64 b) n).1
      (has.0, omega (arith, bit_at_not w64 b n fits small, has.1, bit_at-lt b n)),
)

pub no_bit : (n : ℕ) → ¬ Has 0 n
no_bit n has = omega (arith, has, bit_at-zero n)

pub one_more_bit : (a b : ℕ) → b < 64 → (n : ℕ) → Has (bit_or a (1 * 2 ^ b % 2 ^ 64)) n ↔ (Has a n ⊎ (n ≡ b))
one_more_bit a b small n = elim (cases_eq n b) [
  | inl same ↦ (
    λ has. inr same,
    λ has. subst (λ (m : ℕ). Has (bit_or a (1 * 2 ^ b % 2 ^ 64)) m) (sym same) (bit_at_set_same w64 a b small),
  )
  | inr other ↦ (
    λ has. inl (sym (bit_at_set_other w64 a b small n other) ∙ has),
    λ has. elim has [
      | inl set ↦ bit_at_set_other w64 a b small n other ∙ set
      | inr same ↦ absurd (other same)
    ],
  )
]

-- a word that is not 0 has a bit, and that is the first one
pub first_bit : (a : ℕ) → a ≢ 0 → a < 2 ^ 64 → (trailing_zeros w64 a < 64) × Has a (trailing_zeros w64 a)
first_bit a some fits =
    let low = bit_at-trailing_zeros w64 a (omega (arith, some)) fits in (low.0, low.1)
