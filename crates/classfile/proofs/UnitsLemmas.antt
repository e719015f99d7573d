-- The test on modified UTF-8 takes the spellings of units, and nothing else.
use Rattle.std.proofs.Common.{◌≡◌, ℕ, zero, suc, ◌+◌, ◌-◌, ◌*◌, ◌/◌, ◌%◌, ◌≤◌, ◌<◌, ◌^◌, ◌⊎◌, true, false, ◌&&◌, ◌||◌}
use Rattle.std.proofs.Common.{cond, eqb, ltb, List, [], ◌∷◌, ◌++◌, refl, sym, ap, ◌∙◌, arith, inl, inr}
use Rattle.std.specs.List.{All}
use Rattle.std.proofs.lemmas.Bool.{eqb-true, ne_eqb, ltb-true, lt-ltb, le-ltb, cases_lt}
use Rattle.std.proofs.lemmas.Bool.{and_parts, or_cases, and_right, or_right}
use Rattle.std.proofs.lemmas.List.Elements.{All-nil, All-cons, All-head, All-tail}
use Rattle.classfile.specs.reading.Modified.{between, is_one, is_two, is_three, is_modified}
use Rattle.classfile.specs.Units.{unit_text, units_text, IsModifiedUtf8}
use Rattle.classfile.proofs.RuleLawful.{append_equal}
use Rattle.classfile.proofs.BoolLemmas.{cond_cases}

-- ---- what the tests mean

pub between_is : (a b c : ℕ) → between a b c ≡ true → (a ≤ b) × (b < c)
between_is a b c e =
    let h = and_parts (ltb a (b + 1)) (ltb b c) e in
    let low : a < b + 1 = ltb-true a (b + 1) h.0 in
    (omega arith, ltb-true b c h.1)

is_between : (a b c : ℕ) → a ≤ b → b < c → between a b c ≡ true
is_between a b c low high =
    let l : ltb a (b + 1) ≡ true = lt-ltb a (b + 1) (omega arith) in
    let h : ltb b c ≡ true = lt-ltb b c high in
    rw (l, h) refl

pub not_between : (a b c : ℕ) → (b < a) ⊎ (c ≤ b) → between a b c ≡ false
not_between a b c (inl low) = let l : ltb a (b + 1) ≡ false = le-ltb a (b + 1) (omega arith) in rw l refl
not_between a b c (inr high) = let h : ltb b c ≡ false = le-ltb b c high in and_right (ltb a (b + 1)) (ltb b c) h

-- ---- spellings by their length

pub one_text : (u : ℕ) → 0 < u → u < 128 → unit_text u ≡ u ∷ []
one_text u low high =
    let l : ltb 0 u ≡ true = lt-ltb 0 u low in
    let h : ltb u 128 ≡ true = lt-ltb u 128 high in
    rw (l, h) refl

pub two_text : (u : ℕ) → 128 ≤ u → u < 2048 → unit_text u ≡ (192 + u / 64) ∷ (128 + u % 64) ∷ []
two_text u low high =
    let l : (ltb 0 u && ltb u 128) ≡ false = and_right (ltb 0 u) (ltb u 128) (le-ltb u 128 low) in
    let h : ltb u 2048 ≡ true = lt-ltb u 2048 high in
    rw (l, h) refl

pub three_text : (u : ℕ) → 2048 ≤ u → unit_text u ≡ (224 + u / 4096) ∷ (128 + u / 64 % 64) ∷ (128 + u % 64) ∷ []
three_text u low =
    let l : (ltb 0 u && ltb u 128) ≡ false = and_right (ltb 0 u) (ltb u 128) (le-ltb u 128 (omega arith)) in
    let h : ltb u 2048 ≡ false = le-ltb u 2048 low in
    rw (l, h) refl

-- ---- bytes that pass are spellings

record IsUnit (front : List ℕ) : Type 0 where
  unit : ℕ
  fits : unit < 2 ^ 16
  spelled : front ≡ unit_text unit

pub pair_is : (a b c d : ℕ) → a ≡ c → b ≡ d → a ∷ b ∷ [] ≡ c ∷ d ∷ []
pair_is a b c d p q = rw (p, q) refl

pub triple_is : (a b c d e f : ℕ) → a ≡ d → b ≡ e → c ≡ f → a ∷ b ∷ c ∷ [] ≡ d ∷ e ∷ f ∷ []
triple_is a b c d e f p q r = rw (p, q, r) refl

one_is : (a : ℕ) → is_one a ≡ true → IsUnit (a ∷ [])
unfolding is_one
one_is a e = let h = between_is 1 a 128 e in
    record { unit = a; fits = omega (arith, h.1); spelled = sym (one_text a h.0 h.1) }

two_is : (a b : ℕ) → is_two a b ≡ true → IsUnit (a ∷ b ∷ [])
unfolding is_two
two_is a b e =
    let h = and_parts (between 128 b 192) (between 194 a 224 || (eqb a 192 && eqb b 128)) e in
    let second = between_is 128 b 192 h.0 in
    elim (or_cases (between 194 a 224) (eqb a 192 && eqb b 128) h.1) [
      | inl wide ↦
          let first = between_is 194 a 224 wide in
          let u : ℕ = (a - 192) * 64 + (b - 128) in
          let low : 128 ≤ (a - 192) * 64 + (b - 128) = omega (arith, first.0, second.0) in
          let high : (a - 192) * 64 + (b - 128) < 2048 = omega (arith, first.0, first.1, second.0, second.1) in
          let a-is : a ≡ 192 + ((a - 192) * 64 + (b - 128)) / 64 =
          omega (arith, first.0, first.1, second.0, second.1) in
          let b-is : b ≡ 128 + ((a - 192) * 64 + (b - 128)) % 64 =
          omega (arith, first.0, first.1, second.0, second.1) in
          record {
            unit = (a - 192) * 64 + (b - 128);
            fits = omega arith;
            spelled = pair_is a b _ _ a-is b-is
                ∙ sym (two_text ((a - 192) * 64 + (b - 128)) low high);
          }
      | inr null ↦
          let n = and_parts (eqb a 192) (eqb b 128) null in
          record {
            unit = 0;
            fits = omega arith;
            spelled = pair_is a b 192 128 (eqb-true a 192 n.0)
                (eqb-true b 128 n.1);
          }
    ]

three_by : (a b c : ℕ) → 224 ≤ a → a < 240 → 128 ≤ b → b < 192 → 128 ≤ c → c < 192 → (224 < a) ⊎ (159 < b)
    → IsUnit (a ∷ b ∷ c ∷ [])
three_by a b c a-low a-high b-low b-high c-low c-high big =
    let u : ℕ = (a - 224) * 4096 + ((b - 128) * 64 + (c - 128)) in
    let low : 2048 ≤ (a - 224) * 4096 + ((b - 128) * 64 + (c - 128)) =
    elim big [ inl x ↦ omega arith | inr x ↦ omega arith ] in
    let a-is : a ≡ 224 + ((a - 224) * 4096 + ((b - 128) * 64 + (c - 128))) / 4096 = omega arith in
    let b-is : b ≡ 128 + ((a - 224) * 4096 + ((b - 128) * 64 + (c - 128))) / 64 % 64 = omega arith in
    let c-is : c ≡ 128 + ((a - 224) * 4096 + ((b - 128) * 64 + (c - 128))) % 64 = omega arith in
    record {
      unit = (a - 224) * 4096 + ((b - 128) * 64 + (c - 128));
      fits = omega arith;
      spelled =
          triple_is a b c _ _ _ a-is b-is c-is ∙ sym (three_text ((a - 224) * 4096 + ((b - 128) * 64 + (c - 128))) low);
    }

three_is : (a b c : ℕ) → is_three a b c ≡ true → IsUnit (a ∷ b ∷ c ∷ [])
unfolding is_three
three_is a b c e =
    let h = and_parts (between 224 a 240 && between 128 b 192 && between 128 c 192) (ltb 224 a || ltb 159 b) e in
    let g = and_parts (between 224 a 240 && between 128 b 192) (between 128 c 192) h.0 in
    let f = and_parts (between 224 a 240) (between 128 b 192) g.0 in
    let first = between_is 224 a 240 f.0 in
    let second = between_is 128 b 192 f.1 in
    let third = between_is 128 c 192 g.1 in
    let big : (224 < a) ⊎ (159 < b) =
    elim (or_cases (ltb 224 a) (ltb 159 b) h.1) [
      | inl x ↦ inl (ltb-true 224 a x)
      | inr x ↦ inr (ltb-true 159 b x)
    ] in
    three_by a b c first.0 first.1 second.0 second.1 third.0 third.1 big

no_units : IsModifiedUtf8 []
no_units = record { units = []; each = All-nil (λ unit. unit < 2 ^ 16); spelled = refl }

unit_then : (front rest : List ℕ) → IsUnit front → IsModifiedUtf8 rest → IsModifiedUtf8 (front ++ rest)
unit_then front rest one others = record {
  units = one.unit ∷ others.units;
  each = All-cons (λ unit. unit < 2 ^ 16) one.unit others.units one.fits others.each;
  spelled = append_equal front (unit_text one.unit) rest (units_text others.units) one.spelled others.spelled;
}

pub modified_is : (text : List ℕ) → is_modified text ≡ true → IsModifiedUtf8 text
unfolding is_modified
modified_is [] e = no_units
modified_is (a ∷ []) e = unit_then (a ∷ []) [] (one_is a e) no_units
modified_is (a ∷ b ∷ []) e =
    elim (cond_cases (is_one a) (is_modified (b ∷ [])) (is_two a b) true e) [
      | inl one ↦ unit_then (a ∷ []) (b ∷ []) (one_is a one.0) (modified_is (b ∷ []) one.1)
      | inr two ↦ unit_then (a ∷ b ∷ []) [] (two_is a b two.1) no_units
    ]
modified_is (a ∷ b ∷ c ∷ rest) e =
    elim (cond_cases (is_one a) (is_modified (b ∷ c ∷ rest))
    (cond (is_two a b) (is_modified (c ∷ rest)) (cond (is_three a b c) (is_modified rest) false)) true e) [
      | inl one ↦ unit_then (a ∷ []) (b ∷ c ∷ rest) (one_is a one.0) (modified_is (b ∷ c ∷ rest) one.1)
      | inr more ↦ elim (cond_cases (is_two a b) (is_modified (c ∷ rest))
          (cond (is_three a b c) (is_modified rest) false) true more.1) [
            | inl two ↦ unit_then (a ∷ b ∷ []) (c ∷ rest) (two_is a b two.0) (modified_is (c ∷ rest) two.1)
            | inr other ↦ elim (cond_cases (is_three a b c) (is_modified rest) false true other.1) [
              | inl three ↦ unit_then (a ∷ b ∷ c ∷ []) rest (three_is a b c three.0) (modified_is rest three.1)
              | inr none ↦ absurd cc
            ]
          ]
    ]

-- ---- spellings pass

after_one : (a : ℕ) (rest : List ℕ) → is_one a ≡ true → is_modified (a ∷ rest) ≡ is_modified rest
unfolding is_modified
after_one a [] e = e
after_one a (b ∷ []) e = rw e refl
after_one a (b ∷ c ∷ rest) e = rw e refl

after_two : (a b : ℕ) (rest : List ℕ) → is_one a ≡ false → is_two a b ≡ true
    → is_modified (a ∷ b ∷ rest) ≡ is_modified rest
unfolding is_modified
after_two a b [] one two = rw (one, two) refl
after_two a b (c ∷ rest) one two = rw (one, two) refl

after_three : (a b c : ℕ) (rest : List ℕ) → is_one a ≡ false → is_two a b ≡ false → is_three a b c ≡ true
    → is_modified (a ∷ b ∷ c ∷ rest) ≡ is_modified rest
unfolding is_modified
after_three a b c rest one two three = rw (one, two, three) refl

two_wide : (a b : ℕ) → 194 ≤ a → a < 224 → 128 ≤ b → b < 192 → is_two a b ≡ true
unfolding is_two
two_wide a b a-low a-high b-low b-high =
    let first = is_between 194 a 224 a-low a-high in
    let second = is_between 128 b 192 b-low b-high in
    rw (second, first) refl

pub not_one : (a : ℕ) → 128 ≤ a → is_one a ≡ false
unfolding is_one
not_one a low = not_between 1 a 128 (inr low)

pub not_two : (a b : ℕ) → 224 ≤ a → is_two a b ≡ false
unfolding is_two
not_two a b low =
    let wide = not_between 194 a 224 (inr low) in
    let null : eqb a 192 ≡ false = ne_eqb a 192 (λ e. omega arith) in
    and_right (between 128 b 192) (between 194 a 224 || (eqb a 192 && eqb b 128)) (rw (wide, null) refl)

large : (a b : ℕ) → (224 < a) ⊎ (159 < b) → (ltb 224 a || ltb 159 b) ≡ true
large a b (inl x) = let t : ltb 224 a ≡ true = lt-ltb 224 a x in rw t refl
large a b (inr x) = let t : ltb 159 b ≡ true = lt-ltb 159 b x in or_right (ltb 224 a) (ltb 159 b) t

three_wide : (a b c : ℕ) → 224 ≤ a → a < 240 → 128 ≤ b → b < 192 → 128 ≤ c → c < 192 → (224 < a) ⊎ (159 < b)
    → is_three a b c ≡ true
unfolding is_three
three_wide a b c a-low a-high b-low b-high c-low c-high big =
    let first = is_between 224 a 240 a-low a-high in
    let second = is_between 128 b 192 b-low b-high in
    let third = is_between 128 c 192 c-low c-high in
    rw (first, second, third) (large a b big)

big_three : (u : ℕ) → 2048 ≤ u → u < 2 ^ 16 → (224 < 224 + u / 4096) ⊎ (159 < 128 + u / 64 % 64)
big_three u low high = elim (cases_lt u 4096) [ inl small ↦ inr (omega arith) | inr wide ↦ inl (omega arith) ]

ascii_passes : (u : ℕ) (rest : List ℕ) → u < 128 → is_modified (unit_text u ++ rest) ≡ is_modified rest
unfolding is_one is_two
ascii_passes zero rest ascii = after_two 192 128 rest refl refl
ascii_passes (suc n) rest ascii =
    let text = one_text (suc n) (omega arith) ascii in
    ap (λ (z : List ℕ). is_modified (z ++ rest)) text
    ∙ after_one (suc n) rest (is_between 1 (suc n) 128 (omega arith) ascii)

unit_passes : (u : ℕ) (rest : List ℕ) → u < 2 ^ 16 → is_modified (unit_text u ++ rest) ≡ is_modified rest
unit_passes u rest fits =
    elim (cases_lt u 2048) [
      | inl small ↦ elim (cases_lt u 128) [
        | inl ascii ↦ ascii_passes u rest ascii
        | inr wide ↦
            let text = two_text u wide small in
            ap (λ (z : List ℕ). is_modified (z ++ rest)) text
            ∙ after_two (192 + u / 64) (128 + u % 64) rest (not_one (192 + u / 64) (omega arith))
            (two_wide (192 + u / 64) (128 + u % 64) (omega arith) (omega arith) (omega arith) (omega arith))
      ]
      | inr large' ↦
          let text = three_text u large' in
          let big : (224 < 224 + u / 4096) ⊎ (159 < 128 + u / 64 % 64) = big_three u large' fits in
          ap (λ (z : List ℕ). is_modified (z ++ rest)) text
          ∙ after_three (224 + u / 4096) (128 + u / 64 % 64) (128 + u % 64) rest
          (not_one (224 + u / 4096) (omega arith)) (not_two (224 + u / 4096) (128 + u / 64 % 64) (omega arith))
          (three_wide (224 + u / 4096) (128 + u / 64 % 64) (128 + u % 64) (omega arith) (omega arith) (omega arith)
          (omega arith) (omega arith) (omega arith) big)
    ]

pub units_pass : (units : List ℕ) → All (λ unit. unit < 2 ^ 16) units → is_modified (units_text units) ≡ true
unfolding is_modified
units_pass [] each = refl
units_pass (u ∷ units) each = unit_passes u (units_text units) (All-head (λ unit. unit < 2 ^ 16) u units each)
    ∙ units_pass units (All-tail (λ unit. unit < 2 ^ 16) u units each)

pub modified_passes : (text : List ℕ) → IsModifiedUtf8 text → is_modified text ≡ true
modified_passes text m = ap is_modified m.spelled ∙ units_pass m.units m.each
