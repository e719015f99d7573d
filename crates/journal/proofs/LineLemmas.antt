-- Lines of journals, cut at a space and at byte 0A.
use Rattle.std.proofs.Common.{◌≡◌, ◌≢◌, ℕ, ◌<◌, ◌^◌, ◌++◌, List, [], ◌∷◌, length, refl, sym}
use Rattle.std.proofs.Common.{ap, ◌∙◌, arith, append_assoc, length-append}
use Rattle.std.specs.List.{All}
use Rattle.std.specs.Fmt.{decimal}
use Rattle.std.specs.Str.Parse.{AllDigits, digits_value}
use Rattle.std.proofs.lemmas.Fmt.{decimal_injective, digits_decimal}
use Rattle.std.proofs.lemmas.List.Elements.{All-from_get_or, All-head, All-tail}
use Rattle.std.proofs.lemmas.Str.Parse.{IsNumeralModel, numerals_by_value, tells_digits, digit_at}
use Rattle.journal.specs.Journals.{line_of, IsRun}

own : IsNumeralModel (AllDigits 10) (digits_value 10)
own = numerals_by_value _ tells_digits

heads : (x y : ℕ) (xs ys : List ℕ) → x ∷ xs ≡ y ∷ ys → x ≡ y
heads x y xs ys e = cc

tails : (x y : ℕ) (xs ys : List ℕ) → x ∷ xs ≡ y ∷ ys → xs ≡ ys
tails x y xs ys e = cc

-- a list is cut at its first such element in one way
pub one_cut : (m : ℕ) (a b c d : List ℕ) → All (λ x. x ≢ m) a → All (λ x. x ≢ m) c → a ++ m ∷ b ≡ c ++ m ∷ d
    → (a ≡ c) × (b ≡ d)
one_cut m [] b [] d p q e = (refl, tails m m b d e)
one_cut m [] b (y ∷ c) d p q e = absurd (All-head (λ z. z ≢ m) y c q (sym (heads m y b (c ++ m ∷ d) e)))
one_cut m (x ∷ a) b [] d p q e = absurd (All-head (λ z. z ≢ m) x a p (heads x m (a ++ m ∷ b) d e))
one_cut m (x ∷ a) b (y ∷ c) d p q e =
    let r = one_cut m a b c d (All-tail (λ z. z ≢ m) x a p) (All-tail (λ z. z ≢ m) y c q)
    (tails x y (a ++ m ∷ b) (c ++ m ∷ d) e) in
    let h = heads x y (a ++ m ∷ b) (c ++ m ∷ d) e in
    (ap (λ z. z ∷ a) h ∙ ap (λ r. y ∷ r) r.0, r.1)

-- it is cut if there is one
pub no_cut : (m : ℕ) (a c d : List ℕ) → All (λ x. x ≢ m) a → a ≢ c ++ m ∷ d
no_cut m [] [] d p e = absurd (omega (arith, ap length e))
no_cut m [] (y ∷ c) d p e = absurd (omega (arith, ap length e))
no_cut m (x ∷ a) [] d p e = All-head (λ z. z ≢ m) x a p (heads x m a d e)
no_cut m (x ∷ a) (y ∷ c) d p e = no_cut m a c d (All-tail (λ z. z ≢ m) x a p) (tails x y a (c ++ m ∷ d) e)

-- a number has digits alone
pub digits_only : (m n : ℕ) → n < 2 ^ 64 → m < 48 → All (λ x. x ≢ m) (decimal n)
digits_only m n small is =
    All-from_get_or (λ x. x ≢ m) (decimal n) 0 (λ i within.
    let d = digit_at (decimal n) i (digits_decimal own n small) within in omega (arith, d.0, is))

line_then : (r : ℕ × ℕ) (tail : List ℕ) → line_of r ++ tail ≡ decimal r.0 ++ 32 ∷ (decimal r.1 ++ 10 ∷ tail)
line_then r tail =
    let e : (decimal r.1 ++ 10 ∷ []) ++ tail ≡ decimal r.1 ++ 10 ∷ tail = append_assoc (decimal r.1) (10 ∷ []) tail in
    let f : (decimal r.0 ++ 32 ∷ (decimal r.1 ++ 10 ∷ [])) ++ tail ≡ decimal r.0
    ++ 32 ∷ ((decimal r.1 ++ 10 ∷ []) ++ tail) =
    append_assoc (decimal r.0) (32 ∷ (decimal r.1 ++ 10 ∷ [])) tail in
    f ∙ ap (λ xs. decimal r.0 ++ 32 ∷ xs) e

small : (r : ℕ × ℕ) → IsRun r → r.0 < 2 ^ 64
small r is = omega (arith, is.0)

-- where a text begins with a line, these are its parts
pub first_part : (text a b : List ℕ) (r : ℕ × ℕ) (tail : List ℕ) → text ≡ a ++ 32 ∷ b → All (λ x. x ≢ 32) a → IsRun r
    → text ≡ line_of r ++ tail → (a ≡ decimal r.0) × (b ≡ decimal r.1 ++ 10 ∷ tail)
first_part text a b r tail e p is h =
    one_cut 32 a b (decimal r.0) (decimal r.1 ++ 10 ∷ tail) p (digits_only 32 r.0 (small r is) (omega arith))
    (sym e ∙ (h ∙ line_then r tail))

pub second_part : (b c d : List ℕ) (r : ℕ × ℕ) (tail : List ℕ) → b ≡ c ++ 10 ∷ d → All (λ x. x ≢ 10) c → IsRun r
    → b ≡ decimal r.1 ++ 10 ∷ tail → c ≡ decimal r.1
second_part b c d r tail e p is h =
    (one_cut 10 c d (decimal r.1) tail p (digits_only 10 r.1 is.2 (omega arith)) (sym e ∙ h)).0

pub no_space : (text : List ℕ) → All (λ x. x ≢ 32) text → (r : ℕ × ℕ) (tail : List ℕ) → IsRun r
    → text ≢ line_of r ++ tail
no_space text p r tail is h = no_cut 32 text (decimal r.0) (decimal r.1 ++ 10 ∷ tail) p (h ∙ line_then r tail)

pub no_end : (text a b : List ℕ) → text ≡ a ++ 32 ∷ b → All (λ x. x ≢ 32) a → All (λ x. x ≢ 10) b
    → (r : ℕ × ℕ) (tail : List ℕ) → IsRun r → text ≢ line_of r ++ tail
no_end text a b e p q r tail is h = no_cut 10 b (decimal r.1) tail q (first_part text a b r tail e p is h).1

-- a text whose parts are no run begins with no line
pub no_run : (text a b c d : List ℕ) → text ≡ a ++ 32 ∷ b → All (λ x. x ≢ 32) a → b ≡ c ++ 10 ∷ d → All (λ x. x ≢ 10) c
    → ((r : ℕ × ℕ) → IsRun r → a ≡ decimal r.0 → c ≢ decimal r.1) → (r : ℕ × ℕ) (tail : List ℕ) → IsRun r
    → text ≢ line_of r ++ tail
no_run text a b c d e p f q none r tail is h =
    let first = first_part text a b r tail e p is h in
    none r is first.0 (second_part b c d r tail f q is first.1)

-- numbers that are no run's
pub no_numbers : (a b : List ℕ) (m n : ℕ) → m < 2 ^ 64 → n < 2 ^ 64 → a ≡ decimal m → b ≡ decimal n
    → (m < 2 ^ 32 → ¬ (0 < n)) → (r : ℕ × ℕ) → IsRun r → a ≡ decimal r.0 → b ≢ decimal r.1
no_numbers a b m n p q e f none r is g h =
    let t : r.0 ≡ m = decimal_injective r.0 m (small r is) p (sym g ∙ e) in
    let k : r.1 ≡ n = decimal_injective r.1 n is.2 q (sym h ∙ f) in
    none (omega (arith, is.0, t)) (omega (arith, is.1, k))

-- a line has a byte
pub some_bytes : (r : ℕ × ℕ) → 0 < length (line_of r)
some_bytes r =
    omega (arith, length-append (decimal r.0) (32 ∷ (decimal r.1 ++ 10 ∷ [])))

-- a text begins with one line
pub same_run : (r s : ℕ × ℕ) (tail end : List ℕ) → IsRun r → IsRun s → line_of r ++ tail ≡ line_of s ++ end
    → (r.0 ≡ s.0) × (r.1 ≡ s.1)
same_run r s tail end p q e =
    let first = first_part (line_of r ++ tail) (decimal r.0) (decimal r.1 ++ 10 ∷ tail) s end (line_then r tail)
    (digits_only 32 r.0 (small r p) (omega arith)) q e in
    let second = second_part (decimal r.1 ++ 10 ∷ tail) (decimal r.1) tail s end refl
    (digits_only 10 r.1 p.2 (omega arith)) q first.1 in
    (decimal_injective r.0 s.0 (small r p) (small s q) first.0, decimal_injective r.1 s.1 p.2 q.2 second)
