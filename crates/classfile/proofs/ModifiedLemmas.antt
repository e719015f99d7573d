-- How the test on modified UTF-8 goes on after the unit that the bytes begin with.
use Rattle.std.proofs.Common.{◌≡◌, ℕ, ◌-◌, ◌≤◌, ◌<◌, true, false, ◌&&◌, List, [], ◌∷◌, length, get_or, take, drop, refl}
use Rattle.std.proofs.Common.{arith}
use Rattle.std.proofs.lemmas.List.{take_all, length-drop}
use Rattle.std.proofs.lemmas.Bool.{and_parts}
use Rattle.classfile.specs.reading.Modified.{is_one, is_two, is_three, all_one, is_modified}

pub all_after : (n : ℕ) (xs : List ℕ) → take (length xs - n) (drop n xs) ≡ drop n xs
all_after n xs = take_all (length xs - n) (drop n xs) (omega (arith, length-drop n xs))

pub is_shorter : (n : ℕ) (xs : List ℕ) → 0 < n → n ≤ length xs → length (take (length xs - n) (drop n xs)) < length xs
is_shorter n xs some fits = rw (all_after n xs) (omega (arith, length-drop n xs))

pub one_step : (xs : List ℕ) → 1 ≤ length xs → true ≡ is_one (get_or xs 0 0) → is_modified (drop 1 xs) ≡ is_modified xs
unfolding is_modified
one_step [] fits one = absurd (omega arith)
one_step (a ∷ []) fits one = one
one_step (a ∷ b ∷ []) fits one = rw (← one) refl
one_step (a ∷ b ∷ c ∷ rest) fits one = rw (← one) refl

pub two_step : (xs : List ℕ) → 2 ≤ length xs → false ≡ is_one (get_or xs 0 0)
    → true ≡ is_two (get_or xs 0 0) (get_or xs 1 0)
    → is_modified (drop 2 xs) ≡ is_modified xs
unfolding is_modified
two_step [] fits one two = absurd (omega arith)
two_step (a ∷ []) fits one two = absurd (omega arith)
two_step (a ∷ b ∷ []) fits one two = rw (← one, ← two) refl
two_step (a ∷ b ∷ c ∷ rest) fits one two = rw (← one, ← two) refl

pub three_step : (xs : List ℕ) → 3 ≤ length xs → false ≡ is_one (get_or xs 0 0)
    → false ≡ is_two (get_or xs 0 0) (get_or xs 1 0)
    → true ≡ is_three (get_or xs 0 0) (get_or xs 1 0) (get_or xs 2 0) → is_modified (drop 3 xs) ≡ is_modified xs
unfolding is_modified
three_step [] fits one two three = absurd (omega arith)
three_step (a ∷ []) fits one two three = absurd (omega arith)
three_step (a ∷ b ∷ []) fits one two three = absurd (omega arith)
three_step (a ∷ b ∷ c ∷ rest) fits one two three = rw (← one, ← two, ← three) refl

-- bytes that are each a unit by themselves are modified UTF-8
pub of_plain : (bytes : List ℕ) → all_one bytes ≡ true → is_modified bytes ≡ true
unfolding is_modified
of_plain [] e = refl
of_plain (a ∷ []) e = (and_parts (is_one a) true e).0
of_plain (a ∷ b ∷ []) e =
    let h = and_parts (is_one a) (is_one b && true) e in
    rw h.0 (and_parts (is_one b) true h.1).0
of_plain (a ∷ b ∷ c ∷ rest) e =
    let h = and_parts (is_one a) (is_one b && (is_one c && all_one rest)) e in
    rw h.0 (of_plain (b ∷ c ∷ rest) h.1)
