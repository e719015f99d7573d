-- Numbers in decimal, read.
use Rattle.std.proofs.Common.{zero, suc, ◌≡◌, ◌≢◌, ℕ, ◌<◌, ◌≤◌, ◌^◌, List, [], ◌∷◌, length, get_or, refl, sym, ap}
use Rattle.std.proofs.Common.{subst, ◌∙◌, arith, Ok, Err, rules}
use Rattle.std.specs.declared.result.Result.{Result}
use Rattle.std.specs.Fmt.{decimal}
use Rattle.std.specs.Str.{IsUtf8}
use Rattle.std.specs.Str.Parse.{ParsesUnsigned, AllDigits, digits_value}
use Rattle.std.proofs.lemmas.Fmt.{decimal-digits_value, decimal_nonempty, first_decimal, decimal_digit, parse-decimal}
use Rattle.std.proofs.lemmas.Fmt.{IsAscii-decimal, digits_decimal}
use Rattle.std.proofs.lemmas.Str.{IsUtf8-from_ascii}
use Rattle.std.proofs.lemmas.Str.Parse.{IsNumeralModel, numerals_by_value, tells_digits, digit_at, parse_plain}
use Rattle.journal.specs.steps.Numbers.{StartsPlainly}

own : IsNumeralModel (AllDigits 10) (digits_value 10)
own = numerals_by_value _ tells_digits

zero_of : (n : ℕ) → n < 2 ^ 64 → get_or (decimal n) 0 0 ≡ 48 → n ≡ 0
zero_of zero small z = refl
zero_of (suc n) small z = absurd (omega (arith, first_decimal (suc n) (omega arith) small, z))

plain : (n : ℕ) → n < 2 ^ 64 → StartsPlainly (decimal n)
plain n small =
    let some : 0 < length (decimal n) = decimal_nonempty n small in
    let first = digit_at (decimal n) 0 (digits_decimal own n small) some in
    record {
      some = some;
      unsigned = omega (arith, first.0);
      zero = λ z. ap (λ k. length (decimal k)) (zero_of n small z) ∙ ap length (decimal_digit 0 (omega arith));
    }

pub not_plain : (bs : List ℕ) → ¬ StartsPlainly bs → (n : ℕ) → n < 2 ^ 64 → bs ≢ decimal n
not_plain bs h n small e = h (subst StartsPlainly (sym e) (plain n small))

pub number_read : (bs : List ℕ) (n : ℕ) → StartsPlainly bs → ParsesUnsigned {E = Unit {0}} 64 10 bs (Ok n)
    → bs ≡ decimal n
number_read bs n h parsed =
    let got = parse_plain own {E = Unit {0}} 64 bs (Ok n) parsed h.unsigned in
    sym (decimal-digits_value own bs got.0.0 h.some h.zero got.0.2) ∙ ap decimal (sym got.1)

not_ok : (e : Unit {0}) (n : ℕ) → Result.Err e ≡ Result.Ok n → ⊥
not_ok e n h = cc

pub number_unread : (bs : List ℕ) → ParsesUnsigned {E = Unit {0}} 64 10 bs (Err tt) → (n : ℕ) → n < 2 ^ 64
    → bs ≢ decimal n
number_unread bs parsed n small is = not_ok tt n (parse-decimal 64 n bs (Err tt) small small is parsed)

pub not_utf8 : (bs : List ℕ) → ¬ IsUtf8 bs → (n : ℕ) → n < 2 ^ 64 → bs ≢ decimal n
not_utf8 bs h n small is = h (subst IsUtf8 (sym is) (IsUtf8-from_ascii (decimal n) (IsAscii-decimal n small)))
