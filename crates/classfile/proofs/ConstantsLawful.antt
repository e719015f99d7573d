-- The constants are lawful.
use Rattle.std.proofs.Common.{◌≡◌, ℕ, zero, suc, ◌+◌, ◌-◌, ◌<◌, Bool, true, false, ◌&&◌, eqb, List, [], ◌∷◌, length, Ok}
use Rattle.std.proofs.Common.{refl, subst, ◌∙◌, arith}
use Rattle.std.proofs.lemmas.Bool.{eq-eqb, ne_eqb, and_right}
use Rattle.classfile.specs.declared.fault.ClassFault.TheVariants as faults
use Rattle.classfile.specs.declared.constant.Constant.{Constant}
use Rattle.classfile.specs.declared.constant.Constant.TheVariants as constants
use Rattle.classfile.specs.reading.Numbers.{◌>>=◌}
use Rattle.classfile.specs.Gives.{offset}
use Rattle.classfile.specs.Constants.{is_wide}
use Rattle.classfile.specs.reading.Constants.{tagged_at, constant_at, constants_from, constants_at}
use Rattle.classfile.specs.Spelling.{constant_text, AreConstants, constants_text}
use Rattle.classfile.specs.Faults.{TaggedFails, IsTagged, IsConstant, ConstantFails, ConstantsFailFrom, IsConstantsText}
use Rattle.classfile.specs.Faults.{ConstantsFail}
use Rattle.classfile.proofs.Lawful.{Lawful, Both, Mapped, Tested, Is, map_lawful, pure_lawful, restated, then_lawful}
use Rattle.classfile.proofs.Lawful.{tested_lawful}
use Rattle.classfile.proofs.ConstantLawful.{tagged_lawful}
use Rattle.classfile.proofs.BoolLemmas.{and_false_first}

constant_lawful : (after_wide is_last : Bool) (total index : ℕ)
    → Lawful (constant_at after_wide is_last total index) (IsConstant after_wide is_last)
    (ConstantFails after_wide is_last total index)
unfolding constant_at
constant_lawful true is_last total index = pure_lawful constants.Unusable
constant_lawful false is_last total index =
    restated {S = Tested (λ c. is_wide c && is_last) false IsTagged}
    (tested_lawful (tagged_at total index) IsTagged (TaggedFails total index) (λ c. is_wide c && is_last)
    (λ bytes. faults.Index (offset total bytes)) (tagged_lawful total index))
    (λ c text t. (t.spelled, t.passes))
    (λ c text t. record { spelled = t.0; passes = t.1 })

abbrev AreRead : ℕ → Bool → ℕ → ℕ → List Constant → List ℕ → Type 0
AreRead zero after_wide count index cs text = Is [] cs text
AreRead (suc n) after_wide count index cs text =
    Both (IsConstant after_wide (eqb (index + 1) count))
    (λ c. Mapped (λ others. c ∷ others) (AreRead n (is_wide c) count (index + 1))) cs text

constants_from_lawful : (n : ℕ) (after_wide : Bool) (total count index : ℕ)
    → Lawful (constants_from n after_wide total count index) (AreRead n after_wide count index)
    (ConstantsFailFrom n after_wide total count index)
unfolding constants_from
constants_from_lawful zero after_wide total count index = pure_lawful []
constants_from_lawful (suc n) after_wide total count index =
    then_lawful (constant_at after_wide (eqb (index + 1) count) total index)
    (λ bytes c. constants_from n (is_wide c.0) total count (index + 1) c.1 >>= λ others. Ok (c.0 ∷ others.0, others.1))
    (constant_lawful after_wide (eqb (index + 1) count) total index)
    (λ bytes c text s. map_lawful (λ others. c ∷ others) (constants_from n (is_wide c) total count (index + 1))
    (AreRead n (is_wide c) count (index + 1)) (ConstantsFailFrom n (is_wide c) total count (index + 1))
    (constants_from_lawful n (is_wide c) total count (index + 1)))

other_eqb : (m n : ℕ) → m < n → eqb m n ≡ false
other_eqb m n lt = ne_eqb m n (λ e. omega arith)

pub record SpelledConstants (n : ℕ) (after_wide : Bool) (cs : List Constant) (text : List ℕ) : Type 0 where
  pub fit : AreConstants after_wide cs
  pub number : length cs ≡ n
  pub spelled : text ≡ constants_text cs

read_is_spelled : (n : ℕ) (after_wide : Bool) (count index : ℕ) (cs : List Constant) (text : List ℕ) → index + n ≡ count
    → (n ≡ 0 → after_wide ≡ false) → AreRead n after_wide count index cs text → SpelledConstants n after_wide cs text
read_is_spelled zero after_wide count index cs text sum none s =
    rw (s.0, s.1) (record { fit = none refl; number = refl; spelled = refl })
read_is_spelled (suc n) true count index cs text sum none s =
    let inner = read_is_spelled n (is_wide s.value) count (index + 1) s.second.value s.back (omega arith)
    (λ e. rw s.first.0 refl) s.second.spelled in
    let fit : AreConstants false s.second.value = let P : Constant → Type 0 =
    λ c. AreConstants (is_wide c) s.second.value in subst P s.first.0 inner.fit in
    rw s.second.is
    (record {
      fit = (s.first.0, fit);
      number = omega (arith, inner.number);
      spelled = s.parts
          ∙ rw (s.first.1, s.first.0) inner.spelled;
    })
read_is_spelled (suc n) false count index cs text sum none s =
    let inner = read_is_spelled n (is_wide s.value) count (index + 1) s.second.value s.back (omega arith)
    (λ e. and_false_first (is_wide s.value) (eqb (index + 1) count) (eq-eqb (index + 1) count (omega arith))
    s.first.1) s.second.spelled in
    rw s.second.is
    (record {
      fit = (s.first.0.0, inner.fit);
      number = omega (arith, inner.number);
      spelled = s.parts
          ∙ rw (s.first.0.1, inner.spelled) refl;
    })

last_fits : (n : ℕ) (count index : ℕ) (c : Constant) (cs : List Constant) → length cs ≡ n → index + suc n ≡ count
    → AreConstants (is_wide c) cs → (is_wide c && eqb (index + 1) count) ≡ false
last_fits n count index c [] len sum fit = rw fit refl
last_fits n count index c (d ∷ cs) len sum fit =
    and_right (is_wide c) (eqb (index + 1) count) (other_eqb (index + 1) count (omega (arith, len)))

spelled_is_read : (n : ℕ) (after_wide : Bool) (count index : ℕ) (cs : List Constant) (text : List ℕ) → index + n ≡ count
    → SpelledConstants n after_wide cs text → AreRead n after_wide count index cs text
spelled_is_read zero after_wide count index [] text sum s = (refl, s.spelled)
spelled_is_read zero after_wide count index (c ∷ cs) text sum s = absurd (omega (arith, s.number))
spelled_is_read (suc n) after_wide count index [] text sum s = absurd (omega (arith, s.number))
spelled_is_read (suc n) true count index (c ∷ cs) text sum s =
    let fit : AreConstants (is_wide c) cs = rw s.fit.0 s.fit.1 in
    let inner = spelled_is_read n (is_wide c) count (index + 1) cs (constants_text cs) (omega arith)
    (record { fit = fit; number = omega (arith, s.number); spelled = refl }) in
    record {
      value = c;
      front = [];
      back = constants_text cs;
      first = (s.fit.0, refl);
      second =
          record { value = cs; spelled = inner; is = refl };
      parts = s.spelled ∙ rw s.fit.0 refl;
    }
spelled_is_read (suc n) false count index (c ∷ cs) text sum s =
    let len : length cs ≡ n = omega (arith, s.number) in
    let inner = spelled_is_read n (is_wide c) count (index + 1) cs (constants_text cs) (omega arith)
    (record { fit = s.fit.1; number = len; spelled = refl }) in
    record {
      value = c;
      front = constant_text c;
      back = constants_text cs;
      first =
          ((s.fit.0, refl), last_fits n count index c cs len sum s.fit.1);
      second =
          record { value = cs; spelled = inner; is = refl };
      parts = s.spelled;
    }

read_are_spelled : (count : ℕ) (cs : List Constant) (text : List ℕ) → AreRead (count - 1) false count 1 cs text
    → SpelledConstants (count - 1) false cs text
read_are_spelled zero cs text s = read_is_spelled 0 false 1 1 cs text refl (λ e. refl) s
read_are_spelled (suc k) cs text s = read_is_spelled (suc k - 1) false (suc k) 1 cs text (omega arith) (λ e. refl) s

spelled_are_read : (count : ℕ) (cs : List Constant) (text : List ℕ) → SpelledConstants (count - 1) false cs text
    → AreRead (count - 1) false count 1 cs text
spelled_are_read zero cs text s = spelled_is_read 0 false 1 1 cs text refl s
spelled_are_read (suc k) cs text s = spelled_is_read (suc k - 1) false (suc k) 1 cs text (omega arith) s

pub constants_lawful : (count total : ℕ)
    → Lawful (constants_at count total) (IsConstantsText count) (ConstantsFail count total)
unfolding constants_at
constants_lawful count total =
    restated {S = Mapped (λ cs. constants.Unusable ∷ cs) (AreRead (count - 1) false count 1)}
    (map_lawful (λ cs. constants.Unusable ∷ cs) (constants_from (count - 1) false total count 1)
    (AreRead (count - 1) false count 1) (ConstantsFail count total)
    (constants_from_lawful (count - 1) false total count 1))
    (λ cs text m. let s = read_are_spelled count m.value text m.spelled in
    record { others = m.value; is = m.is; number = s.number; fit = s.fit; spelled = s.spelled })
    (λ cs text e. record {
      value = e.others;
      spelled = spelled_are_read count e.others text
          (record { fit = e.fit; number = e.number; spelled = e.spelled });
      is = e.is;
    })
