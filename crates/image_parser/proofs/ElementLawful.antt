-- Readers of the elements of arrays are lawful.
use Rattle.std.proofs.Common.{◌≡◌, ℕ, ℤ, pos, negsuc, suc, ◌-◌, ◌<◌, ◌^◌, ◌%◌, ◌/◌, true, false, ltb, []}
use Rattle.std.proofs.Common.{◌∷◌, refl, sym, ap, subst, ◌∙◌, arith, inl, inr}
use Rattle.std.specs.Prelude.{FitsSigned, int_le}
use Rattle.std.specs.Int.{Width, w8, w16, w32, w64, to_be_bytes, cast_signed, cast_unsigned}
use Rattle.std.proofs.lemmas.Bool.{and_parts, and_from, cases_lt, lt-ltb, le-ltb, le-leb, leb-true}
use Rattle.std.proofs.lemmas.Int.{of_z-to_z}
use Rattle.classfile.specs.Faults.{Number, limit_of}
use Rattle.classfile.proofs.Lawful.{Lawful, IsWide, wide8, wide16, wide32, map_lawful, restated}
use mir.ValLaws.{to_z-of_z, of_z_fits, to_z-Fits}
use Rattle.program.specs.declared.runtime_constant.FieldKind.{FieldKind}
use Rattle.program.specs.declared.runtime_constant.FieldKind.TheVariants as kinds
use Rattle.image_format.specs.Values.{ImageValue}
use Rattle.image_format.specs.Values as values
use Rattle.image_format.specs.Shapes.{is_in_range, IsIntOf, Suits}
use Rattle.image_format.specs.Texts.{element_text}
use Rattle.image_parser.specs.RegionFaults.{CutNumber, ElementFails, IsElement}
use Rattle.image_parser.specs.reading.Results.{number_at}
use Rattle.image_parser.specs.reading.Values.{made_at, byte_of_bits, char_of_bits, short_of_bits, int_of_bits}
use Rattle.image_parser.specs.reading.Values.{long_of_bits, element_at}
use Rattle.image_parser.proofs.NumberLawful.{wide64, number_lawful}
use Rattle.image_parser.proofs.ValueLawful.{value_lawful}

-- ---- what a number of some bits makes

-- a value that is the number's, and whose lowest bytes are the number's
record IsMade (kind : FieldKind) (w : Width) (make : ℕ → ImageValue) (limit : ℕ) : Type 0 where
  suits : (b : ℕ) → b < limit → Suits kind (make b)
  text : (b : ℕ) → b < limit → to_be_bytes w b ≡ element_text kind (make b)
  bits : (v : ImageValue) → Suits kind v → (b : ℕ) × ((b < limit) × (v ≡ make b))

made_lawful : (kind : FieldKind) (w : Width) (make : ℕ → ImageValue) (wide : IsWide w)
    → IsMade kind w make (limit_of w)
    → Lawful (λ bytes. made_at make (number_at w bytes)) (IsElement kind) (CutNumber w)
made_lawful kind w make wide made =
    restated (map_lawful make (number_at w) (Number w) (CutNumber w) (number_lawful w wide))
    (λ v text s. (
      subst (Suits kind) (sym s.is) (made.suits s.value s.spelled.0),
      s.spelled.1 ∙ made.text s.value s.spelled.0 ∙ ap (element_text kind) (sym s.is),
    ))
    (λ v text s. let b = made.bits v s.0 in record {
      value = b.0;
      spelled = (b.1.0, s.1 ∙ ap (element_text kind) b.1.1 ∙ sym (made.text b.0 b.1.0));
      is = b.1.1;
    })

-- ---- ints of a byte, two or four

made_char : IsMade kinds.Char w16 char_of_bits (2 ^ 16)
made_char = record {
  suits = λ b lt. (
    record { sfits = omega (arith, lt) },
    and_from (int_le (pos 0) (pos b)) (int_le (pos b) (pos 65535)) (le-leb 0 b (omega arith))
        (le-leb b 65535 (omega (arith, lt))),
  );
  text = λ b lt. refl;
  bits = λ v h. char_bits v h;
}
  where
    char_bits : (v : ImageValue) → Suits kinds.Char v → (b : ℕ) × ((b < 2 ^ 16) × (v ≡ char_of_bits b))
    char_bits (values.Int (pos n)) h =
        let r = and_parts (int_le (pos 0) (pos n)) (int_le (pos n) (pos 65535)) h.1 in
        let top = leb-true n 65535 r.1 in (n, (omega (arith, top), refl))
    char_bits (values.Int (negsuc n)) h =
        absurd (let r = and_parts (int_le (pos 0) (negsuc n)) (int_le (negsuc n) (pos 65535)) h.1 in
        let low = r.0 in cc)
    char_bits values.Null h = absurd h
    char_bits (values.Long n) h = absurd h
    char_bits (values.Text u) h = absurd h
    char_bits (values.Object c n) h = absurd h
    char_bits values.Out h = absurd h

made_long : IsMade kinds.Long w64 long_of_bits (2 ^ 64)
made_long = record {
  suits = λ b lt. to_z-Fits w64 b (record { fits = lt });
  text = λ b lt. ap (λ (n : ℕ). to_be_bytes w64 n) (sym (of_z-to_z w64 b lt));
  bits = λ v h. long_bits_of v h;
}
  where
    long_bits_of : (v : ImageValue) → Suits kinds.Long v → (b : ℕ) × ((b < 2 ^ 64) × (v ≡ long_of_bits b))
    long_bits_of (values.Long n) h =
        (cast_unsigned w64 n, ((of_z_fits w64 n h).fits, ap (λ (z : ℤ). values.Long z) (sym (to_z-of_z w64 n h))))
    long_bits_of (values.Int n) h = absurd h
    long_bits_of values.Null h = absurd h
    long_bits_of (values.Text u) h = absurd h
    long_bits_of (values.Object c n) h = absurd h
    long_bits_of values.Out h = absurd h

-- a number's lowest byte, and the int of it
byte_back : (b : ℕ) → b < 256 → cast_unsigned w32 (cast_signed w8 b) % 256 ≡ b
byte_back b lt = elim (cases_lt b 128) [
  | inl low ↦ let h : ltb b 128 ≡ true = lt-ltb b 128 low in rw h (omega (arith, lt))
  | inr high ↦ let h : ltb b 128 ≡ false = le-ltb b 128 high in rw h (omega (arith, lt, high))
]

short_back : (b : ℕ) → b < 65536 → cast_unsigned w32 (cast_signed w16 b) % 65536 ≡ b
short_back b lt = elim (cases_lt b 32768) [
  | inl low ↦ let h : ltb b 32768 ≡ true = lt-ltb b 32768 low in rw h (omega (arith, lt))
  | inr high ↦ let h : ltb b 32768 ≡ false = le-ltb b 32768 high in rw h (omega (arith, lt, high))
]

low_byte : (x b : ℕ) → x % 256 ≡ b → to_be_bytes w8 b ≡ to_be_bytes w8 x
low_byte x b e = let same : b % 256 ≡ x % 256 = omega (arith, e) in ap (λ (n : ℕ). n ∷ []) same

low_two : (x b : ℕ) → x % 65536 ≡ b → to_be_bytes w16 b ≡ to_be_bytes w16 x
low_two x b e =
    let low : b % 256 ≡ x % 256 = omega (arith, e) in
    let high : b / 256 % 256 ≡ x / 256 % 256 = omega (arith, e) in
    ap (λ (n : ℕ). n ∷ (b % 256) ∷ []) high ∙ ap (λ (n : ℕ). (x / 256 % 256) ∷ n ∷ []) low

-- an int of few bits, by its sign
byte_in_range : (z : ℤ) → FitsSigned w8 z → FitsSigned w32 z × (is_in_range kinds.Byte z ≡ true)
byte_in_range (pos n) f = let small = f.sfits in
    (record { sfits = omega (arith, small) }, le-leb n 127 (omega (arith, small)))
byte_in_range (negsuc n) f = let small = f.sfits in (
  record { sfits = omega (arith, small) },
  and_from (int_le (negsuc 127) (negsuc n)) true
      (le-leb n 127 (omega (arith, small))) refl,
)

short_in_range : (z : ℤ) → FitsSigned w16 z → FitsSigned w32 z × (is_in_range kinds.Short z ≡ true)
short_in_range (pos n) f = let small = f.sfits in
    (record { sfits = omega (arith, small) }, le-leb n 32767 (omega (arith, small)))
short_in_range (negsuc n) f = let small = f.sfits in (
  record { sfits = omega (arith, small) },
  and_from (int_le (negsuc 32767) (negsuc n)) true (le-leb n 32767 (omega (arith, small))) refl,
)

int_in_range : (z : ℤ) → FitsSigned w32 z → is_in_range kinds.Int z ≡ true
int_in_range (pos n) f = let small = f.sfits in le-leb n 2147483647 (omega (arith, small))
int_in_range (negsuc n) f = let small = f.sfits in
    and_from (int_le (negsuc 2147483647) (negsuc n)) true (le-leb n 2147483647 (omega (arith, small))) refl

byte_bits : (z : ℤ) → is_in_range kinds.Byte z ≡ true → (b : ℕ) × ((b < 256) × (z ≡ cast_signed w8 b))
byte_bits (pos n) e =
    let top = leb-true n 127 e in
    let h : ltb n 128 ≡ true = lt-ltb n 128 (omega (arith, top)) in
    (n, (omega (arith, top), rw h refl))
byte_bits (negsuc n) e =
    let r = and_parts (int_le (negsuc 127) (negsuc n)) true e in
    let top = leb-true n 127 r.0 in
    let h : ltb (255 - n) 128 ≡ false = le-ltb (255 - n) 128 (omega (arith, top)) in
    let same : n ≡ 256 - suc (255 - n) = omega (arith, top) in
    (255 - n, (omega (arith, top), rw h (ap (λ (k : ℕ). negsuc k) same)))

short_bits : (z : ℤ) → is_in_range kinds.Short z ≡ true → (b : ℕ) × ((b < 65536) × (z ≡ cast_signed w16 b))
short_bits (pos n) e =
    let top = leb-true n 32767 e in
    let h : ltb n 32768 ≡ true = lt-ltb n 32768 (omega (arith, top)) in
    (n, (omega (arith, top), rw h refl))
short_bits (negsuc n) e =
    let r = and_parts (int_le (negsuc 32767) (negsuc n)) true e in
    let top = leb-true n 32767 r.0 in
    let h : ltb (65535 - n) 32768 ≡ false = le-ltb (65535 - n) 32768 (omega (arith, top)) in
    let same : n ≡ 65536 - suc (65535 - n) = omega (arith, top) in
    (65535 - n, (omega (arith, top), rw h (ap (λ (k : ℕ). negsuc k) same)))

int_case : (kind : FieldKind) (v : ImageValue) → IsIntOf kind v
    → (z : ℤ) × ((v ≡ values.Int z) × (FitsSigned w32 z × (is_in_range kind z ≡ true)))
int_case kind (values.Int z) h = (z, (refl, h))
int_case kind values.Null h = absurd h
int_case kind (values.Long n) h = absurd h
int_case kind (values.Text u) h = absurd h
int_case kind (values.Object c n) h = absurd h
int_case kind values.Out h = absurd h

made_byte : IsMade kinds.Byte w8 byte_of_bits 256
made_byte = record {
  suits = λ b lt. byte_in_range (cast_signed w8 b) (to_z-Fits w8 b (record { fits = lt }));
  text = λ b lt. low_byte (cast_unsigned w32 (cast_signed w8 b)) b (byte_back b lt);
  bits = λ v h.
      let c = int_case kinds.Byte v h in
      let b = byte_bits c.0 c.1.1.1 in
      (b.0, (b.1.0, c.1.0 ∙ ap (λ (z : ℤ). values.Int z) b.1.1));
}

made_short : IsMade kinds.Short w16 short_of_bits (2 ^ 16)
made_short = record {
  suits = λ b lt. short_in_range (cast_signed w16 b) (to_z-Fits w16 b (record { fits = lt }));
  text = λ b lt. low_two (cast_unsigned w32 (cast_signed w16 b)) b (short_back b lt);
  bits = λ v h.
      let c = int_case kinds.Short v h in
      let b = short_bits c.0 c.1.1.1 in
      (b.0, (b.1.0, c.1.0 ∙ ap (λ (z : ℤ). values.Int z) b.1.1));
}

made_int : IsMade kinds.Int w32 int_of_bits (2 ^ 32)
made_int = record {
  suits = λ b lt.
      let f = to_z-Fits w32 b (record { fits = lt }) in (f, int_in_range (cast_signed w32 b) f);
  text = λ b lt. ap (λ (n : ℕ). to_be_bytes w32 n) (sym (of_z-to_z w32 b lt));
  bits = λ v h.
      let c = int_case kinds.Int v h in (
        cast_unsigned w32 c.0,
        (
          (of_z_fits w32 c.0 c.1.1.0).fits,
          c.1.0 ∙ ap (λ (z : ℤ). values.Int z) (sym (to_z-of_z w32 c.0 c.1.1.0)),
        ),
      );
}

pub element_lawful : (kind : FieldKind) → Lawful (element_at kind) (IsElement kind) (ElementFails kind)
unfolding element_at
element_lawful kinds.Boolean = value_lawful kinds.Boolean
element_lawful kinds.Byte = made_lawful kinds.Byte w8 byte_of_bits wide8 made_byte
element_lawful kinds.Char = made_lawful kinds.Char w16 char_of_bits wide16 made_char
element_lawful kinds.Short = made_lawful kinds.Short w16 short_of_bits wide16 made_short
element_lawful kinds.Int = made_lawful kinds.Int w32 int_of_bits wide32 made_int
element_lawful kinds.Long = made_lawful kinds.Long w64 long_of_bits wide64 made_long
element_lawful kinds.Float = value_lawful kinds.Float
element_lawful kinds.Double = value_lawful kinds.Double
element_lawful kinds.Reference = value_lawful kinds.Reference
