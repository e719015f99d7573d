-- Readers of values are lawful.
use Rattle.std.proofs.Common.{◌≡◌, ℕ, ℤ, zero, suc, ◌<◌, ◌^◌, Bool, true, false, not, List, [], ◌∷◌, ◌++◌, length}
use Rattle.std.proofs.Common.{Option, Some, None, Ok, Err, refl, sym, ap, subst, ◌∙◌, arith}
use Rattle.std.specs.Prelude.{FitsSigned}
use Rattle.std.specs.Int.{w8, w16, w32, w64, cast_signed, cast_unsigned}
use Rattle.std.specs.List.{flat_map, All, AllZip}
use Rattle.std.proofs.lemmas.Bool.{ne_eqb}
use Rattle.std.proofs.lemmas.List.Elements.{All-nil, All-cons, All-tail}
use Rattle.std.proofs.lemmas.Int.{of_z-to_z}
use mir.ValLaws.{to_z-of_z, of_z_fits, to_z-Fits}
use Rattle.classfile.specs.Spelling.{u1, u2, u4}
use Rattle.classfile.specs.Faults.{Either, Number}
use Rattle.classfile.specs.FirstFault.{Ruled}
use Rattle.classfile.specs.reading.Numbers.{◌>>=◌}
use Rattle.classfile.proofs.Lawful.{Lawful, Both, Is, Mapped, wide8, wide16, wide32, pure_lawful, restated, then_lawful}
use Rattle.classfile.proofs.Lawful.{map_lawful}
use Rattle.classfile.proofs.RuleLawful.{Refuses, append_equal, kept_lawful, guarded_lawful}
use Rattle.program.specs.declared.runtime_constant.FieldKind.{FieldKind}
use Rattle.program.specs.declared.runtime_constant.FieldKind.TheVariants as kinds
use Rattle.image_format.specs.Values.{ImageValue}
use Rattle.image_format.specs.Values as values
use Rattle.image_format.specs.Shapes.{is_in_range, IsIntOf, IsLong, IsReference, Suits}
use Rattle.image_format.specs.Texts.{u8, units_text, value_text}
use Rattle.image_parser.specs.declared.fault.RegionFault.TheVariants as faults
use Rattle.image_parser.specs.declared.tag.Tag.{Tag}
use Rattle.image_parser.specs.declared.tag.Tag.TheVariants as tags
use Rattle.image_parser.specs.FirstFailing.{times}
use Rattle.image_parser.specs.Tags.{tag_of, may_have, is_int, is_long, is_reference}
use Rattle.image_parser.specs.RegionFaults.{CutNumber, BodyFails, TaggedFails, ValueFails, IsValue, UnitsFail}
use Rattle.image_parser.specs.reading.Results.{number_at}
use Rattle.image_parser.specs.reading.Values.{unit_at, units_at, counted_units_at, int_of_bits, long_of_bits, int_at}
use Rattle.image_parser.specs.reading.Values.{text_at, reference_at, body_at, tagged_at, value_at}
use Rattle.image_parser.proofs.NumberLawful.{wide64, number_lawful}
use Rattle.image_parser.proofs.EachLawful.{AllSpelled, each_lawful}

pub refuses_not : (b : Bool) → Refuses (not b) (b ≡ true)
refuses_not true = (λ e. refl, λ e. refl)
refuses_not false = (λ e. absurd cc, λ e. absurd cc)

-- a reader that always refuses
pub shape_lawful : {X : Type 0} → Lawful {X = X} (λ bytes. Err faults.Shape) (λ x text. ⊥) (λ bytes f. f ≡ faults.Shape)
shape_lawful {X} = record {
  takes = λ bytes x rest fits e. absurd cc;
  again = λ x text rest s. absurd s;
  blames = λ bytes f fits e. cc;
  blamed = λ bytes f fits h. rw h refl;
}

-- ---- so many of the same

pub times_all : {X : Type 0} (P : X → Type 0) (n : ℕ) (xs : List X)
    → AllZip (λ (one : Unit {0}). P) (times n) xs → (length xs ≡ n) × All P xs
times_all P zero [] h = (refl, All-nil P)
times_all P zero (x ∷ xs) h = absurd h
times_all P (suc n) [] h = absurd h
times_all P (suc n) (x ∷ xs) h =
    let r = times_all P n xs h.1 in
    (omega (arith, r.0), All-cons P x xs h.0 r.1)

pub all_times : {X : Type 0} (P : X → Type 0) (n : ℕ) (xs : List X) → length xs ≡ n → All P xs
    → AllZip (λ (one : Unit {0}). P) (times n) xs
all_times P zero [] e h = tt
all_times P zero (x ∷ xs) e h = absurd (omega (arith, e))
all_times P (suc n) [] e h = absurd (omega (arith, e))
all_times P (suc n) (x ∷ xs) e h = (h 0 x (omega arith), all_times P n xs (omega (arith, e)) (All-tail P x xs h))

-- ---- what follows a tag

abbrev AreUnitsText : List ℕ → List ℕ → Type 0
AreUnitsText = Both (Number w16) (λ n. AllSpelled u2 (λ (one : Unit {0}) m. m < 2 ^ 16) (times n))

abbrev Body : FieldKind → Tag → ImageValue → List ℕ → Type 0
Body kind tags.Null = Is values.Null
Body kind tags.Int =
    Mapped int_of_bits (Ruled (Number w32) (λ bits. is_in_range kind (cast_signed w32 bits) ≡ true))
Body kind tags.Long = Mapped long_of_bits (Number w64)
Body kind tags.Text = Mapped (λ units. values.Text units) AreUnitsText
Body kind tags.Object = Both (Number w32) (λ class. Mapped (λ number. values.Object class number) (Number w32))
Body kind tags.Out = Is values.Out

units_lawful : Lawful counted_units_at AreUnitsText
    (Either (Number w16) (CutNumber w16) UnitsFail)
unfolding counted_units_at
units_lawful =
    then_lawful (number_at w16) (λ bytes n. units_at n.0 n.1) (number_lawful w16 wide16)
    (λ bytes n text s. each_lawful u2 (λ (one : Unit {0}) m. m < 2 ^ 16) (λ (one : Unit {0}). CutNumber w16) unit_at
    (λ one. number_lawful w16 wide16) (times n))

body_lawful : (kind : FieldKind) (tag : Tag) → Lawful (body_at kind tag) (Body kind tag) (BodyFails kind tag)
unfolding int_at text_at reference_at
body_lawful kind tags.Null = pure_lawful values.Null
body_lawful kind tags.Int =
    kept_lawful int_of_bits (λ bits. not (is_in_range kind (cast_signed w32 bits)))
    (λ bits. is_in_range kind (cast_signed w32 bits) ≡ true) faults.Shape (number_at w32)
    (λ bits. refuses_not (is_in_range kind (cast_signed w32 bits))) (number_lawful w32 wide32)
body_lawful kind tags.Long =
    map_lawful long_of_bits (number_at w64) (Number w64) (CutNumber w64) (number_lawful w64 wide64)
body_lawful kind tags.Text =
    map_lawful (λ units. values.Text units) counted_units_at AreUnitsText _ units_lawful
body_lawful kind tags.Object =
    then_lawful (number_at w32)
    (λ bytes class. number_at w32 class.1 >>= λ number. Ok (values.Object class.0 number.0, number.1))
    (number_lawful w32 wide32) (λ bytes class text s.
    map_lawful (λ number. values.Object class number) (number_at w32) (Number w32) (CutNumber w32)
    (number_lawful w32 wide32))
body_lawful kind tags.Out = pure_lawful values.Out

abbrev Tagged : FieldKind → Option Tag → ImageValue → List ℕ → Type 0
Tagged kind None v text = ⊥
Tagged kind (Some tag) v text = (may_have kind tag ≡ true) × Body kind tag v text

tagged_lawful : (kind : FieldKind) (tag : Option Tag)
    → Lawful (tagged_at kind tag) (Tagged kind tag) (TaggedFails kind tag)
tagged_lawful kind None = shape_lawful
tagged_lawful kind (Some tag) =
    guarded_lawful (not (may_have kind tag)) (may_have kind tag ≡ true) faults.Shape (body_at kind tag)
    (refuses_not (may_have kind tag)) (λ rule. body_lawful kind tag)

read_lawful : (kind : FieldKind)
    → Lawful (value_at kind) (Both (Number w8) (λ n. Tagged kind (tag_of n))) (ValueFails kind)
unfolding value_at
read_lawful kind =
    then_lawful (number_at w8) (λ bytes tag. tagged_at kind (tag_of tag.0) tag.1) (number_lawful w8 wide8)
    (λ bytes n text s. tagged_lawful kind (tag_of n))

-- ---- tags

abbrev number_of : Tag → ℕ
number_of tags.Null = 0
number_of tags.Int = 1
number_of tags.Long = 2
number_of tags.Text = 3
number_of tags.Object = 4
number_of tags.Out = 5

no_tag : (n : ℕ) (tag : Tag) → tag_of (suc (suc (suc (suc (suc (suc n)))))) ≡ Some tag → ⊥
unfolding tag_of
no_tag n tag e =
    let m : ℕ = suc (suc (suc (suc (suc (suc n))))) in
    let none : tag_of m ≡ None = rw (
      ne_eqb m 0 (λ q. omega (arith, q)),
      ne_eqb m 1 (λ q. omega (arith, q)),
      ne_eqb m 2 (λ q. omega (arith, q)),
      ne_eqb m 3 (λ q. omega (arith, q)),
      ne_eqb m 4 (λ q. omega (arith, q)),
      ne_eqb m 5 (λ q. omega (arith, q)),
    ) refl in
    cc

number_is : (n : ℕ) (tag : Tag) → tag_of n ≡ Some tag → n ≡ number_of tag
unfolding tag_of
number_is zero tag e = let q : tags.Null ≡ tag = cc in rw (← q) refl
number_is (suc zero) tag e = let q : tags.Int ≡ tag = cc in rw (← q) refl
number_is (suc (suc zero)) tag e = let q : tags.Long ≡ tag = cc in rw (← q) refl
number_is (suc (suc (suc zero))) tag e = let q : tags.Text ≡ tag = cc in rw (← q) refl
number_is (suc (suc (suc (suc zero)))) tag e = let q : tags.Object ≡ tag = cc in rw (← q) refl
number_is (suc (suc (suc (suc (suc zero))))) tag e = let q : tags.Out ≡ tag = cc in rw (← q) refl
number_is (suc (suc (suc (suc (suc (suc n)))))) tag e = absurd (no_tag n tag e)

tag_again : (tag : Tag) → tag_of (number_of tag) ≡ Some tag
unfolding tag_of
tag_again tags.Null = refl
tag_again tags.Int = refl
tag_again tags.Long = refl
tag_again tags.Text = refl
tag_again tags.Object = refl
tag_again tags.Out = refl

number_small : (tag : Tag) → number_of tag < 256
number_small tags.Null = omega arith
number_small tags.Int = omega arith
number_small tags.Long = omega arith
number_small tags.Text = omega arith
number_small tags.Object = omega arith
number_small tags.Out = omega arith

-- ---- kinds and tags

int_suits : (kind : FieldKind) (v : ImageValue) → may_have kind tags.Int ≡ true → IsIntOf kind v → Suits kind v
unfolding may_have
int_suits kinds.Boolean v may h = h
int_suits kinds.Byte v may h = h
int_suits kinds.Char v may h = h
int_suits kinds.Short v may h = h
int_suits kinds.Int v may h = h
int_suits kinds.Long v may h = absurd cc
int_suits kinds.Float v may h = absurd cc
int_suits kinds.Double v may h = absurd cc
int_suits kinds.Reference v may h = absurd cc

long_suits : (kind : FieldKind) (v : ImageValue) → may_have kind tags.Long ≡ true → IsLong v → Suits kind v
unfolding may_have
long_suits kinds.Boolean v may h = absurd cc
long_suits kinds.Byte v may h = absurd cc
long_suits kinds.Char v may h = absurd cc
long_suits kinds.Short v may h = absurd cc
long_suits kinds.Int v may h = absurd cc
long_suits kinds.Long v may h = h
long_suits kinds.Float v may h = absurd cc
long_suits kinds.Double v may h = absurd cc
long_suits kinds.Reference v may h = absurd cc

reference_suits : (kind : FieldKind) (tag : Tag) (v : ImageValue) → is_int tag ≡ false → is_long tag ≡ false
    → may_have kind tag ≡ true → IsReference v → Suits kind v
unfolding may_have
reference_suits kinds.Boolean tag v int long may h = absurd cc
reference_suits kinds.Byte tag v int long may h = absurd cc
reference_suits kinds.Char tag v int long may h = absurd cc
reference_suits kinds.Short tag v int long may h = absurd cc
reference_suits kinds.Int tag v int long may h = absurd cc
reference_suits kinds.Long tag v int long may h = absurd cc
reference_suits kinds.Float tag v int long may h = absurd cc
reference_suits kinds.Double tag v int long may h = absurd cc
reference_suits kinds.Reference tag v int long may h = h

-- ---- what is read suits, and is the text

body_there : (kind : FieldKind) (tag : Tag) (v : ImageValue) (back : List ℕ) → may_have kind tag ≡ true
    → Body kind tag v back → Suits kind v × (u1 (number_of tag) ++ back ≡ value_text v)
body_there kind tags.Null v back may s =
    rw (s.0, s.1) (reference_suits kind tags.Null values.Null refl refl may tt, refl)
body_there kind tags.Out v back may s =
    rw (s.0, s.1) (reference_suits kind tags.Out values.Out refl refl may tt, refl)
body_there kind tags.Int v back may s =
    let small : s.value < 2 ^ 32 = s.spelled.0.0 in
    let bits : cast_unsigned w32 (cast_signed w32 s.value) ≡ s.value = of_z-to_z w32 s.value small in
    let fits : FitsSigned w32 (cast_signed w32 s.value) = to_z-Fits w32 s.value (record { fits = small }) in
    rw (s.is, s.spelled.0.1)
    (int_suits kind (int_of_bits s.value) may (fits, s.spelled.1), ap (λ (n : ℕ). u1 1 ++ u4 n) (sym bits))
body_there kind tags.Long v back may s =
    let small : s.value < 2 ^ 64 = s.spelled.0 in
    let bits : cast_unsigned w64 (cast_signed w64 s.value) ≡ s.value = of_z-to_z w64 s.value small in
    let fits : FitsSigned w64 (cast_signed w64 s.value) = to_z-Fits w64 s.value (record { fits = small }) in
    rw (s.is, s.spelled.1)
    (long_suits kind (long_of_bits s.value) may fits, ap (λ (n : ℕ). u1 2 ++ u8 n) (sym bits))
body_there kind tags.Text v back may s =
    let t = s.spelled in
    let units : List ℕ = s.value in
    let all = times_all (λ m. m < 2 ^ 16) t.value units t.second.0 in
    let same : u2 t.value ≡ u2 (length units) = ap (λ (n : ℕ). u2 n) (sym all.0) in
    let text : back ≡ units_text units =
    t.parts ∙ append_equal t.front (u2 (length units)) t.back (flat_map u2 units) (t.first.1 ∙ same) t.second.1 in
    let short : length units < 2 ^ 16 = rw all.0 t.first.0 in
    rw (s.is) (
      reference_suits kind tags.Text (values.Text units) refl refl may (record { count = short; each = all.1 }),
      ap (λ (z : List ℕ). u1 3 ++ z) text,
    )
body_there kind tags.Object v back may s =
    let t = s.second in
    let text : back ≡ u4 s.value ++ u4 t.value =
    s.parts ∙ append_equal s.front (u4 s.value) s.back (u4 t.value) s.first.1 t.spelled.1 in
    rw (t.is) (
      reference_suits kind tags.Object (values.Object s.value t.value) refl refl may (s.first.0, t.spelled.0),
      ap (λ (z : List ℕ). u1 4 ++ z) text,
    )

tagged_there : (kind : FieldKind) (o : Option Tag) (n : ℕ) (v : ImageValue) (back : List ℕ) → tag_of n ≡ o
    → Tagged kind o v back → Suits kind v × (u1 n ++ back ≡ value_text v)
tagged_there kind None n v back e s = absurd s
tagged_there kind (Some tag) n v back e s =
    let h = body_there kind tag v back s.0 s.1 in
    (h.0, ap (λ (m : ℕ). u1 m ++ back) (number_is n tag e) ∙ h.1)

value_there : (kind : FieldKind) (v : ImageValue) (text : List ℕ)
    → Both (Number w8) (λ n. Tagged kind (tag_of n)) v text
    → IsValue kind v text
value_there kind v text s =
    let h = tagged_there kind (tag_of s.value) s.value v s.back refl s.second in
    (h.0, s.parts ∙ ap (λ (z : List ℕ). z ++ s.back) s.first.1 ∙ h.1)

-- ---- what suits is read again

int_of : (kind : FieldKind) (n : ℤ) → Suits kind (values.Int n)
    → (may_have kind tags.Int ≡ true) × IsIntOf kind (values.Int n)
unfolding may_have
int_of kinds.Boolean n h = (refl, h)
int_of kinds.Byte n h = (refl, h)
int_of kinds.Char n h = (refl, h)
int_of kinds.Short n h = (refl, h)
int_of kinds.Int n h = (refl, h)
int_of kinds.Long n h = absurd h
int_of kinds.Float n h = absurd h
int_of kinds.Double n h = absurd h
int_of kinds.Reference n h = absurd h

long_of : (kind : FieldKind) (n : ℤ) → Suits kind (values.Long n) → (may_have kind tags.Long ≡ true) × FitsSigned w64 n
unfolding may_have
long_of kinds.Boolean n h = absurd h
long_of kinds.Byte n h = absurd h
long_of kinds.Char n h = absurd h
long_of kinds.Short n h = absurd h
long_of kinds.Int n h = absurd h
long_of kinds.Long n h = (refl, h)
long_of kinds.Float n h = absurd h
long_of kinds.Double n h = absurd h
long_of kinds.Reference n h = absurd h

reference_of : (kind : FieldKind) (tag : Tag) (v : ImageValue) → is_reference tag ≡ true
    → ((k : FieldKind) → IsIntOf k v → ⊥) → (IsLong v → ⊥) → Suits kind v → (may_have kind tag ≡ true) × IsReference v
unfolding may_have
reference_of kinds.Boolean tag v is int long h = absurd (int kinds.Boolean h)
reference_of kinds.Byte tag v is int long h = absurd (int kinds.Byte h)
reference_of kinds.Char tag v is int long h = absurd (int kinds.Char h)
reference_of kinds.Short tag v is int long h = absurd (int kinds.Short h)
reference_of kinds.Int tag v is int long h = absurd (int kinds.Int h)
reference_of kinds.Long tag v is int long h = absurd (long h)
reference_of kinds.Float tag v is int long h = absurd h
reference_of kinds.Double tag v is int long h = absurd h
reference_of kinds.Reference tag v is int long h = (is, h)

-- what stands after the tag
record Back (kind : FieldKind) (v : ImageValue) (text : List ℕ) : Type 0 where
  tag : Tag
  may : may_have kind tag ≡ true
  back : List ℕ
  body : Body kind tag v back
  is : text ≡ u1 (number_of tag) ++ back

value_parts : (kind : FieldKind) (v : ImageValue) → Suits kind v → Back kind v (value_text v)
value_parts kind values.Null h =
    let r = reference_of kind tags.Null values.Null refl (λ k e. e) (λ e. e) h in
    record { tag = tags.Null; may = r.0; back = []; body = (refl, refl); is = refl }
value_parts kind values.Out h =
    let r = reference_of kind tags.Out values.Out refl (λ k e. e) (λ e. e) h in
    record { tag = tags.Out; may = r.0; back = []; body = (refl, refl); is = refl }
value_parts kind (values.Int n) h =
    let r = int_of kind n h in
    let same : cast_signed w32 (cast_unsigned w32 n) ≡ n = to_z-of_z w32 n r.1.0 in
    let small = (of_z_fits w32 n r.1.0).fits in
    record {
      tag = tags.Int;
      may = r.0;
      back = u4 (cast_unsigned w32 n);
      body = record {
        value = cast_unsigned w32 n;
        spelled = ((small, refl), rw same r.1.1);
        is = ap (λ (z : ℤ). values.Int z) (sym same);
      };
      is = refl;
    }
value_parts kind (values.Long n) h =
    let r = long_of kind n h in
    let same : cast_signed w64 (cast_unsigned w64 n) ≡ n = to_z-of_z w64 n r.1 in
    let small = (of_z_fits w64 n r.1).fits in
    record {
      tag = tags.Long;
      may = r.0;
      back = u8 (cast_unsigned w64 n);
      body = record {
        value = cast_unsigned w64 n;
        spelled = (small, refl);
        is = ap (λ (z : ℤ). values.Long z)
            (sym same);
      };
      is = refl;
    }
value_parts kind (values.Text units) h =
    let r = reference_of kind tags.Text (values.Text units) refl (λ k e. e) (λ e. e) h in
    record {
      tag = tags.Text;
      may = r.0;
      back = units_text units;
      body = record {
        value = units;
        spelled = record {
          value = length units;
          front = u2 (length units);
          back = flat_map u2 units;
          first = (r.1.count, refl);
          second = (all_times (λ m. m < 2 ^ 16) (length units) units refl r.1.each, refl);
          parts = refl;
        };
        is = refl;
      };
      is = refl;
    }
value_parts kind (values.Object class number) h =
    let r = reference_of kind tags.Object (values.Object class number) refl (λ k e. e) (λ e. e) h in
    record {
      tag = tags.Object;
      may = r.0;
      back = u4 class ++ u4 number;
      body = record {
        value = class;
        front = u4 class;
        back = u4 number;
        first = (r.1.0, refl);
        second = record { value = number; spelled = (r.1.1, refl); is = refl };
        parts = refl;
      };
      is = refl;
    }

value_back : (kind : FieldKind) (v : ImageValue) (text : List ℕ) → IsValue kind v text
    → Both (Number w8) (λ n. Tagged kind (tag_of n)) v text
value_back kind v text s =
    let p = value_parts kind v s.0 in
    let P : Option Tag → Type 0 = λ o. Tagged kind o v p.back in
    record {
      value = number_of p.tag;
      front = u1 (number_of p.tag);
      back = p.back;
      first = (number_small p.tag, refl);
      second = subst P (sym (tag_again p.tag)) (p.may, p.body);
      parts = s.1 ∙ p.is;
    }

pub value_lawful : (kind : FieldKind) → Lawful (value_at kind) (IsValue kind) (ValueFails kind)
value_lawful kind = restated (read_lawful kind) (value_there kind) (value_back kind)
