-- Texts of a class file's constants: each is short, and modified UTF-8.
use Rattle.std.proofs.Common.{◌≡◌, ℕ, zero, suc, ◌+◌, ◌<◌, ◌≤◌, ◌^◌, ◌/◌, ◌%◌, ◌&&◌, Bool, true, false, nat_lt, List}
use Rattle.std.proofs.Common.{[]}
use Rattle.std.proofs.Common.{◌∷◌, length, length-append, Option, Some, None, ap, if◌then◌else◌}
use Rattle.std.proofs.Common.{slice_get, unwrap_or, refl, sym, subst, ◌∙◌, arith}
use Rattle.std.proofs.lemmas.List.Concat.{flat_map-cons}
use Rattle.std.proofs.lemmas.List.Elements.{All-nil}
use Rattle.classfile.specs.Class.{IsClassFile}
use Rattle.classfile.specs.ClassFile.{ClassFile}
use Rattle.classfile.specs.Constants.{is_wide}
use Rattle.classfile.specs.Lookup.{utf8_in, utf8_of, class_name_in, class_name_of}
use Rattle.classfile.specs.Spelling.{Fits, AreConstants}
use Rattle.classfile.specs.Units.{IsModifiedUtf8, unit_text, units_text}
use Rattle.classfile.specs.declared.constant.Constant.{Constant}
use Rattle.classfile.specs.declared.constant.Constant.TheVariants as constants
use Rattle.loading.specs.Names.{name_of}

-- what a Utf8 may hold (JVMS 4.4.7)
abbrev pub FitsUtf8 : List ℕ → Type 0
FitsUtf8 text = (length text < 2 ^ 16) × IsModifiedUtf8 text

pub empty_fits : FitsUtf8 []
empty_fits = (omega arith, record { units = []; each = All-nil (λ unit. unit < 2 ^ 16); spelled = refl })

-- ---- texts of a constant pool

fits_at : (after_wide : Bool) (cs : List Constant) → AreConstants after_wide cs → (i : ℕ) (text : List ℕ)
    → slice_get cs i ≡ Some (constants.Utf8 text) → FitsUtf8 text
fits_at after_wide [] are i text at = absurd cc
fits_at true (c ∷ cs) are zero text at =
    absurd (let e : constants.Unusable ≡ constants.Utf8 text =
    sym are.0 ∙ (let same : c ≡ constants.Utf8 text = cc in same) in cc)
fits_at true (c ∷ cs) are (suc i) text at = fits_at false cs are.1 i text at
fits_at false (c ∷ cs) are zero text at =
    let same : c ≡ constants.Utf8 text = cc in subst (λ d. Fits d) same are.0
fits_at false (c ∷ cs) are (suc i) text at = fits_at (is_wide c) cs are.1 i text at

module _ (f : ClassFile) (is : IsClassFile f) where
  pub utf8_fits : (index : ℕ) → FitsUtf8 (unwrap_or (utf8_of f.constants index) [])
  unfolding utf8_of
  utf8_fits index = by (slice_get f.constants index) refl
    where
      by : (o : Option Constant) → slice_get f.constants index ≡ o → FitsUtf8 (unwrap_or (utf8_in o) [])
      by None at = empty_fits
      by (Some (constants.Utf8 text)) at = fits_at true f.constants is.constants.each index text at
      by (Some other) at = empty_fits

  pub name_fits : FitsUtf8 (name_of f)
  unfolding class_name_of
  name_fits = by (slice_get f.constants f.this_class)
    where
      by : (o : Option Constant) → FitsUtf8 (unwrap_or (class_name_in f.constants o) [])
      by None = empty_fits
      by (Some (constants.Class name)) = utf8_fits name
      by (Some other) = empty_fits

-- ---- a text has no more units than bytes

unit_long : (u : ℕ) → 1 ≤ length (unit_text u)
unit_long u = by (nat_lt 0 u && nat_lt u 128) (nat_lt u 2048)
  where
    by : (ascii wide : Bool) → 1 ≤ length (if ascii then u ∷ [] else
        (if wide then (192 + u / 64) ∷ (128 + u % 64) ∷ [] else
        (224 + u / 4096) ∷ (128 + u / 64 % 64) ∷ (128 + u % 64) ∷ []))
    by true wide = omega arith
    by false true = omega arith
    by false false = omega arith

pub units_short : (units : List ℕ) → length units ≤ length (units_text units)
units_short [] = omega arith
units_short (u ∷ us) =
    omega (
      arith,
      ap length (flat_map-cons unit_text u us),
      length-append (unit_text u) (units_text us),
      unit_long u,
      units_short us,
    )
