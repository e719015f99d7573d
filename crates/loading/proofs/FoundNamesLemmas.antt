-- What names of superinterfaces were found to stand for.
use Rattle.std.proofs.Common.{◌≡◌, ℕ, ◌<◌, ◌≤◌, true, List, [], ◌∷◌, length, get_or}
use Rattle.std.proofs.Common.{Option, Some, None, slice_get, refl, sym, ap, ◌∙◌, unwrap_or}
use Rattle.std.proofs.lemmas.Option.{slice_get_read, slice_get_past}
use Rattle.classfile.specs.ClassFile.{ClassFile}
use Rattle.classfile.specs.Class.{IsClassFile}
use Rattle.classfile.specs.Lookup.{utf8_in, utf8_of, class_name_in, class_name_of}
use Rattle.classfile.specs.Spelling.{AreConstants}
use Rattle.classfile.specs.declared.constant.Constant.{Constant}
use Rattle.classfile.specs.declared.constant.Constant.TheVariants as constants
use Rattle.loading.specs.Names.{class_name_at, text_at}
use Rattle.loading.specs.steps.FoundNames.{name_index}

-- ---- the index of a name

-- no text stands at index 0
no_text : (f : ClassFile) → IsClassFile f → text_at f 0 ≡ []
unfolding utf8_of
no_text f fits = first f.constants fits.constants.each
  where
    first : (pool : List Constant) → AreConstants true pool → unwrap_or (utf8_in (slice_get pool 0)) [] ≡ []
    first [] each = refl
    first (c ∷ cs) each = ap (λ (x : Constant). unwrap_or (utf8_in (Some x)) []) each.0

name_in : (f : ClassFile) (c : Constant) → text_at f 0 ≡ []
    → unwrap_or (class_name_in f.constants (Some c)) [] ≡ text_at f (name_index c)
name_in f (constants.Class name) none = refl
name_in f _ none = sym none

constant_there : (f : ClassFile) (pool : List Constant) (i index : ℕ) (o : Option Constant) → pool ≡ f.constants
    → i ≡ index → slice_get pool i ≡ o → slice_get f.constants index ≡ o
constant_there f pool i index o same at is =
    ap (λ (z : List Constant). slice_get z index) (sym same) ∙ ap (slice_get pool) (sym at) ∙ is

pub named_there : (f : ClassFile) (pool : List Constant) (i index : ℕ) (c : Constant) → IsClassFile f
    → pool ≡ f.constants → i ≡ index → i < length pool → c ≡ get_or pool i c
    → class_name_at f index ≡ text_at f (name_index c)
unfolding class_name_of
named_there f pool i index c fits same at within read =
    let here = slice_get_read pool (length pool) i c refl within read in
    let there = constant_there f pool i index (Some c) same at here in
    ap (λ o. unwrap_or (class_name_in f.constants o) []) there ∙ name_in f c (no_text f fits)

pub nothing_there : (f : ClassFile) (pool : List Constant) (i index : ℕ) → IsClassFile f → pool ≡ f.constants
    → i ≡ index → length pool ≤ i → class_name_at f index ≡ text_at f 0
unfolding class_name_of
nothing_there f pool i index fits same at past =
    let there = constant_there f pool i index None same at (slice_get_past pool i past) in
    ap (λ o. unwrap_or (class_name_in f.constants o) []) there ∙ sym (no_text f fits)
