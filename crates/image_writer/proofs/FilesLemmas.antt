-- Texts of class files are short.
use Rattle.std.proofs.Common.{◌≡◌, ◌∙◌, ℕ, suc, ◌+◌, ◌<◌, ◌≤◌, ◌^◌, ◌/◌, ◌%◌, ◌&&◌, Bool, true, false, nat_lt}
use Rattle.std.proofs.Common.{inl, inr}
use Rattle.std.proofs.Common.{List, [], ◌∷◌, ◌++◌, length, get_or, Some, slice_get, refl}
use Rattle.std.proofs.Common.{sym, ap}
use Rattle.std.proofs.Common.{subst, arith, length-append, if◌then◌else◌}
use Rattle.std.specs.List.{All, Contains, flat_map}
use Rattle.std.proofs.lemmas.Bool.{cases_lt}
use Rattle.std.proofs.lemmas.List.{get_or_past}
use Rattle.std.proofs.lemmas.List.Concat.{flat_map-cons}
use Rattle.std.proofs.lemmas.List.Elements.{All-nil, All-cons, All-same, All-append, All-contains, Contains-get_or}
use Rattle.std.proofs.lemmas.List.Elements.{Contains-append_cases, Contains-append_left, Contains-push}
use Rattle.std.proofs.lemmas.List.Elements.{Contains-push_cases}
use Rattle.classfile.specs.Class.{IsClassFile}
use Rattle.classfile.specs.ClassFile.{ClassFile}
use Rattle.classfile.specs.Printing.{units_of}
use Rattle.classfile.specs.Units.{unit_text, units_text}
use Rattle.classfile.specs.declared.constant.Constant.{Constant}
use Rattle.classfile.specs.declared.constant.Constant.TheVariants as constants
use Rattle.classfile.proofs.PrintingLemmas.{units_of-units_text}
use Rattle.loading.specs.declared.given.GivenClass.{GivenClass}
use Rattle.loading.specs.Families.{file_of}
use Rattle.loading.specs.Names.{text_at}
use Rattle.program.specs.Strings.{string_of, strings_of, all_strings, AreFirsts, IsText}
use Rattle.program.specs.Tables.{Tables}
use Rattle.image_format.proofs.NamesLemmas.{FitsUtf8, empty_fits, units_short, utf8_fits}
use Rattle.image_writer.specs.steps.Sizes.{HasFiles}

module _ (f : ClassFile) (is : IsClassFile f) where
  string_fits : (c : Constant) → All FitsUtf8 (string_of f c)
  string_fits (constants.String utf8) = All-cons FitsUtf8 (text_at f utf8) [] (utf8_fits f is utf8) (All-nil FitsUtf8)
  string_fits other = All-nil FitsUtf8

  those_fit : (cs : List Constant) → All FitsUtf8 (flat_map (string_of f) cs)
  those_fit [] = All-nil FitsUtf8
  those_fit (c ∷ cs) =
      All-same FitsUtf8 (flat_map (string_of f) (c ∷ cs)) (string_of f c ++ flat_map (string_of f) cs)
      (flat_map-cons (string_of f) c cs)
      (All-append FitsUtf8 (string_of f c) (flat_map (string_of f) cs) (string_fits c) (those_fit cs))

  strings_fit : All FitsUtf8 (strings_of f)
  strings_fit = those_fit f.constants

is_text : (text : List ℕ) → FitsUtf8 text → IsText text
is_text text (short, modified) = record {
  modified = modified;
  few = omega (arith, units_short modified.units, ap length modified.spelled, short);
}

-- ---- strings of a program

abbrev strings_in : GivenClass → List (List ℕ)
strings_in given = strings_of given.file

given_fit : (givens : List GivenClass)
    → ((c : ℕ) (given : GivenClass) → slice_get givens c ≡ Some given → IsClassFile given.file)
    → All FitsUtf8 (flat_map strings_in givens)
given_fit [] files = All-nil FitsUtf8
given_fit (g ∷ gs) files =
    All-same FitsUtf8 (flat_map strings_in (g ∷ gs)) (strings_in g ++ flat_map strings_in gs)
    (flat_map-cons strings_in g gs)
    (All-append FitsUtf8 (strings_in g) (flat_map strings_in gs) (strings_fit g.file (files 0 g refl))
    (given_fit gs (λ c given at. files (suc c) given at)))

first_among : {all texts : List (List ℕ)} → AreFirsts all texts → (x : List ℕ) → Contains texts x → Contains all x
first_among AreFirsts.none x has = has
first_among (AreFirsts.again {all = all} {x = y} was among) x has =
    Contains-append_left all (y ∷ []) x (first_among was x has)
first_among (AreFirsts.first {all = all} {texts = texts} {x = y} was fresh) x has =
    elim (Contains-push_cases texts y x has) [
      | inl before ↦ Contains-append_left all (y ∷ []) x (first_among was x before)
      | inr same ↦ subst (λ z. Contains (all ++ y ∷ []) z) same (Contains-push all y)
    ]

pub text_fits : (P : Tables) → HasFiles P → (s : ℕ) → IsText (get_or P.strings s [])
text_fits P has s = elim (cases_lt s (length P.strings)) [
  | inl low ↦ fits (get_or P.strings s []) (Contains-get_or P.strings s [] low)
  | inr high ↦ subst IsText (sym (get_or_past P.strings s [] high)) (is_text [] empty_fits)
]
  where
    all : All FitsUtf8 (all_strings P.family)
    all = given_fit P.family (λ c given at. has.files c given.file (ap file_of at))

    fits : (text : List ℕ) → Contains P.strings text → IsText text
    fits text among =
        let strings = has.program.strings in
        elim (Contains-append_cases strings.own strings.added text
        (subst (λ (texts : List (List ℕ)). Contains texts text) strings.are among)) [
          | inl own ↦ is_text text
              (All-contains FitsUtf8 (all_strings P.family) text all (first_among strings.firsts text own))
          | inr added ↦ All-contains IsText strings.added text strings.texts added
        ]

-- ---- the units that a text spells

-- the units that a text spells are those that are read
pub units_are : (text units : List ℕ) → All (λ unit. unit < 2 ^ 16) units → units_text units ≡ text
    → units ≡ units_of text
units_are text units each spelled =
    sym (units_of-units_text units each) ∙ ap (λ (t : List ℕ). units_of t) spelled

pub units_few : (text units : List ℕ) → IsText text → All (λ unit. unit < 2 ^ 16) units → units_text units ≡ text
    → length units < 2 ^ 16
units_few text units fits each spelled =
    let same : units ≡ fits.modified.units =
    units_are text units each spelled
    ∙ sym (units_are text fits.modified.units fits.modified.each (sym fits.modified.spelled)) in
    omega (arith, ap length same, fits.few)
