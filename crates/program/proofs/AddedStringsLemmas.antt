-- A program that a string is added to.
use Rattle.std.proofs.Common.{◌≡◌, ℕ, ◌<◌, ◌^◌, ◌⊎◌, inl, inr, Bool, true, false, List, [], ◌∷◌, ◌++◌, length}
use Rattle.std.proofs.Common.{get_or, Result, Ok, Err, OnOk, OnErr, refl, sym, subst, append-nil, append_assoc, ◌∙◌, ap}
use Rattle.std.specs.List.{All, Contains}
use Rattle.std.proofs.lemmas.List.Elements.{All-nil, All-cons, All-append, All-from_get_or}
use Rattle.classfile.specs.Units.{units_text}
use Rattle.loading.specs.Families.{Family}
use Rattle.hierarchy.specs.Texts.{AreDistinct}
use Rattle.hierarchy.specs.steps.GrowingTexts.{KeepsNumbers}
use Rattle.program.specs.Programs.{IsProgram}
use Rattle.program.specs.Strings.{AreFirsts, AreStrings, IsText, all_strings}
use Rattle.program.specs.Tables.{Tables}
use Rattle.program.proofs.RuntimePoolGrowthLemmas.{classes_kept}
use Rattle.program.proofs.StringsLemmas.{has, has_tells}

-- the strings of class files, before others came in
pub own_alone : (family : Family) (strings : List (List ℕ)) → AreFirsts (all_strings family) strings
    → AreStrings family strings
own_alone family strings firsts = record {
  own = strings;
  added = [];
  firsts = firsts;
  texts = All-nil IsText;
  are = sym (append-nil strings);
}

one_more : (family : Family) (strings : List (List ℕ)) (text : List ℕ) → IsText text → AreStrings family strings
    → AreStrings family (strings ++ text ∷ [])
one_more family strings text is were = record {
  own = were.own;
  added = were.added ++ text ∷ [];
  firsts = were.firsts;
  texts = All-append IsText were.added (text ∷ []) were.texts (All-cons IsText text [] is (All-nil IsText));
  are = ap (λ (xs : List (List ℕ)). xs ++ text ∷ []) were.are ∙ append_assoc were.own were.added (text ∷ []);
}

-- ---- a text that was added to others, or memory that ran out

pub same_or_more : {X E : Type 0} (r : Result X E) (old new : List (List ℕ)) (text : List ℕ)
    → (Contains old text → OnOk r (new ≡ old)) → (¬ Contains old text → OnOk r (new ≡ old ++ text ∷ []))
    → OnErr r (new ≡ old) → (new ≡ old) ⊎ (new ≡ old ++ text ∷ [])
same_or_more (Ok n) old new text same last err = by (has text old) refl
  where
    by : (b : Bool) → has text old ≡ b → (new ≡ old) ⊎ (new ≡ old ++ text ∷ [])
    by true e = inl (same ((has_tells text old).0 e))
    by false e = inr (last (λ h. let hit = (has_tells text old).1 h in cc))
same_or_more (Err e) old new text same last err = inl err

pub still_distinct : {X E : Type 0} (r : Result X E) (old new : List (List ℕ)) → OnOk r (AreDistinct new)
    → OnErr r (new ≡ old) → AreDistinct old → AreDistinct new
still_distinct (Ok n) old new apart err was = apart
still_distinct (Err e) old new apart err was = subst AreDistinct (sym err) was

strings_after : (family : Family) (old new : List (List ℕ)) (text : List ℕ) → IsText text
    → (new ≡ old) ⊎ (new ≡ old ++ text ∷ []) → AreStrings family old → AreStrings family new
strings_after family old new text is (inl same) were = subst (AreStrings family) (sym same) were
strings_after family old new text is (inr more) were =
    subst (AreStrings family) (sym more) (one_more family old text is were)

-- a program stays one
pub with_strings : (P : Tables) (new : List (List ℕ)) (text : List ℕ) → IsText text → KeepsNumbers P.strings new
    → AreDistinct new → (new ≡ P.strings) ⊎ (new ≡ P.strings ++ text ∷ []) → IsProgram P
    → IsProgram (record P { strings = new })
with_strings P new text is keeps apart how was = record {
  order_count = was.order_count;
  orders = was.orders;
  classes = classes_kept P.family P.strings new keeps P.family P.classes was.classes;
  distinct = apart;
  strings = strings_after P.family P.strings new text is how was.strings;
}

-- ---- the text of few units

pub text_of_units : (units text : List ℕ) → length units < 2 ^ 16 → ((i : ℕ) → get_or units i 0 < 2 ^ 16)
    → text ≡ units_text units → IsText text
text_of_units units text few each spelled = record {
  modified = record {
    units = units;
    each = All-from_get_or (λ unit. unit < 2 ^ 16) units 0 (λ i lt. each i);
    spelled = spelled;
  };
  few = few;
}
