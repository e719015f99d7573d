-- What the grammar says passes the test on descriptors.
use Rattle.std.proofs.Common.{◌≡◌, ◌≢◌, ℕ, zero, suc, ◌+◌, ◌≤◌, Bool, true, false, cond, eqb, ltb, List, [], ◌∷◌, ◌++◌}
use Rattle.std.proofs.Common.{replicate, refl, ap}
use Rattle.std.proofs.Common.{subst, ◌∙◌, append_assoc, arith, inl, inr}
use Rattle.std.specs.Bool.{Decides}
use Rattle.std.specs.List.{flat_map, All}
use Rattle.std.proofs.lemmas.Bool.{lt-ltb, ne_eqb}
use Rattle.classfile.specs.declared.descriptor.ScanState.TheVariants as states
use Rattle.classfile.specs.reading.Descriptors.{step, scan, is_field, is_method, lacks_semicolon, is_class_name}
use Rattle.classfile.specs.Grammar.{IsBaseType, IsElementType, IsFieldDescriptor, IsReturnDescriptor}
use Rattle.classfile.specs.Grammar.{IsMethodDescriptor, IsClassName}
use Rattle.classfile.specs.Grammar.{IsObjectName}
use Rattle.classfile.proofs.GrammarLemmas.{field_is, method_is, class_name_is}

-- what holds of each letter holds of a base type
pub by_letters : (P : ℕ → Type 0) → P 66 → P 67 → P 68 → P 70 → P 73 → P 74 → P 83 → P 90 → (b : ℕ) → IsBaseType b → P b
by_letters P p0 p1 p2 p3 p4 p5 p6 p7 b (zero, lt, e) = subst P e p0
by_letters P p0 p1 p2 p3 p4 p5 p6 p7 b (suc zero, lt, e) = subst P e p1
by_letters P p0 p1 p2 p3 p4 p5 p6 p7 b (suc (suc zero), lt, e) = subst P e p2
by_letters P p0 p1 p2 p3 p4 p5 p6 p7 b (suc (suc (suc zero)), lt, e) = subst P e p3
by_letters P p0 p1 p2 p3 p4 p5 p6 p7 b (suc (suc (suc (suc zero))), lt, e) = subst P e p4
by_letters P p0 p1 p2 p3 p4 p5 p6 p7 b (suc (suc (suc (suc (suc zero)))), lt, e) = subst P e p5
by_letters P p0 p1 p2 p3 p4 p5 p6 p7 b (suc (suc (suc (suc (suc (suc zero))))), lt, e) = subst P e p6
by_letters P p0 p1 p2 p3 p4 p5 p6 p7 b (suc (suc (suc (suc (suc (suc (suc zero)))))), lt, e) = subst P e p7
by_letters P p0 p1 p2 p3 p4 p5 p6 p7 b (suc (suc (suc (suc (suc (suc (suc (suc k))))))), lt, e) =
    absurd (omega (arith, lt))

-- a name up to its `;`
last_name : (is_empty : Bool) (name rest : List ℕ) → (is_empty ≡ true → name ≢ []) → All (λ b. b ≢ 59) name
    → scan (states.LastName is_empty) (name ++ 59 ∷ rest) ≡ scan states.End rest
unfolding step
last_name true [] rest some free = absurd (some refl refl)
last_name false [] rest some free = refl
last_name is_empty (b ∷ name) rest some free =
    let miss : eqb b 59 ≡ false = ne_eqb b 59 (free 0 b (omega arith)) in
    ap (λ (hit : Bool). scan (cond hit (cond is_empty states.Bad states.End) (states.LastName false))
    (name ++ 59 ∷ rest)) miss
    ∙ last_name false name rest (λ e. absurd cc) (λ k d lt. free (suc k) d (omega arith))

parameter_name : (is_empty : Bool) (name rest : List ℕ) → (is_empty ≡ true → name ≢ []) → All (λ b. b ≢ 59) name
    → scan (states.ParameterName is_empty) (name ++ 59 ∷ rest) ≡ scan (states.Parameter 0) rest
unfolding step
parameter_name true [] rest some free = absurd (some refl refl)
parameter_name false [] rest some free = refl
parameter_name is_empty (b ∷ name) rest some free =
    let miss : eqb b 59 ≡ false = ne_eqb b 59 (free 0 b (omega arith)) in
    ap (λ (hit : Bool). scan (cond hit (cond is_empty states.Bad (states.Parameter 0)) (states.ParameterName false))
    (name ++ 59 ∷ rest))
    miss
    ∙ parameter_name false name rest (λ e. absurd cc) (λ k d lt. free (suc k) d (omega arith))

last_element : (depth : ℕ) (may_be_void : Bool) (element : List ℕ) → IsElementType element
    → scan (states.Last depth may_be_void) element ≡ true
unfolding step
last_element depth may_be_void element (inl (letter, (is, e))) =
    let P : ℕ → Type 0 = λ b. scan (states.Last depth may_be_void) (b ∷ []) ≡ true in
    rw e (by_letters P refl refl refl refl refl refl refl refl letter is)
last_element depth may_be_void element (inr (name, (is, e))) =
    rw e (last_name true name [] (λ h. is.not_empty) is.no_semicolon)

last_field : (count depth : ℕ) (may_be_void : Bool) (element : List ℕ) → depth + count ≤ 255 → IsElementType element
    → scan (states.Last depth may_be_void) (replicate count 91 ++ element) ≡ true
unfolding step
last_field zero depth may_be_void element le is = last_element depth may_be_void element is
last_field (suc count) depth may_be_void element le is =
    let deeper : ltb depth 255 ≡ true = lt-ltb depth 255 (omega arith) in
    ap (λ (fits : Bool). scan (cond fits (states.Last (depth + 1) false) states.Bad) (replicate count 91 ++ element))
    deeper
    ∙ last_field count (depth + 1) false element (omega arith) is

parameter_element : (depth : ℕ) (element rest : List ℕ) → IsElementType element
    → scan (states.Parameter depth) (element ++ rest) ≡ scan (states.Parameter 0) rest
unfolding step
parameter_element depth element rest (inl (letter, (is, e))) =
    let P : ℕ → Type 0 = λ b. scan (states.Parameter depth) (b ∷ rest) ≡ scan (states.Parameter 0) rest in
    rw e (by_letters P refl refl refl refl refl refl refl refl letter is)
parameter_element depth element rest (inr (name, (is, e))) =
    let same : (name ++ 59 ∷ []) ++ rest ≡ name ++ 59 ∷ rest = append_assoc name (59 ∷ []) rest in
    rw (e, same) (parameter_name true name rest (λ h. is.not_empty) is.no_semicolon)

parameter_field : (count depth : ℕ) (element rest : List ℕ) → depth + count ≤ 255 → IsElementType element
    → scan (states.Parameter depth) ((replicate count 91 ++ element) ++ rest) ≡ scan (states.Parameter 0) rest
unfolding step
parameter_field zero depth element rest le is = parameter_element depth element rest is
parameter_field (suc count) depth element rest le is =
    let deeper : ltb depth 255 ≡ true = lt-ltb depth 255 (omega arith) in
    ap (λ (fits : Bool). scan (cond fits (states.Parameter (depth + 1)) states.Bad)
    ((replicate count 91 ++ element) ++ rest)) deeper
    ∙ parameter_field count (depth + 1) element rest (omega arith) is

returned_scans : (text : List ℕ) → IsReturnDescriptor text → scan (states.Last 0 true) text ≡ true
unfolding step
returned_scans text (inl field) =
    rw field.spelled (last_field field.dimensions 0 true field.element (omega (arith, field.at_most)) field.is_element)
returned_scans text (inr void) = rw void refl

parameters_scan : (parameters : List (List ℕ)) (returned : List ℕ) → All IsFieldDescriptor parameters
    → IsReturnDescriptor returned
    → scan (states.Parameter 0) (flat_map (λ p. p) parameters ++ 41 ∷ returned) ≡ true
unfolding step
parameters_scan [] returned each is = returned_scans returned is
parameters_scan (p ∷ ps) returned each is =
    let field = each 0 p (omega arith) in
    let after = flat_map (λ q. q) ps ++ 41 ∷ returned in
    let same : (p ++ flat_map (λ q. q) ps) ++ 41 ∷ returned ≡ p ++ after =
    append_assoc p (flat_map (λ q. q) ps) (41 ∷ returned) in
    let front : p ++ after ≡ (replicate field.dimensions 91 ++ field.element) ++ after =
    ap (λ (z : List ℕ). z ++ after) field.spelled in
    let read : scan (states.Parameter 0) ((replicate field.dimensions 91 ++ field.element) ++ after)
    ≡ scan (states.Parameter 0) after =
    parameter_field field.dimensions 0 field.element after (omega (arith, field.at_most)) field.is_element in
    ap (λ (z : List ℕ). scan (states.Parameter 0) z) (same ∙ front) ∙ read
    ∙ parameters_scan ps returned (λ k d lt. each (suc k) d (omega arith)) is

field_scans : (text : List ℕ) → IsFieldDescriptor text → is_field text ≡ true
field_scans text field =
    rw field.spelled (last_field field.dimensions 0 false field.element (omega (arith, field.at_most)) field.is_element)

method_scans : (text : List ℕ) → IsMethodDescriptor text → is_method text ≡ true
unfolding step
method_scans text method =
    rw method.spelled (parameters_scan method.parameters method.returned method.are_fields method.is_returned)

lacks_it : (text : List ℕ) → All (λ b. b ≢ 59) text → lacks_semicolon text ≡ true
lacks_it [] free = refl
lacks_it (b ∷ text) free =
    let miss : eqb b 59 ≡ false = ne_eqb b 59 (free 0 b (omega arith)) in
    rw miss (lacks_it text (λ k d lt. free (suc k) d (omega arith)))

object_name : (text : List ℕ) → IsObjectName text → ((rest : List ℕ) → text ≢ 91 ∷ rest) → is_class_name text ≡ true
unfolding is_class_name
object_name [] is plain = absurd (is.not_empty refl)
object_name (b ∷ text) is plain =
    let miss : eqb b 91 ≡ false = ne_eqb b 91 (λ e. plain text (ap (λ (z : ℕ). z ∷ text) e)) in
    rw miss (lacks_it (b ∷ text) is.no_semicolon)

class_name_scans : (text : List ℕ) → IsClassName text → is_class_name text ≡ true
unfolding is_class_name
class_name_scans text (inl (field, (rest, e))) =
    let P : List ℕ → Type 0 = λ z. IsFieldDescriptor z in
    rw e (field_scans (91 ∷ rest) (subst P e field))
class_name_scans text (inr (object, plain)) = object_name text object plain

-- ---- the tests decide

pub field_decides : (text : List ℕ) → Decides (is_field text) (IsFieldDescriptor text)
field_decides text = (field_is text, field_scans text)

pub method_decides : (text : List ℕ) → Decides (is_method text) (IsMethodDescriptor text)
method_decides text = (method_is text, method_scans text)

pub class_name_decides : (text : List ℕ) → Decides (is_class_name text) (IsClassName text)
class_name_decides text = (class_name_is text, class_name_scans text)
