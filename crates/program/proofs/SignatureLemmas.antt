-- Descriptors that begin with the types of parameters, read type by type.
use Rattle.std.proofs.Common.{◌≡◌, ◌≢◌, ℕ, zero, suc, ◌+◌, ◌<◌, Bool, true, false, not, cond, eqb, ltb, List, [], ◌∷◌}
use Rattle.std.proofs.Common.{◌++◌, length, take, drop, map, replicate, get_or, refl, sym, ap, ◌∙◌, append_assoc}
use Rattle.std.proofs.Common.{Option, Some, None, unwrap_or, slice_get, arith, inl, inr}
use Rattle.std.specs.Prelude.{position}
use Rattle.std.specs.List.{flat_map, All, AllZip, position_or_len}
use Rattle.std.proofs.lemmas.Bool.{lt-ltb, ne_eqb}
use Rattle.std.proofs.lemmas.List.{length-append, length-replicate, append-nil}
use Rattle.std.proofs.lemmas.Slice.Zip.{AllZip-long}
use Rattle.std.proofs.Math.Seq.{drop-append_seam, take-append_seam}
use Rattle.classfile.specs.Grammar.{IsElementType, IsFieldDescriptor, IsMethodDescriptor}
use Rattle.classfile.specs.ClassFile.{ClassFile}
use Rattle.classfile.specs.declared.constant.Constant.{Constant}
use Rattle.classfile.specs.Lookup.{utf8_in, utf8_of}
use Rattle.classfile.proofs.ScanLemmas.{by_letters}
use Rattle.program.specs.declared.runtime_constant.FieldKind.{FieldKind}
use Rattle.program.specs.declared.signature.ReturnKind.{ReturnKind}
use Rattle.program.specs.declared.signature.Signature.{Signature}
use Rattle.program.specs.Signatures.{signature_of, signature_in, return_kind, IsSignatureOf, AreSignatures}
use Rattle.program.specs.Fields.{field_kind}
use Rattle.program.specs.steps.ParsedSignatures.{dimensions, element_length, type_length, ends_parameters}
use Rattle.program.specs.steps.ParsedSignatures.{after_place, AreParameters, IsEntry}

-- the length of a list up to its first item that passes
count_to : (p : ℕ → Bool) (front : List ℕ) (b : ℕ) (rest : List ℕ) → All (λ x. p x ≡ false) front → p b ≡ true
    → position_or_len p (front ++ b ∷ rest) ≡ length front
count_to p [] b rest free hit = ap (λ (t : Bool). cond (not t) (1 + position_or_len p rest) 0) hit
count_to p (x ∷ front) b rest free hit =
    let more : position_or_len p (front ++ b ∷ rest) ≡ length front =
    count_to p front b rest (λ k d lt. free (suc k) d (omega arith)) hit in
    let here : p x ≡ false = free 0 x (omega arith) in
    ap (λ (t : Bool). cond (not t) (1 + position_or_len p (front ++ b ∷ rest)) 0) here ∙ omega (arith, more)

place_of : (p : ℕ → Bool) (front : List ℕ) (b : ℕ) (rest : List ℕ) → All (λ x. p x ≡ false) front → p b ≡ true
    → position p (front ++ b ∷ rest) ≡ Some (length front)
place_of p front b rest free hit =
    let count = count_to p front b rest free hit in
    let whole = length-append front (b ∷ rest) in
    let within : ltb (length front) (length (front ++ b ∷ rest)) ≡ true = lt-ltb _ _ (omega (arith, whole)) in
    ap (λ (n : ℕ). cond (ltb n (length (front ++ b ∷ rest))) (Some n) None) count
    ∙ ap (λ (t : Bool). cond t (Some (length front)) None) within

-- ---- types

all_brackets : (n k d : ℕ) → k < length {A = ℕ} (replicate n 91) → not (eqb (get_or (replicate n 91) k d) 91) ≡ false
all_brackets zero k d lt = absurd (omega (arith, lt))
all_brackets (suc n) zero d lt = refl
all_brackets (suc n) (suc k) d lt = all_brackets n k d (omega (arith, lt))

dimensions_at : (n b : ℕ) (rest : List ℕ) → b ≢ 91 → dimensions (replicate n 91 ++ b ∷ rest) ≡ n
dimensions_at n b rest other =
    let p : ℕ → Bool = λ x. not (eqb x 91) in
    let hit : p b ≡ true = ap not (ne_eqb b 91 other) in
    let place = place_of p (replicate n 91) b rest (all_brackets n) hit in
    ap (λ found. unwrap_or found (length (replicate n 91 ++ b ∷ rest))) place ∙ length-replicate n 91

-- a type begins with a byte that is neither `[` nor `)`
record Begins (text : List ℕ) : Type 0 where
  first : ℕ
  more : List ℕ
  spelled : text ≡ first ∷ more
  no_bracket : first ≢ 91
  no_end : first ≢ 41

element_begins : (element : List ℕ) → IsElementType element → Begins element
element_begins element (inl (letter, (is, e))) = record {
  first = letter;
  more = [];
  spelled = e;
  no_bracket = by_letters (λ b. b ≢ 91) (λ h. omega (arith, h)) (λ h. omega (arith, h)) (λ h. omega (arith, h))
      (λ h. omega (arith, h)) (λ h. omega (arith, h)) (λ h. omega (arith, h)) (λ h. omega (arith, h))
      (λ h. omega (arith, h)) letter is;
  no_end = by_letters (λ b. b ≢ 41) (λ h. omega (arith, h)) (λ h. omega (arith, h)) (λ h. omega (arith, h))
      (λ h. omega (arith, h)) (λ h. omega (arith, h)) (λ h. omega (arith, h)) (λ h. omega (arith, h))
      (λ h. omega (arith, h)) letter is;
}
element_begins element (inr (name, (is, e))) = record {
  first = 76;
  more = name ++ 59 ∷ [];
  spelled = e;
  no_bracket = λ h. omega (arith, h);
  no_end = λ h. omega (arith, h);
}

no_semicolon : (name : List ℕ) → All (λ b. b ≢ 59) name → All (λ b. eqb b 59 ≡ false) (76 ∷ name)
no_semicolon name free zero d lt = refl
no_semicolon name free (suc k) d lt = ne_eqb (get_or name k d) 59 (free k d (omega (arith, lt)))

name_at : (name rest : List ℕ) → All (λ b. b ≢ 59) name
    → element_length ((76 ∷ (name ++ 59 ∷ [])) ++ rest) ≡ length (76 ∷ (name ++ 59 ∷ []))
name_at name rest free =
    let test : ℕ → Bool = λ b. eqb b 59 in
    let place : position test ((76 ∷ name) ++ 59 ∷ rest) ≡ Some (suc (length name)) =
    place_of test (76 ∷ name) 59 rest (no_semicolon name free) refl in
    let same : (76 ∷ (name ++ 59 ∷ [])) ++ rest ≡ (76 ∷ name) ++ 59 ∷ rest =
    ap (λ (z : List ℕ). 76 ∷ z) (append_assoc name (59 ∷ []) rest) in
    let whole = length-append name (59 ∷ []) in
    ap element_length same ∙ ap (λ found. after_place found (length ((76 ∷ name) ++ 59 ∷ rest))) place
    ∙ omega (arith, whole)

element_at : (element rest : List ℕ) → IsElementType element → element_length (element ++ rest) ≡ length element
element_at element rest (inl (letter, (is, e))) =
    let P : ℕ → Type 0 = λ b. element_length (b ∷ rest) ≡ 1 in
    rw e (by_letters P refl refl refl refl refl refl refl refl letter is)
element_at element rest (inr (name, (is, e))) = rw e (name_at name rest is.no_semicolon)

type_at : (field rest : List ℕ) → IsFieldDescriptor field → type_length (field ++ rest) ≡ length field
type_at field rest is =
    let n = is.dimensions in
    let begins = element_begins is.element is.is_element in
    let brackets : List ℕ = replicate n 91 in
    let text : field ++ rest ≡ brackets ++ (is.element ++ rest) =
    ap (λ (z : List ℕ). z ++ rest) is.spelled ∙ append_assoc brackets is.element rest in
    let first : brackets ++ (is.element ++ rest) ≡ brackets ++ begins.first ∷ (begins.more ++ rest) =
    ap (λ (z : List ℕ). brackets ++ (z ++ rest)) begins.spelled in
    let depth : dimensions (field ++ rest) ≡ n =
    ap dimensions (text ∙ first) ∙ dimensions_at n begins.first (begins.more ++ rest) begins.no_bracket in
    let after : drop n (brackets ++ (is.element ++ rest)) ≡ is.element ++ rest =
    ap (λ (k : ℕ). drop k (brackets ++ (is.element ++ rest))) (sym (length-replicate n 91))
    ∙ drop-append_seam brackets (is.element ++ rest) in
    let rest_is : drop (dimensions (field ++ rest)) (field ++ rest) ≡ is.element ++ rest =
    ap (λ (k : ℕ). drop k (field ++ rest)) depth ∙ ap (drop n) text ∙ after in
    let element : element_length (drop (dimensions (field ++ rest)) (field ++ rest)) ≡ length is.element =
    ap element_length rest_is ∙ element_at is.element rest is.is_element in
    let whole : length field ≡ n + length is.element =
    ap length is.spelled ∙ length-append brackets is.element
    ∙ ap (λ (k : ℕ). k + length is.element) (length-replicate n 91) in
    omega (arith, depth, element, whole)

by_depth : (n : ℕ) (element field : List ℕ) → Begins element → field ≡ replicate n 91 ++ element
    → (first : ℕ) × (more : List ℕ) × (field ≡ first ∷ more) × (first ≢ 41)
by_depth zero element field begins e = (begins.first, begins.more, e ∙ begins.spelled, begins.no_end)
by_depth (suc n) element field begins e = (91, replicate n 91 ++ element, e, λ h. omega (arith, h))

field_begins : (field : List ℕ) → IsFieldDescriptor field
    → (first : ℕ) × (more : List ℕ) × (field ≡ first ∷ more) × (first ≢ 41)
field_begins field is = by_depth is.dimensions is.element field (element_begins is.element is.is_element) is.spelled

-- ---- parameters

-- the types that are still to be read
pub record Remaining (types : List (List ℕ)) (tail : List ℕ) (kinds : List FieldKind) (rest : List ℕ) : Type 0 where
  pub left : List (List ℕ)
  pub are_fields : All IsFieldDescriptor left
  pub spelled : rest ≡ flat_map (λ p. p) left ++ 41 ∷ tail
  pub kinds_are : kinds ++ map field_kind left ≡ map field_kind types

-- however the text is made of types, some of them are still to be read
abbrev pub AreLeft : List ℕ → List FieldKind → List ℕ → Type 0
AreLeft text kinds rest = (types : List (List ℕ)) (tail : List ℕ) → All IsFieldDescriptor types
    → text ≡ flat_map (λ p. p) types ++ 41 ∷ tail → Remaining types tail kinds rest

type_by : (types left : List (List ℕ)) (tail : List ℕ) (kinds : List FieldKind) (rest : List ℕ)
    → ends_parameters rest ≡ false → All IsFieldDescriptor left → rest ≡ flat_map (λ p. p) left ++ 41 ∷ tail
    → kinds ++ map field_kind left ≡ map field_kind types
    → Remaining types tail (kinds ++ field_kind (take (type_length rest) rest) ∷ []) (drop (type_length rest) rest)
type_by types [] tail kinds rest more each e kinds_are =
    let ends : ends_parameters rest ≡ true = ap ends_parameters e in
    absurd cc
type_by types (p ∷ ps) tail kinds rest more each e kinds_are =
    let after : List ℕ = flat_map (λ q. q) ps ++ 41 ∷ tail in
    let text : rest ≡ p ++ after = e ∙ append_assoc p (flat_map (λ q. q) ps) (41 ∷ tail) in
    let count : type_length rest ≡ length p = ap type_length text ∙ type_at p after (each 0 p (omega arith)) in
    let first : take (type_length rest) rest ≡ p =
    ap (λ (k : ℕ). take k rest) count ∙ ap (take (length p)) text ∙ take-append_seam p after in
    let others : drop (type_length rest) rest ≡ after =
    ap (λ (k : ℕ). drop k rest) count ∙ ap (drop (length p)) text ∙ drop-append_seam p after in
    record {
      left = ps;
      are_fields = λ k d lt. each (suc k) d (omega (arith, lt));
      spelled = others;
      kinds_are = append_assoc kinds (field_kind (take (type_length rest) rest) ∷ []) (map field_kind ps)
          ∙ ap (λ (z : List ℕ). kinds ++ field_kind z ∷ map field_kind ps) first ∙ kinds_are;
    }

-- one more type is read
pub one_type : (text : List ℕ) (kinds new : List FieldKind) (rest after : List ℕ) → ends_parameters rest ≡ false
    → AreLeft text kinds rest → new ≡ kinds ++ field_kind (take (type_length rest) rest) ∷ []
    → after ≡ drop (type_length rest) rest → AreLeft text new after
one_type text kinds new rest after more were new_is after_is types tail each e =
    let left = were types tail each e in
    rw (new_is, after_is)
    (type_by types left.left tail kinds rest more left.are_fields left.spelled left.kinds_are)

ended_by : (types left : List (List ℕ)) (tail : List ℕ) (kinds : List FieldKind) (rest : List ℕ)
    → ends_parameters rest ≡ true → All IsFieldDescriptor left → rest ≡ flat_map (λ p. p) left ++ 41 ∷ tail
    → kinds ++ map field_kind left ≡ map field_kind types → (kinds ≡ map field_kind types) × (rest ≡ 41 ∷ tail)
ended_by types [] tail kinds rest ends each e kinds_are = (sym (append-nil kinds) ∙ kinds_are, e)
ended_by types (p ∷ ps) tail kinds rest ends each e kinds_are =
    let begins = field_begins p (each 0 p (omega arith)) in
    let text : rest ≡ begins.0 ∷ (begins.1 ++ (flat_map (λ q. q) ps ++ 41 ∷ tail)) =
    e ∙ append_assoc p (flat_map (λ q. q) ps) (41 ∷ tail)
    ∙ ap (λ (z : List ℕ). z ++ (flat_map (λ q. q) ps ++ 41 ∷ tail)) begins.2 in
    let other : ends_parameters rest ≡ false = ap ends_parameters text ∙ ne_eqb begins.0 41 begins.3 in
    absurd cc

-- no type is left
pub all_read : (text : List ℕ) (kinds : List FieldKind) (rest : List ℕ) → ends_parameters rest ≡ true
    → AreLeft text kinds rest → AreParameters text kinds rest
all_read text kinds rest ends were types tail each e =
    let left = were types tail each e in
    ended_by types left.left tail kinds rest ends left.are_fields left.spelled left.kinds_are

-- ---- constant pools

no_descriptor : IsMethodDescriptor [] → ⊥
no_descriptor d = let e = d.spelled in cc

no_signature : IsSignatureOf [] None
no_signature = record { descriptor = λ d. absurd (no_descriptor d); other = λ none. refl }

entries_are : (pool : List Constant) (entries : List (Option Signature)) → AllZip IsEntry pool entries → (index : ℕ)
    → IsSignatureOf (unwrap_or (utf8_in (slice_get pool index)) []) (signature_in entries index)
entries_are [] [] all index = no_signature
entries_are [] (entry ∷ entries) all index = absurd all
entries_are (constant ∷ pool) [] all index = absurd all
entries_are (constant ∷ pool) (entry ∷ entries) all zero = all.0
entries_are (constant ∷ pool) (entry ∷ entries) all (suc index) = entries_are pool entries all.1 index

pub are_signatures : (f : ClassFile) (entries : List (Option Signature)) → AllZip IsEntry f.constants entries
    → AreSignatures f entries
unfolding utf8_of
are_signatures f entries all = record {
  count = AllZip-long IsEntry f.constants entries all;
  each = entries_are f.constants entries all;
}

-- ---- one reading

-- of two types that a text begins with, both are of one length
same_first : (p q after rest : List ℕ) → IsFieldDescriptor p → IsFieldDescriptor q → p ++ after ≡ q ++ rest
    → (p ≡ q) × (after ≡ rest)
same_first p q after rest first second e =
    let count : length p ≡ length q =
    sym (type_at p after first) ∙ ap type_length e ∙ type_at q rest second in (
      sym (take-append_seam p after) ∙ ap (take (length p)) e ∙ ap (λ (k : ℕ). take k (q ++ rest)) count
          ∙ take-append_seam q rest,
      sym (drop-append_seam p after) ∙ ap (drop (length p)) e ∙ ap (λ (k : ℕ). drop k (q ++ rest)) count
          ∙ drop-append_seam q rest,
    )

-- no type begins where the parameters end
no_type : (q tail rest : List ℕ) → IsFieldDescriptor q → 41 ∷ tail ≡ q ++ rest → ⊥
no_type q tail rest is e =
    let begins = field_begins q is in
    let text : 41 ∷ tail ≡ begins.0 ∷ (begins.1 ++ rest) = e ∙ ap (λ (z : List ℕ). z ++ rest) begins.2 in
    let same : 41 ≡ begins.0 = cc in
    begins.3 (sym same)

same_types : (ps qs : List (List ℕ)) (tail other : List ℕ) → All IsFieldDescriptor ps → All IsFieldDescriptor qs
    → flat_map (λ p. p) ps ++ 41 ∷ tail ≡ flat_map (λ p. p) qs ++ 41 ∷ other → (ps ≡ qs) × (tail ≡ other)
same_types [] [] tail other first second e = (refl, cc)
same_types [] (q ∷ qs) tail other first second e =
    absurd (no_type q tail (flat_map (λ p. p) qs ++ 41 ∷ other) (second 0 q (omega arith))
    (e ∙ append_assoc q (flat_map (λ p. p) qs) (41 ∷ other)))
same_types (p ∷ ps) [] tail other first second e =
    absurd (no_type p other (flat_map (λ p. p) ps ++ 41 ∷ tail) (first 0 p (omega arith))
    (sym e ∙ append_assoc p (flat_map (λ p. p) ps) (41 ∷ tail)))
same_types (p ∷ ps) (q ∷ qs) tail other first second e =
    let after : List ℕ = flat_map (λ p. p) ps ++ 41 ∷ tail in
    let rest : List ℕ = flat_map (λ p. p) qs ++ 41 ∷ other in
    let text : p ++ after ≡ q ++ rest = sym (append_assoc p (flat_map (λ p. p) ps) (41 ∷ tail)) ∙ e
    ∙ append_assoc q (flat_map (λ p. p) qs) (41 ∷ other) in
    let here = same_first p q after rest (first 0 p (omega arith)) (second 0 q (omega arith)) text in
    let more = same_types ps qs tail other (λ k d lt. first (suc k) d (omega (arith, lt)))
    (λ k d lt. second (suc k) d (omega (arith, lt))) here.1 in
    (ap (λ (z : List ℕ). z ∷ ps) here.0 ∙ ap (λ (zs : List (List ℕ)). q ∷ zs) more.0, more.1)

pub same_parts : (text : List ℕ) (a b : IsMethodDescriptor text)
    → (a.parameters ≡ b.parameters) × (a.returned ≡ b.returned)
same_parts text a b =
    let whole : 40 ∷ (flat_map (λ p. p) a.parameters ++ 41 ∷ a.returned)
    ≡ 40 ∷ (flat_map (λ p. p) b.parameters ++ 41 ∷ b.returned) = sym a.spelled ∙ b.spelled in
    let inner : flat_map (λ p. p) a.parameters ++ 41 ∷ a.returned
    ≡ flat_map (λ p. p) b.parameters ++ 41 ∷ b.returned = cc in
    same_types a.parameters b.parameters a.returned b.returned a.are_fields b.are_fields inner

pub same_signature : (text : List ℕ) (a b : IsMethodDescriptor text) → signature_of a ≡ signature_of b
same_signature text a b =
    let parts = same_parts text a b in
    let with_parameters : List FieldKind → Signature =
    λ kinds. record { parameters = kinds; returns = return_kind a.returned } in
    let with_returns : ReturnKind → Signature =
    λ kind. record { parameters = map field_kind b.parameters; returns = kind } in
    ap with_parameters (ap (map field_kind) parts.0) ∙ ap with_returns (ap return_kind parts.1)
