-- The test on descriptors takes only what the grammar says.
use Rattle.std.proofs.Common.{◌≡◌, ◌≢◌, ℕ, zero, suc, ◌+◌, ◌≤◌, ◌<◌, ◌⊎◌, Bool, true, false, ◌||◌, cond, eqb, ltb, List}
use Rattle.std.proofs.Common.{[], ◌∷◌, ◌++◌, replicate, refl, sym, ap, subst, ◌∙◌, append_assoc, add-one, arith, inl}
use Rattle.std.proofs.Common.{inr}
use Rattle.std.specs.List.{flat_map, All}
use Rattle.std.proofs.lemmas.Bool.{eqb-true, ltb-true, or_cases}
use Rattle.std.proofs.lemmas.List.Elements.{All-nil, All-cons}
use Rattle.classfile.specs.declared.descriptor.ScanState.{ScanState}
use Rattle.classfile.specs.declared.descriptor.ScanState.TheVariants as states
use Rattle.classfile.specs.reading.Descriptors.{is_base, step, scan, is_field, is_method, lacks_semicolon}
use Rattle.classfile.specs.reading.Descriptors.{is_class_name}
use Rattle.classfile.specs.Grammar.{IsBaseType, IsElementType, IsFieldDescriptor, IsReturnDescriptor}
use Rattle.classfile.specs.Grammar.{IsMethodDescriptor, IsClassName}

-- the parameters, the bracket after them, and what is returned
record Ends (text : List ℕ) : Type 0 where
  parameters : List (List ℕ)
  returned : List ℕ
  are_fields : All IsFieldDescriptor parameters
  is_returned : IsReturnDescriptor returned
  spelled : text ≡ flat_map (λ p. p) parameters ++ 41 ∷ returned

-- a name and `;`, and then what Rest says
record Named (Rest : List ℕ → Type 0) (is_empty : Bool) (text : List ℕ) : Type 0 where
  name : List ℕ
  rest : List ℕ
  not_empty : is_empty ≡ true → name ≢ []
  no_semicolon : All (λ b. b ≢ 59) name
  spelled : text ≡ name ++ 59 ∷ rest
  after : Rest rest

-- what may be left at a state
abbrev Left : ScanState → List ℕ → Type 0
Left states.Open text = IsMethodDescriptor text
Left (states.Parameter depth) text = depth ≤ 255 → Ends (replicate depth 91 ++ text)
Left (states.ParameterName is_empty) text = Named Ends is_empty text
Left (states.Last depth may_be_void) text = depth ≤ 255 → IsFieldDescriptor (replicate depth 91 ++ text)
    ⊎ ((may_be_void ≡ true) × (text ≡ 86 ∷ []))
Left (states.LastName is_empty) text = Named (λ rest. rest ≡ []) is_empty text
Left states.End text = text ≡ []
Left states.Bad text = ⊥

scan_cond_cases : (b : Bool) (x y : ScanState) (text : List ℕ) → scan (cond b x y) text ≡ true
    → ((b ≡ true) × (scan x text ≡ true)) ⊎ ((b ≡ false) × (scan y text ≡ true))
scan_cond_cases true x y text e = inl (refl, e)
scan_cond_cases false x y text e = inr (refl, e)

bad_scan : (text : List ℕ) → scan states.Bad text ≡ true → ⊥
unfolding step
bad_scan [] e = cc
bad_scan (b ∷ bs) e = bad_scan bs e

deeper_suc : (depth : ℕ) (text : List ℕ) → replicate (suc depth) 91 ++ text ≡ replicate depth 91 ++ 91 ∷ text
deeper_suc zero text = refl
deeper_suc (suc depth) text = ap (λ (z : List ℕ). 91 ∷ z) (deeper_suc depth text)

-- one more `[`
deeper : (depth : ℕ) (text : List ℕ) → replicate (depth + 1) 91 ++ text ≡ replicate depth 91 ++ 91 ∷ text
deeper depth text = rw add-one (deeper_suc depth text)

base_is : (b : ℕ) → is_base b ≡ true → IsBaseType b
base_is b e =
    elim (or_cases (eqb b 66 || eqb b 67 || eqb b 68 || eqb b 70 || eqb b 73 || eqb b 74 || eqb b 83) (eqb b 90) e) [
      | inr at7 ↦ (7, omega arith, sym (eqb-true b 90 at7))
      | inl seven ↦ elim (or_cases (eqb b 66 || eqb b 67 || eqb b 68 || eqb b 70 || eqb b 73 || eqb b 74)
          (eqb b 83) seven) [
            | inr at6 ↦ (6, omega arith, sym (eqb-true b 83 at6))
            | inl six ↦ elim (or_cases (eqb b 66 || eqb b 67 || eqb b 68 || eqb b 70 || eqb b 73) (eqb b 74) six) [
              | inr at5 ↦ (5, omega arith, sym (eqb-true b 74 at5))
              | inl five ↦ elim (or_cases (eqb b 66 || eqb b 67 || eqb b 68 || eqb b 70) (eqb b 73) five) [
                | inr at4 ↦ (4, omega arith, sym (eqb-true b 73 at4))
                | inl four ↦ elim (or_cases (eqb b 66 || eqb b 67 || eqb b 68) (eqb b 70) four) [
                  | inr at3 ↦ (3, omega arith, sym (eqb-true b 70 at3))
                  | inl three ↦ elim (or_cases (eqb b 66 || eqb b 67) (eqb b 68) three) [
                    | inr at2 ↦ (2, omega arith, sym (eqb-true b 68 at2))
                    | inl two ↦ elim (or_cases (eqb b 66) (eqb b 67) two) [
                      | inr at1 ↦ (1, omega arith, sym (eqb-true b 67 at1))
                      | inl at0 ↦ (0, omega arith, sym (eqb-true b 66 at0))
                    ]
                  ]
                ]
              ]
            ]
          ]
    ]

base_element : (b : ℕ) → is_base b ≡ true → IsElementType (b ∷ [])
base_element b e = inl (b, (base_is b e, refl))

named_element : (name : List ℕ) → name ≢ [] → All (λ b. b ≢ 59) name → IsElementType (76 ∷ (name ++ 59 ∷ []))
named_element name some free = inr (name, (record { not_empty = some; no_semicolon = free }, refl))

field_of : (depth : ℕ) (element : List ℕ) → depth ≤ 255 → IsElementType element
    → IsFieldDescriptor (replicate depth 91 ++ element)
field_of depth element le is =
    record { dimensions = depth; element = element; at_most = le; is_element = is; spelled = refl }

-- one more parameter in front
parameter_then : (depth : ℕ) (element rest text : List ℕ) → depth ≤ 255 → IsElementType element → text ≡ element ++ rest
    → Ends rest → Ends (replicate depth 91 ++ text)
parameter_then depth element rest text le is text-is ends = record {
  parameters = (replicate depth 91 ++ element) ∷ ends.parameters;
  returned = ends.returned;
  are_fields = All-cons IsFieldDescriptor (replicate depth 91 ++ element) ends.parameters (field_of depth element le is)
      ends.are_fields;
  is_returned = ends.is_returned;
  spelled =
      let rest-is : replicate depth 91 ++ text ≡ (replicate depth 91 ++ element) ++ rest =
      ap (λ (z : List ℕ). replicate depth 91 ++ z) text-is ∙ sym (append_assoc (replicate depth 91) element rest) in
      rest-is ∙ ap (λ (z : List ℕ). (replicate depth 91 ++ element) ++ z) ends.spelled
      ∙ sym (append_assoc (replicate depth 91 ++ element) (flat_map (λ p. p) ends.parameters) (41 ∷ ends.returned));
}

name_shape : (name rest : List ℕ) → 76 ∷ (name ++ 59 ∷ rest) ≡ (76 ∷ (name ++ 59 ∷ [])) ++ rest
name_shape name rest = ap (λ (z : List ℕ). 76 ∷ z) (sym (append_assoc name (59 ∷ []) rest))

-- one more byte of a name
longer : (Rest : List ℕ → Type 0) (is_empty : Bool) (b : ℕ) (text : List ℕ) → eqb b 59 ≡ false → Named Rest false text
    → Named Rest is_empty (b ∷ text)
longer Rest is_empty b text other n = record {
  name = b ∷ n.name;
  rest = n.rest;
  not_empty = λ h e. cc;
  no_semicolon = All-cons (λ b. b ≢ 59) b n.name (λ e. let same : eqb b 59 ≡ true = rw e refl in cc) n.no_semicolon;
  spelled = ap (λ (z : List ℕ). b ∷ z) n.spelled;
  after = n.after;
}

name_ends : (Rest : List ℕ → Type 0) (b : ℕ) (text : List ℕ) → eqb b 59 ≡ true → Rest text → Named Rest false (b ∷ text)
name_ends Rest b text is h = record {
  name = [];
  rest = text;
  not_empty = λ e. absurd cc;
  no_semicolon = All-nil (λ b. b ≢ 59);
  spelled = ap (λ (z : ℕ). z ∷ text) (eqb-true b 59 is);
  after = h;
}

returned_by : (text : List ℕ) → IsFieldDescriptor text ⊎ ((true ≡ true) × (text ≡ 86 ∷ [])) → IsReturnDescriptor text
returned_by text (inl field) = inl field
returned_by text (inr void) = inr void.1

read_to_last : (depth : ℕ) (may_be_void : Bool) (b : ℕ) (text : List ℕ) → depth ≤ 255
    → scan (states.Last depth may_be_void) (b ∷ text) ≡ true
    → ((state : ScanState) → scan state text ≡ true → Left state text)
    → IsFieldDescriptor (replicate depth 91 ++ b ∷ text) ⊎ ((may_be_void ≡ true) × (b ∷ text ≡ 86 ∷ []))
unfolding step
read_to_last depth may_be_void b text le e rest =
    elim (scan_cond_cases (eqb b 86) (cond may_be_void states.End states.Bad)
    (cond (eqb b 91) (cond (ltb depth 255) (states.Last (depth + 1) false) states.Bad)
    (cond (eqb b 76) (states.LastName true) (cond (is_base b) states.End states.Bad))) text e) [
      | inl void ↦ elim (scan_cond_cases may_be_void states.End states.Bad text void.1) [
        | inl good ↦ let end' : text ≡ [] = rest states.End good.1 in let b-is = eqb-true b 86 void.0 in
            inr (good.0, rw (end', b-is) refl)
        | inr bad ↦ absurd (bad_scan text bad.1)
      ]
      | inr other ↦ elim (scan_cond_cases (eqb b 91) (cond (ltb depth 255) (states.Last (depth + 1) false) states.Bad)
          (cond (eqb b 76) (states.LastName true) (cond (is_base b) states.End states.Bad)) text other.1) [
            | inl array ↦ elim (scan_cond_cases (ltb depth 255) (states.Last (depth + 1) false) states.Bad text
                array.1) [
                  | inl good ↦
                      let below : depth < 255 = ltb-true depth 255 good.0 in
                      let b-is : b ≡ 91 = eqb-true b 91 array.0 in
                      let text-is : replicate (depth + 1) 91 ++ text ≡ replicate depth 91 ++ b ∷ text =
                      deeper depth text
                      ∙ ap (λ (z : ℕ). replicate depth 91 ++ z ∷ text) (sym b-is) in
                      elim (rest (states.Last (depth + 1) false) good.1 (omega arith)) [
                        | inl field ↦ inl (subst IsFieldDescriptor text-is field)
                        | inr void ↦ absurd cc
                      ]
                  | inr bad ↦ absurd (bad_scan text bad.1)
                ]
            | inr scalar ↦ elim (scan_cond_cases (eqb b 76) (states.LastName true)
                (cond (is_base b) states.End states.Bad)
                text scalar.1) [
                  | inl object ↦
                      let n = rest (states.LastName true) object.1 in
                      let b-is : b ≡ 76 = eqb-true b 76 object.0 in
                      let text-is : 76 ∷ (n.name ++ 59 ∷ []) ≡ b ∷ text =
                      ap (λ (z : List ℕ). 76 ∷ (n.name ++ 59 ∷ z)) (sym n.after)
                      ∙ ap (λ (z : List ℕ). 76 ∷ z) (sym n.spelled) ∙ ap (λ (z : ℕ). z ∷ text) (sym b-is) in
                      let P : List ℕ → Type 0 = λ z. IsFieldDescriptor (replicate depth 91 ++ z) in
                      inl (subst P text-is
                      (field_of depth (76 ∷ (n.name ++ 59 ∷ [])) le
                      (named_element n.name (n.not_empty refl) n.no_semicolon)))
                  | inr plain ↦ elim (scan_cond_cases (is_base b) states.End states.Bad text plain.1) [
                    | inl base ↦
                        let end' : text ≡ [] = rest states.End base.1 in
                        let P : List ℕ → Type 0 = λ z. IsFieldDescriptor (replicate depth 91 ++ b ∷ z) in
                        inl (subst P (sym end') (field_of depth (b ∷ []) le (base_element b base.0)))
                    | inr bad ↦ absurd (bad_scan text bad.1)
                  ]
                ]
          ]
    ]

no_parameter : (text : List ℕ) → IsReturnDescriptor text → Ends (41 ∷ text)
no_parameter text is =
    record {
      parameters = [];
      returned = text;
      are_fields = All-nil IsFieldDescriptor;
      is_returned = is;
      spelled =
          refl;
    }

read_to_parameter : (depth b : ℕ) (text : List ℕ) → depth ≤ 255 → scan (states.Parameter depth) (b ∷ text) ≡ true
    → ((state : ScanState) → scan state text ≡ true → Left state text) → Ends (replicate depth 91 ++ b ∷ text)
unfolding step
read_to_parameter depth b text le e rest =
    elim (scan_cond_cases (eqb b 41) (cond (eqb depth 0) (states.Last 0 true) states.Bad)
    (cond (eqb b 91) (cond (ltb depth 255) (states.Parameter (depth + 1)) states.Bad)
    (cond (eqb b 76) (states.ParameterName true) (cond (is_base b) (states.Parameter 0) states.Bad))) text e) [
      | inl closed ↦ elim (scan_cond_cases (eqb depth 0) (states.Last 0 true) states.Bad text closed.1) [
        | inl good ↦
            let depth-is : depth ≡ 0 = eqb-true depth 0 good.0 in
            let b-is : b ≡ 41 = eqb-true b 41 closed.0 in
            let text-is : 41 ∷ text ≡ replicate depth 91 ++ b ∷ text = rw (depth-is, b-is) refl in
            subst Ends text-is (no_parameter text (returned_by text (rest (states.Last 0 true) good.1 (omega arith))))
        | inr bad ↦ absurd (bad_scan text bad.1)
      ]
      | inr other ↦ elim (scan_cond_cases (eqb b 91) (cond (ltb depth 255) (states.Parameter (depth + 1)) states.Bad)
          (cond (eqb b 76) (states.ParameterName true) (cond (is_base b) (states.Parameter 0) states.Bad)) text
          other.1) [
            | inl array ↦ elim (scan_cond_cases (ltb depth 255) (states.Parameter (depth + 1)) states.Bad text
                array.1) [
                  | inl good ↦
                      let below : depth < 255 = ltb-true depth 255 good.0 in
                      let b-is : b ≡ 91 = eqb-true b 91 array.0 in
                      let text-is : replicate (depth + 1) 91 ++ text ≡ replicate depth 91 ++ b ∷ text =
                      deeper depth text
                      ∙ ap (λ (z : ℕ). replicate depth 91 ++ z ∷ text) (sym b-is) in
                      subst Ends text-is (rest (states.Parameter (depth + 1)) good.1 (omega arith))
                  | inr bad ↦ absurd (bad_scan text bad.1)
                ]
            | inr scalar ↦ elim (scan_cond_cases (eqb b 76) (states.ParameterName true)
                (cond (is_base b) (states.Parameter 0) states.Bad) text scalar.1) [
                  | inl object ↦
                      let n = rest (states.ParameterName true) object.1 in
                      let b-is : b ≡ 76 = eqb-true b 76 object.0 in
                      let text-is : b ∷ text ≡ (76 ∷ (n.name ++ 59 ∷ [])) ++ n.rest = ap (λ (z : ℕ). z ∷ text) b-is
                      ∙ ap (λ (z : List ℕ). 76 ∷ z) n.spelled ∙ name_shape n.name n.rest in
                      parameter_then depth (76 ∷ (n.name ++ 59 ∷ [])) n.rest (b ∷ text) le
                      (named_element n.name (n.not_empty refl) n.no_semicolon) text-is n.after
                  | inr plain ↦ elim (scan_cond_cases (is_base b) (states.Parameter 0) states.Bad text plain.1) [
                    | inl base ↦ parameter_then depth (b ∷ []) text (b ∷ text) le (base_element b base.0) refl
                        (rest (states.Parameter 0) base.1 (omega arith))
                    | inr bad ↦ absurd (bad_scan text bad.1)
                  ]
                ]
          ]
    ]

scan_left : (text : List ℕ) (state : ScanState) → scan state text ≡ true → Left state text
unfolding step
scan_left [] states.Open e = absurd cc
scan_left [] (states.Parameter depth) e = absurd cc
scan_left [] (states.ParameterName is_empty) e = absurd cc
scan_left [] (states.Last depth may_be_void) e = absurd cc
scan_left [] (states.LastName is_empty) e = absurd cc
scan_left [] states.End e = refl
scan_left [] states.Bad e = absurd cc
scan_left (b ∷ text) states.End e = absurd (bad_scan text e)
scan_left (b ∷ text) states.Bad e = absurd (bad_scan text e)
scan_left (b ∷ text) states.Open e =
    elim (scan_cond_cases (eqb b 40) (states.Parameter 0) states.Bad text e) [
      | inl here ↦
          let ends = scan_left text (states.Parameter 0) here.1 (omega arith) in
          record {
            parameters = ends.parameters;
            returned = ends.returned;
            are_fields = ends.are_fields;
            is_returned =
                ends.is_returned;
            spelled = ap (λ (z : ℕ). z ∷ text) (eqb-true b 40 here.0)
                ∙ ap (λ (z : List ℕ). 40 ∷ z) ends.spelled;
          }
      | inr other ↦ absurd (bad_scan text other.1)
    ]
scan_left (b ∷ text) (states.ParameterName is_empty) e =
    elim (scan_cond_cases (eqb b 59) (cond is_empty states.Bad (states.Parameter 0)) (states.ParameterName false) text
    e) [
      | inl here ↦ elim (scan_cond_cases is_empty states.Bad (states.Parameter 0) text here.1) [
        | inl bad ↦ absurd (bad_scan text bad.1)
        | inr good ↦
            let P : Bool → Type 0 = λ z. Named Ends z (b ∷ text) in
            subst P (sym good.0)
            (name_ends Ends b text here.0 (scan_left text (states.Parameter 0) good.1 (omega arith)))
      ]
      | inr other ↦ longer Ends is_empty b text other.0 (scan_left text (states.ParameterName false) other.1)
    ]
scan_left (b ∷ text) (states.LastName is_empty) e =
    elim (scan_cond_cases (eqb b 59) (cond is_empty states.Bad states.End) (states.LastName false) text e) [
      | inl here ↦ elim (scan_cond_cases is_empty states.Bad states.End text here.1) [
        | inl bad ↦ absurd (bad_scan text bad.1)
        | inr good ↦
            let P : Bool → Type 0 = λ z. Named (λ rest. rest ≡ []) z (b ∷ text) in
            subst P (sym good.0) (name_ends (λ rest. rest ≡ []) b text here.0 (scan_left text states.End good.1))
      ]
      | inr other ↦ longer (λ rest. rest ≡ []) is_empty b text other.0 (scan_left text (states.LastName false) other.1)
    ]
scan_left (b ∷ text) (states.Last depth may_be_void) e =
    λ le. read_to_last depth may_be_void b text le e (scan_left text)
scan_left (b ∷ text) (states.Parameter depth) e = λ le. read_to_parameter depth b text le e (scan_left text)

-- whether the text is a field's descriptor
pub field_is : (text : List ℕ) → is_field text ≡ true → IsFieldDescriptor text
field_is text e =
    elim (scan_left text (states.Last 0 false) e (omega arith)) [ inl field ↦ field | inr void ↦ absurd cc ]

pub method_is : (text : List ℕ) → is_method text ≡ true → IsMethodDescriptor text
method_is text e = scan_left text states.Open e

lacks_by : (hit : Bool) (b : ℕ) (text : List ℕ) → eqb b 59 ≡ hit → cond hit false (lacks_semicolon text) ≡ true
    → (lacks_semicolon text ≡ true → All (λ b. b ≢ 59) text) → All (λ b. b ≢ 59) (b ∷ text)
lacks_by true b text is e rest = absurd cc
lacks_by false b text is e rest = All-cons (λ b. b ≢ 59) b text (λ same. let hit : eqb b 59 ≡ true = rw same refl in cc)
    (rest e)

lacks_is : (text : List ℕ) → lacks_semicolon text ≡ true → All (λ b. b ≢ 59) text
lacks_is [] e = All-nil (λ b. b ≢ 59)
lacks_is (b ∷ text) e = lacks_by (eqb b 59) b text refl e (lacks_is text)

class_name_by : (hit : Bool) (b : ℕ) (text : List ℕ) → eqb b 91 ≡ hit
    → cond hit (is_field (b ∷ text)) (lacks_semicolon (b ∷ text)) ≡ true → IsClassName (b ∷ text)
class_name_by true b text is e = inl (field_is (b ∷ text) e, (text, ap (λ (z : ℕ). z ∷ text) (eqb-true b 91 is)))
class_name_by false b text is e =
    inr (
      record { not_empty = λ h. cc; no_semicolon = lacks_is (b ∷ text) e },
      λ rest h. let first : b ≡ 91 = cc in
          let hit : eqb b 91 ≡ true = rw first refl in cc,
    )

pub class_name_is : (text : List ℕ) → is_class_name text ≡ true → IsClassName text
unfolding is_class_name
class_name_is [] e = absurd cc
class_name_is (b ∷ text) e = class_name_by (eqb b 91) b text refl e
