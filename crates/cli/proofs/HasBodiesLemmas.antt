-- Each code has a body, and the code of a method that was read from bytes is bytes.
use Rattle.std.proofs.Common.{◌≡◌, ℕ, ◌+◌, ◌<◌, List, [], ◌∷◌, ◌++◌, length}
use Rattle.std.proofs.Common.{Some, get_or, ap, subst, ◌∙◌, arith}
use Rattle.std.specs.List.{Contains, flat_map}
use Rattle.std.proofs.lemmas.List.Elements.{Contains-append_left, Contains-append_right}
use Rattle.std.proofs.lemmas.Option.{slice_get-get_or, get_or_from_slice_get}
use Rattle.classfile.specs.Class.{IsClassText}
use Rattle.classfile.specs.ClassFile.{ClassFile}
use Rattle.classfile.specs.Faults.{IsBytes}
use Rattle.classfile.specs.Members.{code_among}
use Rattle.classfile.specs.Spelling.{u2, u4, constant_text}
use Rattle.classfile.specs.Text.{attribute_text, class_text, code_text, handler_text, member_text, table_text}
use Rattle.classfile.specs.Text.{unread_text}
use Rattle.classfile.specs.declared.attribute.Attribute.{Attribute}
use Rattle.classfile.specs.declared.attribute.Attribute.TheVariants as attributes
use Rattle.classfile.specs.declared.code.Code.{Code}
use Rattle.classfile.specs.declared.member.Member.{Member}
use Rattle.bytecode.specs.declared.placed.Placed.{Placed}
use Rattle.bytecode.specs.Body.{IsBody}
use Rattle.bytecode.proofs.DecidedLemmas.{Bytes}
use Rattle.bytecode.proofs.HasBodyLemmas.{body_of}
use Rattle.initializer_analysis.proofs.ReachesLemmas.{in_first, in_rest}
use Rattle.cli.proofs.HasProgramLemmas.{in_flat}

-- ---- what is read from bytes

-- all of a list are bytes
abbrev AreBytes : List ℕ → Type 0
AreBytes text = (b : ℕ) → Contains text b → b < 256

are_bytes : (text : List ℕ) → IsBytes text → AreBytes text
are_bytes text fits b (i, low, is) =
    let at = slice_get-get_or text i b low ∙ ap (λ (x : ℕ). Some x) is in
    let same : get_or text i 0 ≡ b = get_or_from_slice_get text i b 0 at in
    let less = fits i in
    omega (arith, same)

is_all : (text : List ℕ) → AreBytes text → Bytes text
is_all text fits i d low =
    fits (get_or text i d) (
      i,
      low,
      get_or_from_slice_get text i (get_or text i d) (get_or text i d)
          (slice_get-get_or text i d low),
    )

front : (xs ys : List ℕ) → AreBytes (xs ++ ys) → AreBytes xs
front xs ys fits b at = fits b (Contains-append_left xs ys b at)

back : (xs ys : List ℕ) → AreBytes (xs ++ ys) → AreBytes ys
back xs ys fits b at = fits b (Contains-append_right xs ys b at)

one_item : {X : Type 0} (text : X → List ℕ) (items : List X) (x : X) → AreBytes (table_text text items)
    → Contains items x → AreBytes (text x)
one_item text items x fits among b at =
    back (u2 (length items)) (flat_map text items) fits b (in_flat text items x b among at)

in_code : (code : Code) → AreBytes (code_text code) → AreBytes code.code
in_code code fits =
    let tables = table_text handler_text code.exceptions ++ table_text unread_text code.attributes in
    let locals = back (u2 code.max_stack) (u2 code.max_locals ++ ((u4 (length code.code) ++ code.code) ++ tables))
    fits in
    let body = back (u2 code.max_locals) ((u4 (length code.code) ++ code.code) ++ tables) locals in
    back (u4 (length code.code)) code.code (front (u4 (length code.code) ++ code.code) tables body)

-- the Code whose code it is
code_there : (found : List Attribute) (code : Code) → code_among found ≡ Some code
    → (name : ℕ) × Contains found (attributes.Code name code)
code_there [] code is = cc
code_there (attributes.Code name first ∷ rest) code is =
    let same : first ≡ code = cc in (
      name,
      subst (λ (c : Code). Contains (attributes.Code name first ∷ rest) (attributes.Code name c)) same
          (in_first (attributes.Code name first) rest),
    )
code_there (attributes.ConstantValue name value ∷ rest) code is =
    let (other, at) = code_there rest code is in
    (other, in_rest (attributes.Code other code) (attributes.ConstantValue name value) rest at)
code_there (attributes.Unread unread ∷ rest) code is =
    let (other, at) = code_there rest code is in
    (other, in_rest (attributes.Code other code) (attributes.Unread unread) rest at)

in_member : (m : Member) (code : Code) → code_among m.attributes ≡ Some code → AreBytes (member_text m)
    → AreBytes code.code
in_member m code is fits =
    let (name, at) = code_there m.attributes code is in
    let table = table_text attribute_text m.attributes in
    let names = back (u2 m.access_flags) (u2 m.name ++ (u2 m.descriptor ++ table)) fits in
    let all = back (u2 m.descriptor) table (back (u2 m.name) (u2 m.descriptor ++ table) names) in
    let framed = one_item attribute_text m.attributes (attributes.Code name code) all at in
    let content = back (u2 name) (u4 (length (code_text code)) ++ code_text code) framed in
    in_code code (back (u4 (length (code_text code))) (code_text code) content)

in_class : (f : ClassFile) (m : Member) (code : Code) → Contains f.methods m → code_among m.attributes ≡ Some code
    → AreBytes (class_text f) → AreBytes code.code
in_class f m code among is fits =
    let methods = table_text member_text f.methods in
    let last = methods ++ table_text attribute_text f.attributes in
    let fields = table_text member_text f.fields ++ last in
    let parents = (u2 f.access_flags ++ (u2 f.this_class ++ (u2 f.super_class ++ table_text u2 f.interfaces))) in
    let constants = table_text constant_text f.constants ++ (parents ++ fields) in
    let a = back (u4 3405691582) ((u2 0 ++ u2 52) ++ constants) fits in
    let b = back (u2 0 ++ u2 52) constants a in
    let c = back (table_text constant_text f.constants) (parents ++ fields) b in
    let d = back parents fields c in
    let e = back (table_text member_text f.fields) last d in
    let g = front methods (table_text attribute_text f.attributes) e in
    in_member m code is (one_item member_text f.methods m g among)

-- each method of a class file that was read has a body, where it has code
pub bodies_of : (text : List ℕ) (f : ClassFile) → IsBytes text → IsClassText text f → (m : Member)
    → Contains f.methods m → (code : Code) → code_among m.attributes ≡ Some code
    → (body : List Placed) × IsBody code.code body
bodies_of text f fits is m among code has =
    body_of code.code (is_all code.code (in_class f m code among has
    (are_bytes (class_text f) (subst IsBytes is.spelled fits))))
