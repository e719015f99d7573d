-- A text says one signature, or none.
use Rattle.std.proofs.Common.{◌≡◌, ℕ, Bool, true, false, List, Option, Some, slice_get, refl, sym, ap, ◌∙◌}
use Rattle.classfile.specs.Grammar.{IsMethodDescriptor}
use Rattle.classfile.specs.reading.Descriptors.{is_method}
use Rattle.classfile.proofs.ScanLemmas.{method_decides}
use Rattle.loading.specs.Names.{text_at}
use Rattle.program.specs.declared.signature.Signature.{Signature}
use Rattle.program.specs.Signatures.{IsSignatureOf, signature_if, signature_in}
use Rattle.program.specs.Laws.{OneListOfSignatures, OneReturnKind}
use Rattle.program.proofs.SameListsLemmas.{same_list}

-- what is determined where a text is a method descriptor and where it is not is determined
decided : {X : Type 0} (text : List ℕ) (x y : X) → (IsMethodDescriptor text → x ≡ y)
    → ((IsMethodDescriptor text → ⊥) → x ≡ y) → x ≡ y
decided text x y is not = by_test (is_method text) refl
  where
    by_test : (b : Bool) → is_method text ≡ b → x ≡ y
    by_test true e = is ((method_decides text).0 e)
    by_test false e = not (λ d. let hit : is_method text ≡ true = (method_decides text).1 d in cc)

same_signature : (text : List ℕ) (a b : Option Signature) → IsSignatureOf text a → IsSignatureOf text b → a ≡ b
same_signature text a b h g =
    decided text a b (λ d. h.descriptor d ∙ sym (g.descriptor d)) (λ none. h.other none ∙ sym (g.other none))

pub one_list_of_signatures : OneListOfSignatures
one_list_of_signatures f a b h g = same_list a b (h.count ∙ sym g.count) each
  where
    each : (i : ℕ) (x y : Option Signature) → slice_get a i ≡ Some x → slice_get b i ≡ Some y → x ≡ y
    each i x y at-x at-y =
        sym (ap signature_if at-x)
        ∙ same_signature (text_at f i) (signature_in a i) (signature_in b i) (h.each i) (g.each i)
        ∙ ap signature_if at-y

pub one_return_kind : OneReturnKind
one_return_kind text a b h g =
    decided text a b (λ d. h.descriptor d ∙ sym (g.descriptor d)) (λ none. h.other none ∙ sym (g.other none))
