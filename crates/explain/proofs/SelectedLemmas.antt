-- What is selected on objects of some class is selected on those of its own.
use Rattle.std.proofs.Common.{◌≡◌, ◌∙◌, ◌<◌, ℕ, Bool, true, false, cond, ◌∷◌, length, Option, Some, None, is_some}
use Rattle.std.proofs.Common.{slice_get, refl, sym, ap, subst}
use Rattle.std.specs.List.{find}
use Rattle.std.specs.Option.{option_or}
use Rattle.std.proofs.lemmas.Option.{slice_get_within}
use Rattle.built_in.specs.Keys.{NameAndType}
use Rattle.built_in.specs.Methods.{key_of_member}
use Rattle.built_in.specs.declared.class_id.ClassId.TheVariants as class
use Rattle.loading.specs.Families.{Family, file_of}
use Rattle.loading.specs.declared.given.GivenClass.{GivenClass}
use Rattle.hierarchy.specs.Initialization.{given_superclasses}
use Rattle.hierarchy.specs.MemberLookup.{flags_in, is_inherited, is_private, key_in, method_in}
use Rattle.hierarchy.specs.MemberLookup.{method_of}
use Rattle.hierarchy.specs.Resolution.{instance_method_in}
use Rattle.hierarchy.specs.Selectable.{IsSelectable}
use Rattle.hierarchy.specs.Selection.{declared_by, first_declared, found_from, member_at_end, method_at}
use Rattle.hierarchy.specs.Selection.{selected, the_default}
use Rattle.hierarchy.specs.Subtypes.{end_of_chain}
use Rattle.hierarchy.specs.declared.member.Method.{Method}
use Rattle.hierarchy.specs.declared.member.Method.TheVariants as method
use Rattle.hierarchy.proofs.SelectableLemmas.{found_declares, nothing_selected, private_alone, selects_built_in}
use Rattle.hierarchy.proofs.SelectableLemmas.{selects_given, kept_same, selects_itself, private_within}

abbrev IsOwn : Family → Method → ℕ → ℕ → Type 0
IsOwn family m d k = (d < length family) × (selected family (class.Given d) m ≡ Some (method.Given d k))

-- ---- a method that a class declares by a name and a descriptor

declared_within : (family : Family) (name : NameAndType) (d k : ℕ) → instance_method_in family name d ≡ Some k
    → d < length family
declared_within family name d k has = by (slice_get family d) refl
    (kept_same is_inherited (flags_in family d) (method_in family name d) k has)
  where
    by : (o : Option GivenClass) → slice_get family d ≡ o → method_of name (file_of (slice_get family d)) ≡ Some k
        → d < length family
    by None at e = absurd (let none : method_of name (file_of None) ≡ Some k = rw at at e in cc)
    by (Some g) at e = slice_get_within family d g at

declared_found : (family : Family) (name : NameAndType) (d k : ℕ) → instance_method_in family name d ≡ Some k
    → found_from is_inherited family name (class.Given d) ≡ Some (method.Given d k)
declared_found family name d k has =
    ap (λ (o : Option Method). option_or (option_or o (member_at_end name (end_of_chain family d)))
    (the_default family name d)) first
  where
    first : first_declared (instance_method_in family name) (d ∷ given_superclasses family d)
        ≡ Some (method.Given d k)
    first =
        ap (λ (v : Option ℕ). declared_by (instance_method_in family name) (cond (is_some v) (Some d)
        (find (λ c. is_some (instance_method_in family name c)) (given_superclasses family d)))) has
        ∙ ap (method_at d) has

own_found : (family : Family) (name : NameAndType) (e d k : ℕ)
    → found_from is_inherited family name (class.Given e) ≡ Some (method.Given d k)
    → (d < length family) × (found_from is_inherited family name (class.Given d) ≡ Some (method.Given d k))
own_found family name e d k found =
    let has = found_declares family name e d k found in
    (declared_within family name d k has, declared_found family name d k has)

-- ---- a private one

-- ---- any

of_given : (family : Family) (c j d k : ℕ) → IsSelectable family (method.Given c j) d k
    → IsOwn family (method.Given c j) d k
of_given family c j d k (e, small, found) = by (is_private (flags_in family c j)) refl
  where
    by_name : is_private (flags_in family c j) ≡ false → (name : Option NameAndType) → key_in family c j ≡ name
        → IsOwn family (method.Given c j) d k
    by_name other None none = absurd ((nothing_selected family c j other none d k).0 (e, small, found))
    by_name other (Some name) is =
        let (low, own) = own_found family name e d k (sym (selects_given family c j name other is e) ∙ found) in
        (low, selects_given family c j name other is d ∙ own)

    by : (private : Bool) → is_private (flags_in family c j) ≡ private → IsOwn family (method.Given c j) d k
    by true private =
        let (of, at) = (private_alone family c j private d k).0 (e, small, found) in (
          subst (λ (n : ℕ). n < length family) of (private_within family c j private),
          selects_itself family c j private d
              ∙ ap (λ (n : ℕ). Some (method.Given n j)) of ∙ ap (λ (n : ℕ). Some (method.Given d n)) at,
        )
    by false other = by_name other (key_in family c j) refl

pub own_selected : (family : Family) (m : Method) (d k : ℕ) → IsSelectable family m d k
    → (d < length family) × (selected family (class.Given d) m ≡ Some (method.Given d k))
own_selected family (method.Given c j) d k has = of_given family c j d k has
own_selected family (method.BuiltIn b) d k (e, small, found) =
    let (low, own) = own_found family (key_of_member b) e d k (sym (selects_built_in family b e) ∙ found) in
    (low, selects_built_in family b d ∙ own)

-- two methods that are selected are one
pub same_given : (o : Option Method) (c j d k : ℕ) → o ≡ Some (method.Given c j) → o ≡ Some (method.Given d k)
    → (c ≡ d) × (j ≡ k)
same_given o c j d k p q = (let two : Some (method.Given c j) ≡ Some (method.Given d k) = sym p ∙ q in (cc, cc))
