-- The first instance method along superclasses, by the nearest methods of all kinds.
use Rattle.std.proofs.Common.{◌≡◌, ℕ, ◌<◌, Bool, true, false, cond, not, Option, Some, None, slice_get, refl, sym}
use Rattle.std.proofs.Common.{ap, ◌∙◌, arith}
use Rattle.built_in.specs.Keys.{NameAndType}
use Rattle.loading.specs.Families.{Family, IsFamily, superclass_in, superclass_if, file_of}
use Rattle.loading.specs.declared.given.GivenClass.{GivenClass}
use Rattle.loading.specs.declared.given.Superclass.{Superclass}
use Rattle.loading.specs.declared.given.Superclass.TheVariants as super
use Rattle.hierarchy.specs.MemberLookup.{UpClasses, here, up, beyond, member, no_member, method_in, method_of}
use Rattle.hierarchy.specs.MemberLookup.{method_with, keep_if, is_static, flags_in}
use Rattle.hierarchy.specs.Selection.{is_instance_method}
use Rattle.hierarchy.specs.declared.member.Method.{Method}
use Rattle.hierarchy.specs.declared.member.Method.TheVariants as method
use Rattle.hierarchy.specs.steps.Specials.{above_static}
use Rattle.hierarchy.proofs.FamiliesChainLemmas.{height_at, height_falls}

module _ (family : Family) (key : NameAndType) where
  abbrev all_in : ℕ → Option ℕ
  all_in c = method_in family key c

  abbrev instance_in : ℕ → Option ℕ
  instance_in c = method_with is_instance_method family key c

  keeps : (c k : ℕ) (b : Bool) → all_in c ≡ Some k → is_static (flags_in family c k) ≡ b
      → instance_in c ≡ cond (not b) (Some k) None
  keeps c k b has is =
      ap (keep_if is_instance_method (flags_in family c)) has ∙ ap (λ (x : Bool). cond (not x) (Some k) None) is

  lacks : (c : ℕ) → all_in c ≡ None → instance_in c ≡ None
  lacks c none = ap (keep_if is_instance_method (flags_in family c)) none

  -- a class that declares a method is there, and so has a superclass
  is_class : (c k : ℕ) → all_in c ≡ Some k → superclass_in family c ≡ None → ⊥
  is_class c k has none = by (slice_get family c) refl none
    where
      by : (o : Option GivenClass) → slice_get family c ≡ o → superclass_if o ≡ None → ⊥
      by None at e =
          let clash : None ≡ Some k = sym (ap (λ (x : Option GivenClass). method_of key (file_of x)) at) ∙ has in
          absurd cc
      by (Some given) at e = absurd cc

  -- what is not static is the first instance method
  pub is_first_instance : {s : Superclass} {r : Option Method} → UpClasses family all_in key s r
      → above_static family r ≡ None → UpClasses family instance_in key s r
  is_first_instance (here {c = c} {k = k} has) none = by (is_static (flags_in family c k)) refl
    where
      by : (b : Bool) → is_static (flags_in family c k) ≡ b
          → UpClasses family instance_in key (super.Given c) (Some (method.Given c k))
      by true is =
          absurd (is_class c k has
          (sym (ap (λ (b : Bool). cond b (superclass_in family c) None) is) ∙ none))
      by false is = here (keeps c k false has is)
  is_first_instance (up {c = c} none above rest) found = up (lacks c none) above (is_first_instance rest found)
  is_first_instance (beyond {c = c} none above) found = beyond (lacks c none) above
  is_first_instance (member has is) found = member has is
  is_first_instance (no_member none) found = no_member none

  -- past a static one
  pub past_static : {s : Superclass} {found : Option Method} (t : Superclass) (r : Option Method)
      → UpClasses family all_in key s found → above_static family found ≡ Some t → UpClasses family instance_in key t r
      → UpClasses family instance_in key s r
  past_static t r (here {c = c} {k = k} has) above rest = by (is_static (flags_in family c k)) refl
    where
      by : (b : Bool) → is_static (flags_in family c k) ≡ b → UpClasses family instance_in key (super.Given c) r
      by true is =
          up (keeps c k true has is) (sym (ap (λ (b : Bool). cond b (superclass_in family c) None) is) ∙ above) rest
      by false is =
          let clash : None ≡ Some t = sym (ap (λ (b : Bool). cond b (superclass_in family c) None) is) ∙ above in
          absurd cc
  past_static t r (up {c = c} none is found) above rest = up (lacks c none) is (past_static t r found above rest)
  past_static t r (beyond none is) above rest = absurd cc
  past_static t r (member has is) above rest = absurd cc
  past_static t r (no_member none) above rest = absurd cc

  -- which stands lower
  pub falls_past : {s : Superclass} {found : Option Method} (t : Superclass) → IsFamily family
      → UpClasses family all_in key s found → above_static family found ≡ Some t
      → height_at family t < height_at family s
  falls_past t fits (here {c = c} {k = k} has) above = by (is_static (flags_in family c k)) refl
    where
      by : (b : Bool) → is_static (flags_in family c k) ≡ b
          → height_at family t < height_at family (super.Given c)
      by true is =
          height_falls family c t fits
          (sym (ap (λ (b : Bool). cond b (superclass_in family c) None) is) ∙ above)
      by false is =
          let clash : None ≡ Some t = sym (ap (λ (b : Bool). cond b (superclass_in family c) None) is) ∙ above in
          absurd cc
  falls_past t fits (up {c = c} {s = s} none is found) above =
      let low = falls_past t fits found above in
      let step = height_falls family c s fits is in
      omega (arith, low, step)
  falls_past t fits (beyond none is) above = absurd cc
  falls_past t fits (member has is) above = absurd cc
  falls_past t fits (no_member none) above = absurd cc
