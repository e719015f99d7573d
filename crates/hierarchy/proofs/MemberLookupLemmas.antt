-- Steps of a search from a class up, at a class that is known by an equation.
use Rattle.std.proofs.Common.{◌≡◌, ◌≢◌, ℕ, Option, Some, None, sym, subst}
use Rattle.built_in.specs.declared.class_id.BuiltIn.{BuiltIn}
use Rattle.built_in.specs.Keys.{NameAndType}
use Rattle.loading.specs.Families.{Family}
use Rattle.built_in.specs.Methods.{HasMember, key_of_member}
use Rattle.hierarchy.specs.MemberLookup.{UpClasses, member, no_member}
use Rattle.built_in.specs.declared.method.BuiltInMethod.{BuiltInMethod}
use Rattle.hierarchy.specs.declared.member.Method.{Method}
use Rattle.hierarchy.specs.declared.member.Method.TheVariants as method
use Rattle.loading.specs.declared.given.Superclass.{Superclass}
use Rattle.loading.specs.declared.given.Superclass.TheVariants as super

pub built_in_member : (family : Family) (own : ℕ → Option ℕ) (key : NameAndType) (at : Superclass) (b : BuiltIn)
    (m : BuiltInMethod)
    → at ≡ super.BuiltIn b → HasMember b m → key_of_member m ≡ key
    → UpClasses family own key at (Some (method.BuiltIn m))
built_in_member family own key at b m is has named =
    subst (λ (t : Superclass). UpClasses family own key t (Some (method.BuiltIn m))) (sym is) (member has named)

pub no_built_in : (family : Family) (own : ℕ → Option ℕ) (key : NameAndType) (at : Superclass) (b : BuiltIn)
    (r : Option Method)
    → at ≡ super.BuiltIn b → ((m : BuiltInMethod) → HasMember b m → key_of_member m ≢ key) → r ≡ None
    → UpClasses family own key at r
no_built_in family own key at b r is none nothing =
    subst (λ (t : Superclass). UpClasses family own key t r) (sym is)
    (subst (λ (o : Option Method). UpClasses family own key (super.BuiltIn b) o) (sym nothing) (no_member none))
