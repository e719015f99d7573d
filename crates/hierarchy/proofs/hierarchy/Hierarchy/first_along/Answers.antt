use Rattle.std.proofs.Common.{◌≡◌, ◌≤◌, ℕ, List, None, [], ◌∷◌, length, Option, ap, subst, inl, inr}
use Rattle.std.proofs.lemmas.Bool.{cases_lt}
use Rattle.std.proofs.lemmas.Option.{slice_get_past}
use Rattle.built_in.specs.Keys.{NameAndType}
use Rattle.loading.specs.Families.{Family, IsFamily, IsParentsFirst, superclasses_in, given_superclass, superclass_if}
use Rattle.hierarchy.specs.MemberLookup.{field_in}
use Rattle.hierarchy.specs.Search.{Search}
use Rattle.hierarchy.specs.declared.member.DeclaredMember.{DeclaredMember}
use Rattle.hierarchy.specs.declared.wanted.Wanted.TheVariants as wanted
use Rattle.hierarchy.specs.steps.HierarchyTables.{interface_field_in}
use Rattle.hierarchy.specs.steps.Reaches.{Nearest}
use Rattle.hierarchy.proofs.AlongSuperclassesLemmas.{along_superclasses}
use Rattle.hierarchy.proofs.UpClassesLemmas.{no_class_declares, is_some_not_none}
use Rattle.hierarchy.proofs.hierarchy.Hierarchy.first_along.Goals as goal

-- what is nearest is what is found where no interface declares it
found : (family all other : Family) (name : NameAndType) (order : List ℕ) (class : ℕ) (r : Option DeclaredMember)
    → all ≡ family → other ≡ family → IsFamily all → IsParentsFirst other order
    → ((i : ℕ) → interface_field_in family name i ≡ None) → Nearest family (field_in family name) class r
    → Search family (field_in family name) (class ∷ []) r
found family all other name order class r same also fits first none near =
    along_superclasses family (field_in family name) order
    (subst (λ (f : Family). IsParentsFirst f order) also first) (subst IsFamily same fits)
    (λ i is. rw is at (none i)) class r near

pub returns-in-Some : goal.returns-in-Some
returns-in-Some c = λ name is none.
    found c.args.self.now.family c.family.result.now c.family-2.result.now name c.parents_first-order.result.now
    c.args.class c.nearest.result c.family.ensures c.family-2.ensures c.classes-classes.ensures.fits
    c.parents_first-order.ensures none (c.nearest.ensures name is)

pub returns-in-None : goal.returns-in-None
returns-in-None c = λ name is none.
    let family = c.args.self.now.family in
    let class = c.args.class in
    let past : length family ≤ class = elim (cases_lt class (length family)) [
      | inl small ↦ absurd (is_some_not_none c.top.result (c.top.ensures.none small) c.in-None.is)
      | inr large ↦ large
    ] in
    let alone : superclasses_in family class ≡ [] =
    ap (λ o. given_superclass (superclass_if o)) (slice_get_past family class past) in
    found family c.family.result.now c.family-2.result.now name c.parents_first-order.result.now
    class None c.family.ensures c.family-2.ensures c.classes-classes.ensures.fits
    c.parents_first-order.ensures none
    (Nearest.nowhere (no_class_declares family wanted.Field name class past) alone)
