-- Methods along superclasses, by the nearest class that declares one.
use Rattle.std.proofs.Common.{◌≡◌, ℕ, zero, suc, ◌<◌, ◌≤◌, [], ◌∷◌, length, Option, Some, None, refl, sym, ap, ◌∙◌}
use Rattle.std.proofs.Common.{subst, arith, IsSome, inl, inr, Bool, true, false, cond, eqb, List, slice_index_or}
use Rattle.built_in.specs.Keys.{NameAndType}
use Rattle.built_in.specs.declared.class_id.BuiltIn.{BuiltIn}
use Rattle.loading.specs.Families.{Family, superclass_in, superclasses_in, given_superclass, IsFamily, superclass_if}
use Rattle.loading.specs.Families.{file_of, file_in, is_interface_in}
use Rattle.loading.specs.declared.given.Superclass.{Superclass}
use Rattle.loading.specs.declared.given.Superclass.TheVariants as super
use Rattle.hierarchy.specs.MemberLookup.{UpClasses, here as stands, up as one_above, beyond, field_in, field_of}
use Rattle.hierarchy.specs.MemberLookup.{method_in, method_of, keep_if, is_inherited, flags_in}
use Rattle.hierarchy.specs.declared.member.DeclaredMember.{DeclaredMember}
use Rattle.hierarchy.specs.declared.member.Method.{Method}
use Rattle.hierarchy.specs.declared.member.Method.TheVariants as method
use Rattle.hierarchy.specs.steps.Reaches.{Nearest, here, above, nowhere, AllTell, GoUp, reaches_of, reaching}
use Rattle.std.specs.List.{Contains}
use Rattle.std.proofs.lemmas.Option.{slice_get_past}
use Rattle.hierarchy.specs.steps.HierarchyTables.{wanted_in}
use Rattle.hierarchy.specs.steps.MemberTables.{IsTableOf}
use Rattle.hierarchy.specs.declared.member_table.MemberTable.{MemberTable}
use Rattle.hierarchy.specs.declared.wanted.Wanted.{Wanted}
use Rattle.hierarchy.specs.declared.wanted.Wanted.TheVariants as wanted
use Rattle.hierarchy.specs.declared.member_key.MemberKey.{MemberKey}
use Rattle.hierarchy.specs.declared.nearest.NearestMembers.{NearestMembers}
use Rattle.hierarchy.specs.declared.reach_table.Reach.{Reach}
use Rattle.hierarchy.specs.steps.MemberKeys.{AreNumbers}
use Rattle.hierarchy.specs.steps.NearestMembers.{AreNearest, AllAreTold, own_part, rows_of}
use Rattle.hierarchy.specs.steps.Sweeps.{members_by}
use Rattle.hierarchy.specs.declared.nearest.Reaches.{Reaches}
use Rattle.std.proofs.lemmas.Bool.{cases_lt, eq-eqb, eqb-true}
use Rattle.loading.proofs.PlaceLemmas.{contains_at}
use Rattle.hierarchy.proofs.FamiliesChainLemmas.{height, falls_given}
use Rattle.hierarchy.proofs.MemberTablesLemmas.{numbers_of}
use Rattle.hierarchy.proofs.SweepsLemmas.{declares}
use Rattle.hierarchy.specs.steps.Tops.{IsTop, direct, further}

module _ (family : Family) (own : ℕ → Option ℕ) (key : NameAndType) where
  given_is : (c d : ℕ) → superclasses_in family c ≡ d ∷ [] → superclass_in family c ≡ Some (super.Given d)
  given_is c d is = by (superclass_in family c) is
    where
      by : (o : Option Superclass) → given_superclass o ≡ d ∷ [] → o ≡ Some (super.Given d)
      by None e = absurd cc
      by (Some (super.BuiltIn b)) e = absurd cc
      by (Some (super.Given x)) e = let equal : x ≡ d = cc in ap (λ y. Some (super.Given y)) equal

  pub found_along : (c : ℕ) (m : DeclaredMember) → Nearest family own c (Some m)
      → UpClasses family own key (super.Given c) (Some (method.Given m.class m.index))
  found_along c m (here has) = stands has
  found_along c m (above {d = d} none is rest) = one_above none (given_is c d is) (found_along d m rest)

  -- where no given class has it, it is looked for in the built-in class at the end
  pub built_in_along : (c : ℕ) (b : BuiltIn) (r : Option Method) → Nearest family own c None → IsTop family c b
      → UpClasses family own key (super.BuiltIn b) r → UpClasses family own key (super.Given c) r
  built_in_along c b r (above {d = d} none is rest) (direct top) found =
      let clash : Some (super.Given d) ≡ Some (super.BuiltIn b) = sym (given_is c d is) ∙ top in absurd cc
  built_in_along c b r (above {d = d} none is rest) (further {d = e} up top) found =
      let both : Some (super.Given d) ≡ Some (super.Given e) = sym (given_is c d is) ∙ up in
      let equal : e ≡ d = cc in
      one_above none (given_is c d is)
      (built_in_along d b r rest (subst (λ (x : ℕ). IsTop family x b) equal top) found)
  built_in_along c b r (nowhere none is) (direct top) found = one_above none top found
  built_in_along c b r (nowhere none is) (further {d = e} up top) found =
      let clash : [] ≡ e ∷ [] = sym is ∙ ap given_superclass up in absurd cc

-- a number of no class
pub no_class_along : (family : Family) (own : ℕ → Option ℕ) (key : NameAndType) (c : ℕ) → own c ≡ None
    → length family ≤ c → UpClasses family own key (super.Given c) None
no_class_along family own key c none past =
    beyond none (ap (λ o. superclass_if o) (slice_get_past family c past))

-- what no class declares
pub nearest_none : (family : Family) (own : ℕ → Option ℕ) → IsFamily family → ((c : ℕ) → own c ≡ None) → (n c : ℕ)
    → height family c < n → Nearest family own c None
nearest_none family own fits none zero c low = absurd (omega (arith, low))
nearest_none family own fits none (suc n) c low =
    by (superclass_in family c) refl (λ d lower. nearest_none family own fits none n d lower)
  where
    by : (o : Option Superclass) → superclass_in family c ≡ o
        → ((d : ℕ) → height family d < n → Nearest family own d None) → Nearest family own c None
    by None at rest = nowhere (none c) (ap given_superclass at)
    by (Some (super.BuiltIn b)) at rest = nowhere (none c) (ap given_superclass at)
    by (Some (super.Given d)) at rest =
        let is : superclasses_in family c ≡ d ∷ [] = ap given_superclass at in
        above (none c) is (rest d (omega (arith, falls_given family c d fits is, low)))

-- ---- what no class declares

if_none : (b : Bool) (o : Option ℕ) → o ≡ None → cond b o None ≡ None
if_none true o none = none
if_none false o none = refl

-- where there are neither such fields nor such methods there is none of any kind
no_member : (family : Family) (kind : Wanted) (name : NameAndType) (c : ℕ) → field_in family name c ≡ None
    → method_in family name c ≡ None → wanted_in kind family name c ≡ None
no_member family wanted.Field name c field method = field
no_member family wanted.InterfaceField name c field method =
    if_none (is_interface_in family c) (field_in family name c) field
no_member family wanted.Method name c field method = method
no_member family wanted.InstanceMethod name c field method = ap (keep_if is_inherited (flags_in family c)) method
no_member family wanted.InterfaceMethod name c field method =
    if_none (is_interface_in family c) (keep_if is_inherited (flags_in family c) (method_in family name c))
    (ap (keep_if is_inherited (flags_in family c)) method)

-- no class has a member whose name or descriptor has no number
pub none_declared : (family : Family) (table : MemberTable) (kind : Wanted) (name : NameAndType)
    → IsTableOf family table → ¬ (Contains table.texts name.name × Contains table.texts name.descriptor) → (c : ℕ)
    → wanted_in kind family name c ≡ None
none_declared family table kind name fits lacks c = by (wanted_in kind family name c) refl
  where
    by : (o : Option ℕ) → wanted_in kind family name c ≡ o → wanted_in kind family name c ≡ None
    by None at = at
    by (Some k) at =
        let d = declares kind family name c k at in
        let numbers = numbers_of family table c d.0 fits d.3 in
        absurd (lacks (
          contains_at table.texts (slice_index_or numbers.0 d.2.name 0) name.name
              (numbers.2 d.2.name ∙ ap (λ (n : NameAndType). Some n.name) d.5),
          contains_at table.texts (slice_index_or numbers.0 d.2.descriptor 0) name.descriptor
              (numbers.2 d.2.descriptor ∙ ap (λ (n : NameAndType). Some n.descriptor) d.5),
        ))

pub no_class_declares : (family : Family) (kind : Wanted) (name : NameAndType) (c : ℕ) → length family ≤ c
    → wanted_in kind family name c ≡ None
no_class_declares family kind name c past =
    let file : file_in family c ≡ None = ap file_of (slice_get_past family c past) in
    no_member family kind name c (ap (field_of name) file) (ap (method_of name) file)

lacks_own : {family : Family} {own : ℕ → Option ℕ} {c : ℕ} → Nearest family own c None → own c ≡ None
lacks_own (above none is rest) = none
lacks_own (nowhere none is) = none

-- ---- what a class declares itself

declared_there : {family : Family} {own : ℕ → Option ℕ} {c : ℕ} {m : DeclaredMember} → Nearest family own c (Some m)
    → own m.class ≡ Some m.index
declared_there (here e) = e
declared_there (above none is rest) = declared_there rest

lacks_other : {family : Family} {own : ℕ → Option ℕ} {c : ℕ} {m : DeclaredMember} → Nearest family own c (Some m)
    → eqb m.class c ≡ false → own c ≡ None
lacks_other {c = c} (here e) other = let clash : true ≡ false = sym (eq-eqb c c refl) ∙ other in absurd cc
lacks_other (above none is rest) other = none

own_is : {family : Family} {own : ℕ → Option ℕ} {c : ℕ} (r : Option DeclaredMember) → Nearest family own c r
    → own_part c r ≡ own c
own_is None near = sym (lacks_own near)
own_is {own = own} {c = c} (Some m) near = by (eqb m.class c) refl
  where
    by : (b : Bool) → eqb m.class c ≡ b → cond (eqb m.class c) (Some m.index) None ≡ own c
    by true e = rw e (sym (declared_there near) ∙ ap own (eqb-true m.class c e))
    by false e = rw e (sym (lacks_other near e))

pub own_told : (family : Family) (table : MemberTable) (nearest : NearestMembers) (kind : Wanted) (name : NameAndType)
    (c : ℕ) (r : Option DeclaredMember) → AreNearest family table nearest
    → (c < length family → Nearest family (wanted_in kind family name) c r)
    → (length nearest.places.items ≤ c → r ≡ None) → own_part c r ≡ wanted_in kind family name c
own_told family table nearest kind name c r are near gone = elim (cases_lt c (length family)) [
  | inl small ↦ own_is r (near small)
  | inr past ↦ ap (own_part c) (gone (omega (arith, are.count, past)))
      ∙ sym (no_class_declares family kind name c (omega (arith, past)))
]

-- what has no reaches is declared by no class
pub nothing_told : (family : Family) (table : MemberTable) (nearest : NearestMembers) (kind : Wanted)
    (name : NameAndType) (key : MemberKey) (c : ℕ) → AreNearest family table nearest
    → AreNumbers table.texts name key → reaches_of (rows_of kind nearest.reaches) key ≡ []
    → wanted_in kind family name c ≡ None
nothing_told family table nearest kind name key c are numbers none = elim (cases_lt c (length family)) [
  | inl small ↦ (let place : ℕ = slice_index_or nearest.places.items c 0 in
      let told = (are.told kind key name numbers).tells.told place c (are.places c (are.whole.whole c small)) in
      lacks_own (subst (λ (row : List Reach). Nearest family (wanted_in kind family name) c (reaching row place)) none
      told))
  | inr past ↦ no_class_declares family kind name c (omega (arith, past))
]

-- what reaches the place of a class is nearest to it
pub nearest_told : (family : Family) (table : MemberTable) (nearest : NearestMembers) (kind : Wanted)
    (name : NameAndType) (key : MemberKey) (c place : ℕ) (r : Option DeclaredMember) → AreNearest family table nearest
    → AreNumbers table.texts name key → c < length family → slice_index_or nearest.places.items c 0 ≡ place
    → (GoUp (reaches_of (rows_of kind nearest.reaches) key)
    → r ≡ reaching (reaches_of (rows_of kind nearest.reaches) key) place)
    → Nearest family (wanted_in kind family name) c r
nearest_told family table nearest kind name key c place r are numbers small at is =
    let row : List Reach = reaches_of (rows_of kind nearest.reaches) key in
    let tells = (are.told kind key name numbers).tells in
    let told = tells.told (slice_index_or nearest.places.items c 0) c (are.places c (are.whole.whole c small)) in
    subst (Nearest family (wanted_in kind family name) c)
    (ap (reaching row) at ∙ sym (is tells.up)) told

pub all_told : (family : Family) (table : MemberTable) (order : List ℕ) (r : Reaches)
    → AllTell (members_by wanted.Field family table) order r.fields
    → AllTell (members_by wanted.InterfaceField family table) order r.interface_fields
    → AllTell (members_by wanted.Method family table) order r.methods
    → AllTell (members_by wanted.InstanceMethod family table) order r.instance_methods
    → AllTell (members_by wanted.InterfaceMethod family table) order r.interface_methods
    → AllAreTold family table order r
all_told family table order r f g m n i wanted.Field = f
all_told family table order r f g m n i wanted.InterfaceField = g
all_told family table order r f g m n i wanted.Method = m
all_told family table order r f g m n i wanted.InstanceMethod = n
all_told family table order r f g m n i wanted.InterfaceMethod = i

pub is_some_not_none : {A : Type 0} (o : Option A) → IsSome o → o ≡ None → ⊥
is_some_not_none None has none = cc
is_some_not_none (Some x) has none = cc
