-- Rows of reaches as the members of classes are noted.
use Rattle.std.proofs.Common.{◌≡◌, ℕ, zero, suc, ◌+◌, ◌<◌, ◌⊎◌, Bool, true, false, cond, eqb, List, [], ◌∷◌, ◌++◌}
use Rattle.std.proofs.Common.{Option, Some, None, slice_get, refl, sym, ap, ◌∙◌, subst, inl, inr, arith, option_to_list}
use Rattle.std.specs.List.{position_from}
use Rattle.std.specs.Str.{bytes_eq}
use Rattle.std.proofs.lemmas.Slice.Eq.{bytes_eq-Decides}
use Rattle.classfile.specs.ClassFile.{ClassFile}
use Rattle.classfile.specs.declared.member.Member.{Member}
use Rattle.built_in.specs.Keys.{NameAndType}
use Rattle.loading.specs.Names.{text_at, is_interface}
use Rattle.loading.specs.Families.{Family, file_in, superclass_in, superclasses_in, given_superclass, IsFamily, passes}
use Rattle.loading.specs.declared.given.Superclass.{Superclass}
use Rattle.loading.specs.declared.given.Superclass.TheVariants as super
use Rattle.hierarchy.specs.MemberLookup.{is_named, keep_if, is_inherited, flags_of, member_flags, field_of, method_of}
use Rattle.hierarchy.specs.steps.HierarchyTables.{wanted_in}
use Rattle.hierarchy.specs.steps.Reaches.{Nearest, here, above, nowhere, NearestFrom, NearestAbove, IsLast, TellsAlone}
use Rattle.hierarchy.specs.steps.Sweeps.{counted, members_in, members_of_file}
use Rattle.hierarchy.specs.declared.member.DeclaredMember.{DeclaredMember}
use Rattle.hierarchy.specs.declared.wanted.Wanted.{Wanted}
use Rattle.hierarchy.specs.declared.wanted.Wanted.TheVariants as wanted
use Rattle.std.proofs.lemmas.Bool.{and_parts, eqb-true, eqb-false}
use Rattle.hierarchy.specs.declared.reach_table.Reach.{Reach}
use Rattle.hierarchy.specs.steps.DepthFirst.{MayFollow, root, below, IsAtOrAbove, same, up}
use Rattle.hierarchy.proofs.FamiliesChainLemmas.{height, falls_given}
use Rattle.hierarchy.proofs.ReachesLemmas.{tells_same}

-- ---- what a class declares

first_passing : (test : Member → Bool) (i : ℕ) (ms : List Member) (k : ℕ) → position_from test i ms ≡ Some k
    → (j : ℕ) × (m : Member) × (slice_get ms j ≡ Some m) × (test m ≡ true)
first_passing test i [] k e = absurd cc
first_passing test i (x ∷ xs) k e = by (test x) refl e (first_passing test (i + 1) xs k)
  where
    by : (b : Bool) → test x ≡ b → cond b (Some i) (position_from test (i + 1) xs) ≡ Some k
        → (position_from test (i + 1) xs ≡ Some k → (j : ℕ) × (m : Member) × (slice_get xs j ≡ Some m)
        × (test m ≡ true))
        → (j : ℕ) × (m : Member) × (slice_get (x ∷ xs) j ≡ Some m) × (test m ≡ true)
    by true passes found later = (0, x, refl, passes)
    by false fails found later = let rest = later found in (suc rest.0, rest.1, rest.2, rest.3)

abbrev pub named_by : ClassFile → Member → NameAndType
named_by f m = record { name = text_at f m.name; descriptor = text_at f m.descriptor }

pub name_is : (f : ClassFile) (name : NameAndType) (m : Member) → is_named f name m ≡ true → named_by f m ≡ name
name_is f name m e =
    let parts = and_parts (bytes_eq (text_at f m.name) name.name)
    (bytes_eq (text_at f m.descriptor) name.descriptor) e in
    let n = (bytes_eq-Decides (text_at f m.name) name.name).0 parts.0 in
    let d = (bytes_eq-Decides (text_at f m.descriptor) name.descriptor).0 parts.1 in
    λ i. record { name = n i; descriptor = d i }

-- a member of a class has its name, descriptor and place
abbrev pub Declares : Wanted → Family → NameAndType → ℕ → Type 0
Declares kind family name d = (f : ClassFile) × (i : ℕ) × (m : Member) × (file_in family d ≡ Some f)
    × (slice_get (members_in kind family d) i ≡ Some m) × (named_by f m ≡ name)

-- the place of the first of a name and descriptor among some members, if it counts
abbrev place_by : Wanted → List Member → Option ℕ → Option ℕ
place_by kind ms None = None
place_by kind ms (Some k) = counted kind (member_flags (slice_get ms k)) k

abbrev first_in : Wanted → NameAndType → Option ClassFile → Option ℕ
first_in kind name None = None
first_in kind name (Some f) =
    place_by kind (members_of_file kind (Some f))
    (position_from (is_named f name) 0 (members_of_file kind (Some f)))

every_place : (kind : Wanted) → ((flags k : ℕ) → counted kind flags k ≡ Some k) → (ms : List Member) (p : Option ℕ)
    → p ≡ place_by kind ms p
every_place kind every ms None = refl
every_place kind every ms (Some k) = sym (every (member_flags (slice_get ms k)) k)

kept_place : (kind : Wanted) → ((flags k : ℕ) → counted kind flags k ≡ cond (is_inherited flags) (Some k) None)
    → (f : ClassFile) (p : Option ℕ) → keep_if is_inherited (flags_of (Some f)) p ≡ place_by kind f.methods p
kept_place kind keeps f None = refl
kept_place kind keeps f (Some k) = sym (keeps (member_flags (slice_get f.methods k)) k)

if_interface : (kind : Wanted) (test : Member → Bool) (ms : List Member) (o : Option ℕ) (b : Bool)
    → o ≡ place_by kind ms (position_from test 0 ms)
    → cond b o None ≡ place_by kind (cond b ms []) (position_from test 0 (cond b ms []))
if_interface kind test ms o true is = is
if_interface kind test ms o false is = refl

first_is : (kind : Wanted) (family : Family) (name : NameAndType) (d : ℕ)
    → wanted_in kind family name d ≡ first_in kind name (file_in family d)
first_is wanted.Field family name d = by (file_in family d)
  where
    by : (o : Option ClassFile) → field_of name o ≡ first_in wanted.Field name o
    by None = refl
    by (Some f) = every_place wanted.Field (λ _ _. refl) f.fields (field_of name (Some f))
first_is wanted.InterfaceField family name d = by (file_in family d)
  where
    by : (o : Option ClassFile) → cond (passes is_interface o) (field_of name o) None
        ≡ first_in wanted.InterfaceField name o
    by None = refl
    by (Some f) =
        if_interface wanted.InterfaceField (is_named f name) f.fields (field_of name (Some f)) (is_interface f)
        (every_place wanted.InterfaceField (λ _ _. refl) f.fields (field_of name (Some f)))
first_is wanted.Method family name d = by (file_in family d)
  where
    by : (o : Option ClassFile) → method_of name o ≡ first_in wanted.Method name o
    by None = refl
    by (Some f) = every_place wanted.Method (λ _ _. refl) f.methods (method_of name (Some f))
first_is wanted.InstanceMethod family name d = by (file_in family d)
  where
    by : (o : Option ClassFile) → keep_if is_inherited (flags_of o) (method_of name o)
        ≡ first_in wanted.InstanceMethod name o
    by None = refl
    by (Some f) = kept_place wanted.InstanceMethod (λ _ _. refl) f (method_of name (Some f))
first_is wanted.InterfaceMethod family name d = by (file_in family d)
  where
    by : (o : Option ClassFile)
        → cond (passes is_interface o) (keep_if is_inherited (flags_of o) (method_of name o)) None
        ≡ first_in wanted.InterfaceMethod name o
    by None = refl
    by (Some f) =
        if_interface wanted.InterfaceMethod (is_named f name) f.methods
        (keep_if is_inherited (flags_of (Some f)) (method_of name (Some f))) (is_interface f)
        (kept_place wanted.InterfaceMethod (λ _ _. refl) f (method_of name (Some f)))

pub declares : (kind : Wanted) (family : Family) (name : NameAndType) (d k : ℕ) → wanted_in kind family name d ≡ Some k
    → Declares kind family name d
declares kind family name d k e = by (file_in family d) refl (sym (first_is kind family name d) ∙ e)
  where
    by : (o : Option ClassFile) → file_in family d ≡ o → first_in kind name o ≡ Some k → Declares kind family name d
    by None is there = let clash : None ≡ Some k = there in absurd cc
    by (Some f) is there = among (position_from (is_named f name) 0 (members_of_file kind (Some f))) refl there
      where
        among : (p : Option ℕ) → position_from (is_named f name) 0 (members_of_file kind (Some f)) ≡ p
            → place_by kind (members_of_file kind (Some f)) p ≡ Some k → Declares kind family name d
        among None first counts = let clash : None ≡ Some k = counts in absurd cc
        among (Some j) first counts =
            let member = first_passing (is_named f name) 0 (members_of_file kind (Some f)) j first in (
              f,
              member.0,
              member.1,
              is,
              ap (λ o. slice_get (members_of_file kind o) member.0) is ∙ member.2,
              name_is f name member.1 member.3,
            )

-- the first of the members that pass a test, or one before it passes
first_or_before : (test : Member → Bool) (i : ℕ) (ms : List Member) (k : ℕ) (m : Member) → slice_get ms k ≡ Some m
    → test m ≡ true
    → (position_from test i ms ≡ Some (i + k))
    ⊎ ((j : ℕ) × (x : Member) × (j < k) × (slice_get ms j ≡ Some x) × (test x ≡ true))
first_or_before test i [] k m at holds = absurd cc
first_or_before test i (x ∷ xs) zero m at holds =
    let is : x ≡ m = cc in inl (rw (ap test is ∙ holds) (ap (λ n. Some n) (let n : i ≡ i + 0 = omega arith in n)))
first_or_before test i (x ∷ xs) (suc k) m at holds =
    by (test x) refl (first_or_before test (i + 1) xs k m at holds)
  where
    by : (b : Bool) → test x ≡ b
        → (position_from test (i + 1) xs ≡ Some (i + 1 + k))
        ⊎ ((j : ℕ) × (y : Member) × (j < k) × (slice_get xs j ≡ Some y) × (test y ≡ true))
        → (cond (test x) (Some i) (position_from test (i + 1) xs) ≡ Some (i + suc k))
        ⊎ ((j : ℕ) × (y : Member) × (j < suc k) × (slice_get (x ∷ xs) j ≡ Some y) × (test y ≡ true))
    by true passed rest = inr (zero, x, omega arith, refl, passed)
    by false fails (inl first) =
        inl (rw fails (first ∙ ap (λ n. Some n) (let n : i + 1 + k ≡ i + suc k = omega arith in n)))
    by false fails (inr before) = inr (suc before.0, before.1, omega (arith, before.2), before.3, before.4)

is_named_itself : (f : ClassFile) (m : Member) → is_named f (named_by f m) m ≡ true
is_named_itself f m = rw (
  (bytes_eq-Decides (text_at f m.name) (text_at f m.name)).1 refl,
  (bytes_eq-Decides (text_at f m.descriptor) (text_at f m.descriptor)).1 refl,
) refl

-- a class of which a member is known has a file
pub has_file : (kind : Wanted) (family : Family) (d i : ℕ) (m : Member)
    → slice_get (members_in kind family d) i ≡ Some m → (f : ClassFile) × (file_in family d ≡ Some f)
has_file kind family d i m at = by (file_in family d) refl
  where
    by : (o : Option ClassFile) → file_in family d ≡ o → (f : ClassFile) × (file_in family d ≡ Some f)
    by (Some f) is = (f, is)
    by None is =
        let gone : slice_get (members_of_file kind None) i ≡ Some m =
        sym (ap (λ o. slice_get (members_of_file kind o) i) is) ∙ at in
        let clash : None ≡ Some m = gone in absurd cc

-- the first of its name and descriptor is what a class declares, if its flags are those of the kind that counts
first_counts : (kind : Wanted) (family : Family) (name : NameAndType) (d k : ℕ) (f : ClassFile) (m : Member)
    → file_in family d ≡ Some f → slice_get (members_of_file kind (Some f)) k ≡ Some m
    → position_from (is_named f name) 0 (members_of_file kind (Some f)) ≡ Some k
    → wanted_in kind family name d ≡ counted kind m.access_flags k
first_counts kind family name d k f m is at first =
    first_is kind family name d ∙ ap (first_in kind name) is
    ∙ ap (place_by kind (members_of_file kind (Some f))) first ∙ ap (λ o. counted kind (member_flags o) k) at

-- a member counts, unless one before it has its name and descriptor
pub counts_or_before : (kind : Wanted) (family : Family) (d k : ℕ) (f : ClassFile) (m : Member)
    → file_in family d ≡ Some f → slice_get (members_in kind family d) k ≡ Some m
    → (wanted_in kind family (named_by f m) d ≡ counted kind m.access_flags k)
    ⊎ ((j : ℕ) × (x : Member) × (j < k) × (slice_get (members_in kind family d) j ≡ Some x)
    × (named_by f x ≡ named_by f m))
counts_or_before kind family d k f m is at =
    let name = named_by f m in
    let ms = members_of_file kind (Some f) in
    let equal : members_in kind family d ≡ ms = ap (members_of_file kind) is in
    let read : slice_get ms k ≡ Some m = sym (ap (λ l. slice_get l k) equal) ∙ at in
    elim (first_or_before (is_named f name) 0 ms k m read (is_named_itself f m)) [
      | inl first ↦ inl (first_counts kind family name d k f m is read
          (first ∙ ap (λ n. Some n) (let n : 0 + k ≡ k = omega arith in n)))
      | inr before ↦ inr (
        before.0,
        before.1,
        before.2,
        ap (λ l. slice_get l before.0) equal ∙ before.3,
        name_is f name before.1 before.4,
      )
    ]

-- whether a class declares it itself
pub own_or_other : (d c : ℕ) → ((d ≡ c) × (eqb d c ≡ true)) ⊎ ((¬ (d ≡ c)) × (eqb d c ≡ false))
own_or_other d c = by (eqb d c) refl
  where
    by : (b : Bool) → eqb d c ≡ b → ((d ≡ c) × (eqb d c ≡ true)) ⊎ ((¬ (d ≡ c)) × (eqb d c ≡ false))
    by true e = inl (eqb-true d c e, e)
    by false e = inr (eqb-false d c e, e)

-- ---- from one class to the next

module _ (family : Family) (own : ℕ → Option ℕ) where
  -- what is nearest to a class that declares nothing is nearest to its superclass
  pub passes_up : (c : ℕ) (r : Option DeclaredMember) (upper : Option ℕ) → own c ≡ None
      → superclasses_in family c ≡ option_to_list upper → Nearest family own c r → NearestFrom family own upper r
  passes_up c r upper none is (here {k = k} has) = let clash : None ≡ Some k = sym none ∙ has in absurd cc
  passes_up c r None none is (above {d = d} no_own has rest) = let clash : [] ≡ d ∷ [] = sym is ∙ has in absurd cc
  passes_up c r (Some e) none is (above {d = d} no_own has rest) =
      let both : e ∷ [] ≡ d ∷ [] = sym is ∙ has in
      let equal : d ≡ e = cc in
      subst (λ (x : ℕ). Nearest family own x r) equal rest
  passes_up c r None none is (nowhere no_own has) = refl
  passes_up c r (Some e) none is (nowhere no_own has) = let clash : e ∷ [] ≡ [] = sym is ∙ has in absurd cc

  -- and the other way round
  pub passes_down : (c : ℕ) (r : Option DeclaredMember) → own c ≡ None → NearestAbove family own c r
      → Nearest family own c r
  passes_down c r none near = by (superclass_in family c) refl
    where
      by : (o : Option Superclass) → superclass_in family c ≡ o → Nearest family own c r
      by None at = alone (ap given_superclass at)
        where
          alone : superclasses_in family c ≡ [] → Nearest family own c r
          alone is = subst (Nearest family own c) (sym (near.1 is)) (nowhere none is)
      by (Some (super.BuiltIn b)) at = alone (ap given_superclass at)
        where
          alone : superclasses_in family c ≡ [] → Nearest family own c r
          alone is = subst (Nearest family own c) (sym (near.1 is)) (nowhere none is)
      by (Some (super.Given d)) at = let is : superclasses_in family c ≡ d ∷ [] = ap given_superclass at in
          above none is (near.0 d is)

  pub above_from_list : (c : ℕ) (r : Option DeclaredMember) (upper : Option ℕ)
      → superclasses_in family c ≡ option_to_list upper → NearestFrom family own upper r → NearestAbove family own c r
  above_from_list c r None is near = (
    λ d has. let clash : [] ≡ d ∷ [] = sym is ∙ has in absurd cc,
    λ has. near,
  )
  above_from_list c r (Some e) is near = (
    λ d has. let both : e ∷ [] ≡ d ∷ [] = sym is ∙ has in
        let equal : e ≡ d = cc in
        subst (λ (x : ℕ). Nearest family own x r) equal near,
    λ has. let clash : e ∷ [] ≡ [] = sym is ∙ has in absurd cc,
  )

  -- the first class, which has no given superclass
  pub tells_first : (c : ℕ) (row : List Reach) → own c ≡ None → superclasses_in family c ≡ []
      → TellsAlone family own [] row → TellsAlone family own (c ∷ []) row
  tells_first c [] none is alone = record {
    tells = record {
      up = alone.tells.up;
      below = λ i a at. let clash : None ≡ Some a = at in absurd cc;
      told = told;
    };
    none_beyond = λ i a at. let clash : None ≡ Some a = at in absurd cc;
  }
    where
      told : (q d : ℕ) → slice_get (c ∷ []) q ≡ Some d → Nearest family own d None
      told zero d at = let equal : c ≡ d = cc in subst (λ (x : ℕ). Nearest family own x None) equal (nowhere none is)
      told (suc q) d at = absurd cc
  tells_first c (x ∷ xs) none is alone = absurd (omega (arith, alone.none_beyond 0 x refl))

  -- a row that stayed as it was tells of the next class too, where that declares nothing
  pub tells_next : (classes : List ℕ) (before : Option ℕ) (c : ℕ) (row : List Reach) → IsLast classes before
      → MayFollow family before c → own c ≡ None
      → ((r : Option DeclaredMember) → NearestFrom family own before r → NearestAbove family own c r)
      → TellsAlone family own classes row → TellsAlone family own (classes ++ c ∷ []) row
  tells_next classes None c row last (root is) none pass alone =
      subst (λ l. TellsAlone family own (l ++ c ∷ []) row) (sym last)
      (tells_first c row none is (subst (λ l. TellsAlone family own l row) last alone))
  tells_next classes (Some v) c row last may none pass alone =
      tells_same family own classes v c row last.0 last.1 last.2 alone
      (λ r near. passes_down c r none (pass r near))

-- ---- the ascent up from the class before

-- the ascent has not gone past the superclass of the class that comes
abbrev pub StandsBelow : Family → ℕ → Option ℕ → Type 0
StandsBelow family c at = (d : ℕ) → superclasses_in family c ≡ d ∷ [] → (v : ℕ) × (at ≡ Some v) × IsAtOrAbove family v d

pub below_first : (family : Family) (before : Option ℕ) (c : ℕ) → MayFollow family before c
    → StandsBelow family c before
below_first family before c (root is) d has = let clash : [] ≡ d ∷ [] = sym is ∙ has in absurd cc
below_first family (Some b) c (below {d = e} is way) d has =
    let both : e ∷ [] ≡ d ∷ [] = sym is ∙ has in
    let equal : e ≡ d = cc in
    (b, refl, subst (IsAtOrAbove family b) equal way)

pub below_next : (family : Family) (c v : ℕ) (at upper : Option ℕ) → at ≡ Some v
    → superclasses_in family v ≡ option_to_list upper → ¬ (superclasses_in family c ≡ v ∷ []) → StandsBelow family c at
    → StandsBelow family c upper
below_next family c v at upper held_at is other stands d has = by (stands d has)
  where
    by : (w : ℕ) × (at ≡ Some w) × IsAtOrAbove family w d → (w : ℕ) × (upper ≡ Some w) × IsAtOrAbove family w d
    by (w, held, way) = go way (let both : Some v ≡ Some w = sym held_at ∙ held in cc) upper is
      where
        go : {x : ℕ} → IsAtOrAbove family x d → v ≡ x → (u : Option ℕ) → superclasses_in family v ≡ option_to_list u
            → (y : ℕ) × (u ≡ Some y) × IsAtOrAbove family y d
        go same e u list = absurd (other (has ∙ ap (λ y. y ∷ []) (sym e)))
        go (up {d = f} next rest) e None list =
            let clash : [] ≡ f ∷ [] = sym list ∙ ap (superclasses_in family) e ∙ next in absurd cc
        go (up {d = f} next rest) e (Some y) list =
            let both : y ∷ [] ≡ f ∷ [] = sym list ∙ ap (superclasses_in family) e ∙ next in
            let equal : f ≡ y = cc in
            (y, refl, subst (λ (z : ℕ). IsAtOrAbove family z d) equal rest)

-- how far the ascent can go
abbrev pub height_from : Family → Option ℕ → ℕ
height_from family None = 0
height_from family (Some c) = suc (height family c)

pub falls_up : (family : Family) (c : ℕ) (upper : Option ℕ) → IsFamily family
    → superclasses_in family c ≡ option_to_list upper → height_from family upper < height_from family (Some c)
falls_up family c None fits is = omega arith
falls_up family c (Some d) fits is = omega (arith, falls_given family c d fits is)

-- the ascent has ended at a class without a given superclass, so the class that comes has none either
pub left_at_end : (family : Family) (own : ℕ → Option ℕ) (c : ℕ) (at : Option ℕ) (r : Option DeclaredMember) → at ≡ None
    → StandsBelow family c at → NearestFrom family own at r → NearestAbove family own c r
left_at_end family own c at r none stands near = (
  λ d has. let there = stands d has in
      let clash : None ≡ Some there.0 = sym none ∙ there.1 in absurd cc,
  λ has. subst (λ (o : Option ℕ). NearestFrom family own o r) none near,
)

pub only_one : (o : Option ℕ) (v : ℕ) → option_to_list o ≡ v ∷ [] → o ≡ Some v
only_one None v e = absurd cc
only_one (Some w) v e = let equal : w ≡ v = cc in ap Some equal
