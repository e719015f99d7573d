-- Files in the order of their names that make a family, or have a bad parent.
use Rattle.std.proofs.Common.{◌≡◌, ℕ, ◌+◌, ◌<◌, ◌≤◌, ◌⊎◌, inl, inr, List, [], ◌∷◌, ◌++◌, length, get_or, take, Some}
use Rattle.std.proofs.Common.{Result, Ok, Err, refl, sym, ap, subst, ◌∙◌, arith}
use Rattle.std.specs.List.{AllZip, Contains, slice_get}
use Rattle.std.specs.Result.{IfErr, OnOk, IsOk}
use Rattle.std.proofs.lemmas.Grind.{common_steps}
use Rattle.std.proofs.lemmas.Option.{gets}
use Rattle.std.proofs.lemmas.List.{length-map, take_more}
use Rattle.classfile.specs.ClassFile.{ClassFile}
use Rattle.classfile.specs.Units.{units_text}
use Rattle.loading.specs.declared.fault.BadParent.{BadParent}
use Rattle.loading.specs.declared.fault.LinkFault.{LinkFault}
use Rattle.loading.specs.declared.fault.LinkFault.TheVariants.{Memory}
use Rattle.loading.specs.declared.parents.Parents.{Parents}
use Rattle.loading.specs.Names.{name_of, Precedes}
use Rattle.loading.specs.Families.{Family, IsFamily, IsFamilyOf, IsAncestor}
use Rattle.loading.specs.Files.{HasFile, HasBadParent, HasBadParents, No, WithinLimit, LinkFails, Links, parent}
use Rattle.loading.specs.steps.Linking.{AreNamed, AreParents, AreLinked, IsParentFault, IsCycleFault, file_of_class}
use Rattle.loading.proofs.LinkingPlaceLemmas.{NoneBefore, given_at, place_of, not_below}
use Rattle.loading.proofs.FilesTwiceLemmas.{none_twice}
use Rattle.loading.proofs.FilesFaultLemmas.{not_both, one_fault}
use Rattle.loading.proofs.ZipLemmas.{partner_of, pairs_push}
use Rattle.loading.proofs.FilesParentLemmas.{no_bad_parent}
use Rattle.loading.proofs.LinkingClassLemmas.{AreMade, made_is_linked}
use Rattle.loading.proofs.FilesCycleLemmas.{no_cycle, cycle_fails}

abbrev pub IsBad : List ClassFile → ClassFile → Type 0
IsBad files f = (kind : BadParent) × HasBadParent files f kind

-- files whose parents are known have none that is bad
pub none_bad : (files : List ClassFile) (n : ℕ) (parents : List Parents) → AreNamed files
    → AllZip (AreParents files) (take n files) parents → NoneBefore (IsBad files) files n
none_bad files n parents named all j g below at-g (kind, has) =
    let p = partner_of (AreParents files) (take n files) parents j g all (in_front files n j g below at-g) in
    no_bad_parent files g p.0 named p.1 kind has
  where
    in_front : (files : List ClassFile) (n j : ℕ) (g : ClassFile) → j < n → slice_get files j ≡ Some g
        → slice_get (take n files) j ≡ Some g
    in_front files n j g below at-g = grind (arith, common_steps, gets)

pub first_bad : (files : List ClassFile) (n : ℕ) (f : ClassFile) (fault : LinkFault) → WithinLimit files
    → AreNamed files → slice_get files n ≡ Some f
    → NoneBefore (IsBad files) files n → IsParentFault files f fault → LinkFails files fault
first_bad files n f fault few named at-f none x =
    subst (LinkFails files) (sym x.is)
    (parent few (none_twice files named.ascending) named.free (own, least) given x.least)
  where
    given : HasFile files (units_text x.name) f
    given = ((given_at files n f at-f).0, sym x.names)

    own : HasBadParents files (units_text x.name)
    own = (f, given, x.kind, x.least.0)

    least : (other : List ℕ) → HasBadParents files other → Precedes other (units_text x.name) → ⊥
    least other (g, (in-g, is-g), kind, has) low =
        let down : Precedes (name_of g) (name_of f) =
        subst (λ (z : List ℕ). Precedes z (name_of f)) (sym is-g)
        (subst (λ (z : List ℕ). Precedes other z) x.names low) in
        not_below (IsBad files) files n f named.ascending at-f none g in-g (kind, has) down

pub no_bad : (files : List ClassFile) (parents : List Parents) → AreNamed files
    → AllZip (AreParents files) files parents → No (HasBadParents files)
no_bad files parents named all name (g, (in-g, is-g), kind, has) =
    let p = place_of files g in-g in
    let partner = partner_of (AreParents files) files parents p.0 g all p.1 in
    no_bad_parent files g partner.0 named partner.1 kind has

-- ---- the family

pub family_fits : (family : Family) → AreLinked family → ((c : ℕ) → IsAncestor family c c → ⊥) → IsFamily family
family_fits family l acyclic = record {
  ascending = l.ascending;
  free = l.free;
  plain = l.plain;
  superclass_names = l.superclass_names;
  interface_names = l.interface_names;
  acyclic = acyclic;
  classes = l.classes;
  interfaces = l.interfaces;
  below_object = l.below_object;
}

pub family_of_made : (files : List ClassFile) (family : Family) → AreMade files family → IsFamily family
    → IsFamilyOf files family
family_of_made files family m fits = record {
  fits = fits;
  count = sym (length-map family file_of_class) ∙ ap length m.same;
  members =
      λ f. (
        subst (λ (z : List ClassFile). Contains z f) (sym m.same),
        subst (λ (z : List ClassFile). Contains z f) m.same,
      );
}

pub few_made : (files : List ClassFile) (family : Family) → AreMade files family → WithinLimit files
    → length family ≤ 65535
few_made files family m few =
    (let count : length family ≡ length files = sym (length-map family file_of_class) ∙ ap length m.same in omega arith)

pub links_made : (files : List ClassFile) (family : Family) (parents : List Parents) → WithinLimit files
    → AreNamed files → AreMade files family
    → AllZip (AreParents files) files parents → IsFamily family → Links files
links_made files family parents few named m all fits = record {
  few = few;
  distinct = none_twice files named.ascending;
  free = named.free;
  parents = no_bad files parents named all;
  acyclic = no_cycle files family named m (made_is_linked files family named m) fits.acyclic;
}

pub cycle_fails_made : (files : List ClassFile) (family : Family) (parents : List Parents) (fault : LinkFault)
    → WithinLimit files → AreNamed files → AreMade files family
    → AllZip (AreParents files) files parents → IsCycleFault family fault → LinkFails files fault
cycle_fails_made files family parents fault few named m all x =
    cycle_fails files family fault few (none_twice files named.ascending) (no_bad files parents named all) named m
    (made_is_linked files family named m) x

-- ---- the loop over files

pub memory_or : (files : List ClassFile) (n : ℕ) (f : ClassFile) (fault : LinkFault) (parents : List Parents)
    → WithinLimit files → AreNamed files → slice_get files n ≡ Some f
    → AllZip (AreParents files) (take n files) parents → (fault ≡ Memory) ⊎ IsParentFault files f fault
    → (fault ≡ Memory) ⊎ LinkFails files fault
memory_or files n f fault parents few named at-f all (inl e) = inl e
memory_or files n f fault parents few named at-f all (inr x) =
    inr (first_bad files n f fault few named at-f (none_bad files n parents named all) x)

pub parents_more : (files : List ClassFile) (n : ℕ) (f : ClassFile) (p : Parents) (old new : List Parents)
    → n < length files → f ≡ get_or files n f → new ≡ old ++ p ∷ []
    → AreParents files f p → AllZip (AreParents files) (take n files) old
    → AllZip (AreParents files) (take (n + 1) files) new
parents_more files n f p old new within read pushed are all =
    let front : take (n + 1) files ≡ take n files ++ f ∷ [] = take_more files n f within
    ∙ ap (λ (z : ClassFile). take n files ++ z ∷ []) (sym read) in
    rw (front, pushed) (pairs_push (AreParents files) (take n files) old f p all are)

-- ---- what is answered where

pub only_links : (files : List ClassFile) (result : Result Family LinkFault)
    → IfErr result (λ x. (x ≡ Memory) ⊎ LinkFails files x) → Links files
    → IsOk result ⊎ (result ≡ Err Memory)
only_links files (Ok family) fault links = inl refl
only_links files (Err x) fault links = elim fault [
  | inl memory ↦ inr (ap (λ (y : LinkFault). Err y) memory)
  | inr fails ↦ absurd (not_both files x links fails)
]

pub only_fault : (files : List ClassFile) (result : Result Family LinkFault) → OnOk result (Links files)
    → IfErr result (λ x. (x ≡ Memory) ⊎ LinkFails files x)
    → (x : LinkFault) → LinkFails files x → (result ≡ Err x) ⊎ (result ≡ Err Memory)
only_fault files (Ok family) links fault x fails = absurd (not_both files x links fails)
only_fault files (Err y) links fault x fails = elim fault [
  | inl memory ↦ inr (ap (λ (z : LinkFault). Err z) memory)
  | inr other ↦ inl (ap (λ (z : LinkFault). Err z) (one_fault files y x other fails))
]

-- ---- what is answered for files in order

pub family_of_same : (files : List ClassFile) (classes : Family) → AreMade files classes → (family : Family)
    → (family ≡ classes) × IsFamily family → IsFamilyOf files family
family_of_same files classes m family (same, fits) =
    rw same (family_of_made files classes m (rw same at fits))

pub links_of_same : (files : List ClassFile) (classes : Family) (parents : List Parents) → WithinLimit files
    → AreNamed files → AreMade files classes
    → AllZip (AreParents files) files parents → (family : Family) → (family ≡ classes) × IsFamily family → Links files
links_of_same files classes parents few named m all family (same, fits) =
    links_made files classes parents few named m all (rw same at fits)

pub fails_of_same : (files : List ClassFile) (classes : Family) (parents : List Parents) → WithinLimit files
    → AreNamed files → AreMade files classes
    → AllZip (AreParents files) files parents → (fault : LinkFault) → (fault ≡ Memory) ⊎ IsCycleFault classes fault
    → (fault ≡ Memory) ⊎ LinkFails files fault
fails_of_same files classes parents few named m all fault (inl e) = inl e
fails_of_same files classes parents few named m all fault (inr x) =
    inr (cycle_fails_made files classes parents fault few named m all x)
