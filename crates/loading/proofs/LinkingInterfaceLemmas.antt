-- The names of a class's parents, one by one.
use Rattle.std.proofs.Common.{◌≡◌, ℕ, ◌+◌, ◌<◌, ◌≤◌, false, List, [], ◌∷◌, ◌++◌, length, get_or, take, map, Option}
use Rattle.std.proofs.Common.{Some, None, slice_get, slice_index_or, refl, sym, ap, subst, ◌∙◌, eqb, arith}
use Rattle.std.specs.List.{All, Contains}
use Rattle.std.proofs.lemmas.Bool.{ne_eqb}
use Rattle.std.proofs.lemmas.List.{length-map, take_all, take_more, get_or-map, map-append}
use Rattle.std.proofs.lemmas.Option.{same_Some, slice_get_within, slice_get-get_or}
use Rattle.classfile.specs.ClassFile.{ClassFile}
use Rattle.loading.specs.declared.given.Superclass.{Superclass}
use Rattle.loading.specs.declared.given.Superclass.TheVariants as super
use Rattle.loading.specs.declared.parents.InterfaceFault.{InterfaceFault}
use Rattle.loading.specs.declared.parents.InterfaceFault.TheVariants.{Memory, Bad}
use Rattle.loading.specs.Names.{class_name_at, superclass_of, interfaces_of}
use Rattle.loading.specs.Files.{IsUnknown}
use Rattle.loading.specs.steps.Linking.{name_among, AreInterfaces, HasBadInterface, one_no_interface}
use Rattle.loading.specs.steps.FoundNames.{AreTheirNumbers}
use Rattle.loading.specs.steps.InterfaceFaults.{FailsFor, FailsAmong}
use Rattle.loading.proofs.PlaceLemmas.{mapped_at, place_in, contains_at}
use Rattle.loading.proofs.FilesParentLemmas.{named_known}

pub no_superclass : (f : ClassFile) → f.super_class ≡ 0 → superclass_of f ≡ None
no_superclass f e = rw e refl

pub some_superclass : (f : ClassFile) (index : ℕ) (name : List ℕ) → index ≡ f.super_class → (index ≡ 0 → ⊥)
    → name ≡ class_name_at f index
    → superclass_of f ≡ Some name
some_superclass f index name same some is =
    let none : eqb f.super_class 0 ≡ false = ne_eqb f.super_class 0 (λ e. some (same ∙ e)) in
    rw none (ap Some (sym (is ∙ ap (class_name_at f) same)))

-- the name of the superinterface at a place
pub interface_at : (f : ClassFile) (k : ℕ) → k < length f.interfaces
    → Contains (interfaces_of f) (class_name_at f (get_or f.interfaces k 0))
interface_at f k within =
    let d = class_name_at f (get_or f.interfaces k 0) in
    let read : get_or (interfaces_of f) k (class_name_at f (get_or f.interfaces k 0)) ≡ class_name_at f
    (get_or f.interfaces k 0) =
    get_or-map (class_name_at f) f.interfaces k 0 (class_name_at f (get_or f.interfaces k 0)) within in
    (k, omega (arith, length-map f.interfaces (class_name_at f)), read)

pub interface_in : (f : ClassFile) (indices : List ℕ) (k : ℕ) (name : List ℕ) → indices ≡ f.interfaces
    → k < length indices → name ≡ class_name_at f (get_or indices k 0)
    → Contains (interfaces_of f) name
interface_in f indices k name same within is =
    let read : name ≡ class_name_at f (get_or f.interfaces k 0) = is
    ∙ ap (λ (z : List ℕ). class_name_at f (get_or z k 0)) same in
    subst (λ (z : List ℕ). Contains (interfaces_of f) z) (sym read) (interface_at f k (omega (arith, ap length same)))

-- the classes of the names so far
abbrev pub AreNamedSoFar : List ClassFile → ClassFile → ℕ → List Superclass → Type 0
AreNamedSoFar files f n classes = map Some (map (class_name_at f) (take n f.interfaces))
    ≡ map (name_among files) classes

pub one_more : (files : List ClassFile) (f : ClassFile) (n : ℕ) (classes new : List Superclass) (class : Superclass)
    → n < length f.interfaces → AreNamedSoFar files f n classes → new ≡ classes ++ class ∷ []
    → name_among files class ≡ Some (class_name_at f (get_or f.interfaces n 0)) → AreNamedSoFar files f (n + 1) new
one_more files f n classes new class within so_far pushed name =
    rw (pushed, take_more f.interfaces n 0 within) (simp (map-append) joined)
  where
    joined : map Some (map (class_name_at f) (take n f.interfaces)) ++ Some (class_name_at f (get_or f.interfaces n 0))
        ∷ [] ≡ map (name_among files) classes ++ name_among files class ∷ []
    joined = rw (so_far, name) refl

pub all_named : (files : List ClassFile) (f : ClassFile) (n : ℕ) (classes : List Superclass) → length f.interfaces ≤ n
    → AreNamedSoFar files f n classes → map Some (interfaces_of f) ≡ map (name_among files) classes
all_named files f n classes all so_far =
    ap (λ (z : List ℕ). map Some (map (class_name_at f) z)) (sym (take_all n f.interfaces all)) ∙ so_far

-- ---- their numbers

pub are_interfaces : (files : List ClassFile) (f : ClassFile) (classes : List Superclass) (numbers : List ℕ)
    → map Some (interfaces_of f) ≡ map (name_among files) classes → AreTheirNumbers files classes numbers
    → AreInterfaces files f numbers
are_interfaces files f classes numbers named are = record { names = named ∙ are.names; each = are.each }

-- ---- one that is no interface

-- the name of the class at a place
name_there : (files : List ClassFile) (names : List (List ℕ)) (classes : List Superclass) (k : ℕ) (class : Superclass)
    (name : List ℕ) → map Some names ≡ map (name_among files) classes → slice_get names k ≡ Some name
    → slice_get classes k ≡ Some class → name_among files class ≡ Some name
name_there files names classes k class name named at-name at-class =
    let wrap : List ℕ → Option (List ℕ) = λ z. Some z in
    same_Some (name_among files class) (Some name)
    (sym (mapped_at (name_among files) classes k class at-class)
    ∙ ap (λ (z : List (Option (List ℕ))). slice_get z k) (sym named) ∙ mapped_at wrap names k name at-name)

same_length : (files : List ClassFile) (names : List (List ℕ)) (classes : List Superclass)
    → map Some names ≡ map (name_among files) classes → length names ≡ length classes
same_length files names classes named =
    let wrap : List ℕ → Option (List ℕ) = λ z. Some z in
    sym (length-map names wrap) ∙ ap length named ∙ length-map classes (name_among files)

-- each of these names is known
each_known : (files : List ClassFile) (names : List (List ℕ)) (classes : List Superclass)
    → map Some names ≡ map (name_among files) classes → All (λ name. IsUnknown files name → ⊥) names
each_known files names classes named k d within unknown =
    let small : k < length classes = omega (arith, same_length files names classes named) in
    let class = slice_index_or classes k (super.Given 0) in
    named_known files class (get_or names k d)
    (name_there files names classes k class (get_or names k d) named (slice_get-get_or names k d within)
    (slice_get-get_or classes k (super.Given 0) small)) unknown

pub fails_among : (files : List ClassFile) (f : ClassFile) (classes : List Superclass) (fault : InterfaceFault)
    → map Some (interfaces_of f) ≡ map (name_among files) classes → FailsAmong files classes fault
    → FailsFor files f fault
fails_among files f classes Memory named fails = tt
fails_among files f classes (Bad kind) named (is, (class, among, other)) =
    let place = place_in classes class among in
    let k = place.0 in
    let within : k < length (interfaces_of f) =
    omega (arith, slice_get_within classes k class place.1, same_length files (interfaces_of f) classes named) in
    let name = get_or (interfaces_of f) k [] in
    let at-name = slice_get-get_or (interfaces_of f) k [] within in
    subst (HasBadInterface files f) (sym is)
    (one_no_interface (each_known files (interfaces_of f) classes named)
    (contains_at (interfaces_of f) k name at-name)
    (other name (name_there files (interfaces_of f) classes k class name named at-name place.1)))
