-- Classes whose methods have come in.
use Rattle.std.proofs.Common.{◌≡◌, ℕ, zero, suc, ◌<◌, List, [], ◌∷◌, length, Option, Some, None, slice_get, get_or}
use borrow.Author.Count.{below_more}
use Rattle.std.proofs.Common.{◌+◌, refl, sym, ap, subst, ◌∙◌, inl, inr, arith}
use Rattle.std.specs.Prelude.{map, slice_index_or}
use Rattle.std.specs.List.{AllZip}
use Rattle.classfile.specs.ClassFile.{ClassFile}
use Rattle.classfile.specs.declared.member.Member.{Member}
use Rattle.loading.specs.declared.given.GivenClass.{GivenClass}
use Rattle.loading.specs.Families.{Family, file_in, file_of}
use Rattle.program.specs.declared.class.Class.{Class}
use Rattle.program.specs.declared.class.Implementation.{Implementation}
use Rattle.program.specs.Fields.{statics_of}
use Rattle.program.specs.Programs.{AreClasses, IsImplementation, IsLinkedClass, static_field}
use Rattle.program.specs.RuntimePool.{IsRuntimePool}
use Rattle.program.specs.declared.runtime_constant.RuntimeConstant.{RuntimeConstant}
use Rattle.program.specs.steps.Frames.{AreBareClasses, AreTried, AreWhole, CanImplementAll, Implements, IsBareClass}
use Rattle.program.specs.steps.Frames.{IsReady, IsTried, IsWholeAt}
use Rattle.program.proofs.PoolFieldsLemmas.{zip_some}
use Rattle.program.proofs.RuntimePoolLemmas.{holds_classes}

zip_length : {A B : Type 0} (R : A → B → Type 0) (xs : List A) (ys : List B) → AllZip R xs ys → length xs ≡ length ys
zip_length R [] [] all = refl
zip_length R [] (y ∷ ys) all = absurd all
zip_length R (x ∷ xs) [] all = absurd all
zip_length R (x ∷ xs) (y ∷ ys) all = ap suc (zip_length R xs ys all.1)

zip_by : {A B : Type 0} (R : A → B → Type 0) (xs : List A) (ys : List B) → length xs ≡ length ys
    → ((i : ℕ) (x : A) (y : B) → slice_get xs i ≡ Some x → slice_get ys i ≡ Some y → R x y) → AllZip R xs ys
zip_by R [] [] same each = tt
zip_by R [] (y ∷ ys) same each = absurd cc
zip_by R (x ∷ xs) [] same each = absurd cc
zip_by {A} {B} R (x ∷ xs) (y ∷ ys) same each =
    let more : (i : ℕ) (a : A) (b : B) → slice_get xs i ≡ Some a → slice_get ys i ≡ Some b → R a b =
    λ i a b at here. each (suc i) a b at here in
    let fewer : length xs ≡ length ys = cc in
    (each zero x y refl refl, zip_by R xs ys fewer more)

got : {A : Type 0} (xs : List A) (i : ℕ) (x d : A) → slice_get xs i ≡ Some x → slice_index_or xs i d ≡ x
got [] i x d at = absurd cc
got (y ∷ xs) zero x d at = cc
got (y ∷ xs) (suc i) x d at = got xs i x d at

below : {A : Type 0} (xs : List A) (i : ℕ) (x : A) → slice_get xs i ≡ Some x → i < length xs
below [] i x at = absurd cc
below (y ∷ xs) zero x at = omega arith
below (y ∷ xs) (suc i) x at = let more : i < length xs = below xs i x at in omega (arith, more)

same_some : {A : Type 0} {o : Option A} (x y : A) → o ≡ Some x → o ≡ Some y → x ≡ y
same_some x y p q = let r : Some x ≡ Some y = sym p ∙ q in cc

pub at_file : (family : Family) (number : ℕ) (given : GivenClass) (f : ClassFile) → number < length family
    → given ≡ get_or family number given → file_in family number ≡ Some f → given.file ≡ f
at_file [] number given f within is at = absurd (omega (arith, within))
at_file (x ∷ family) zero given f within is at =
    let same : x.file ≡ f = same_some x.file f refl at in
    ap (λ (z : GivenClass). z.file) is ∙ same
at_file (x ∷ family) (suc number) given f within is at =
    at_file family number given f (omega (arith, within)) is at

pub place_of : {A : Type 0} (xs : List A) (i : ℕ) (d : A) → i < length xs → slice_get xs i ≡ Some (get_or xs i d)
place_of [] i d within = absurd (omega (arith, within))
place_of (y ∷ xs) zero d within = refl
place_of (y ∷ xs) (suc i) d within = place_of xs i d (omega (arith, within))

pub file_below : (family : Family) (number : ℕ) (f : ClassFile) → file_in family number ≡ Some f
    → number < length family
file_below [] number f at = absurd cc
file_below (given ∷ family) zero f at = omega arith
file_below (given ∷ family) (suc number) f at =
    let more : number < length family = file_below family number f at in omega (arith, more)

pub up_to : (family : Family) (classes : List Class) (i : ℕ) → ((j : ℕ) → j < i → IsWholeAt family classes j)
    → (given : GivenClass) (class : Class) → i < length family → given ≡ get_or family i given
    → slice_get classes i ≡ Some class → length class.methods ≡ length given.file.methods → (j : ℕ) → j < i + 1
    → IsWholeAt family classes j
up_to family classes i before given class within is here many =
    let this : IsWholeAt family classes i = λ f at.
    (class, here, many ∙ ap (λ (z : ClassFile). length z.methods) (at_file family i given f within is at)) in
    below_more (λ (j : ℕ). IsWholeAt family classes j) i before this

-- ---- a class is ready for its methods

module _ (family : Family) (strings : List (List ℕ)) where
  abbrev IsBare : GivenClass → Class → Type 0
  IsBare given class = IsBareClass family strings given.file class

  ready : (f : ClassFile) (class : Class) → IsBareClass family strings f class → IsReady family f class
  ready f class bare = record {
    pool = holds_classes family strings f class.runtime_pool bare.runtime_pool;
    signatures = bare.signatures;
  }

  given_at : (number : ℕ) (f : ClassFile) → file_in family number ≡ Some f
      → (given : GivenClass) × (slice_get family number ≡ Some given) × (given.file ≡ f)
  given_at number f at = by (slice_get family number) refl
    where
      by : (o : Option GivenClass) → slice_get family number ≡ o
          → (given : GivenClass) × (slice_get family number ≡ Some given) × (given.file ≡ f)
      by None is = let none : file_in family number ≡ None = ap file_of is in absurd (cc)
      by (Some given) is =
          let some : file_in family number ≡ Some given.file = ap file_of is in
          (given, is, same_some given.file f some at)

  pub bare_length : (classes : List Class) → AreBareClasses family strings classes → length classes ≡ length family
  bare_length classes bare = sym (zip_length IsBare family classes bare)

  pub all_ready : (classes : List Class) → AreBareClasses family strings classes → CanImplementAll family classes
  all_ready classes bare number class here f at =
      let given = given_at number f at in
      let held = zip_some IsBare family classes number given.0 bare given.1 in
      let same : held.0 ≡ class = same_some held.0 class held.1 here in
      let P : ClassFile → Type 0 = λ z. IsReady family z class in
      let Q : Class → Type 0 = λ z. IsReady family given.0.file z in
      subst P given.2 (subst Q same (ready given.0.file held.0 held.2))

  -- ---- and has them

  linked : (f : ClassFile) (old new : Class) → IsBareClass family strings f old → Implements family f old new
      → IsLinkedClass family strings f new
  linked f old new bare has = record {
    statics = has.statics ∙ bare.statics
        ∙ ap (λ (pool : List RuntimeConstant). map (static_field f pool) (statics_of f)) (sym has.runtime_pool);
    signatures = rw (has.signatures) bare.signatures;
    methods = has.methods;
    initializer = has.initializer ∙ bare.initializer;
    main = has.main ∙ bare.main;
    runtime_pool = rw (has.runtime_pool) bare.runtime_pool;
  }

  no_methods : (f : ClassFile) (methods : List Member) → length methods ≡ 0
      → AllZip (IsImplementation family f) methods []
  no_methods f [] none = tt
  no_methods f (m ∷ methods) none = absurd cc

  untouched : (f : ClassFile) (class : Class) → IsBareClass family strings f class → length class.methods ≡ length f.methods
      → Implements family f class class
  untouched f class bare many =
      let none : length f.methods ≡ 0 = sym many ∙ ap length bare.methods in
      let P : List Implementation → Type 0 = λ z. AllZip (IsImplementation family f) f.methods z in
      record {
        statics = refl;
        signatures = refl;
        methods = subst P (sym bare.methods) (no_methods f f.methods none);
        initializer = refl;
        main = refl;
        runtime_pool = refl;
      }

  pub whole_classes : (old new : List Class) → AreBareClasses family strings old → AreTried family old new
      → AreWhole family new → AreClasses family strings new
  whole_classes old new bare tried whole = zip_by R family new many each
    where
      R : GivenClass → Class → Type 0
      R given class = IsLinkedClass family strings given.file class

      many : length family ≡ length new
      many = zip_length IsBare family old bare ∙ sym tried.many

      each : (i : ℕ) (given : GivenClass) (class : Class) → slice_get family i ≡ Some given
          → slice_get new i ≡ Some class → R given class
      each i given class at here =
          let held = zip_some IsBare family old i given bare at in
          let file : file_in family i ≡ Some given.file = ap file_of at in
          let was : slice_index_or old i held.0 ≡ held.0 = got old i held.0 held.0 held.1 in
          let is : slice_index_or new i held.0 ≡ class = got new i class held.0 here in
          let P : Class → Type 0 = λ z. IsTried family i z (slice_index_or new i held.0) in
          let Q : Class → Type 0 = λ z. IsTried family i held.0 z in
          let one : IsTried family i held.0 class =
          subst Q is (subst P was (tried.each i held.0 (below old i held.0 held.1))) in
          elim (one given.file file) [
            | inl has ↦ linked given.file held.0 class held.2 has
            | inr same ↦
                let counted = whole i given.file file in
                let this : counted.0 ≡ class = same_some counted.0 class counted.1 here in
                let S : Class → Type 0 = λ z. length z.methods ≡ length given.file.methods in
                let full : length held.0.methods ≡ length given.file.methods = subst S (this ∙ same) counted.2 in
                let T : Class → Type 0 = λ z. IsLinkedClass family strings given.file z in
                subst T (sym same) (linked given.file held.0 held.0 held.2 (untouched given.file held.0 held.2 full))
          ]
