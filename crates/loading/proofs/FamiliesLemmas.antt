-- Numbers of the classes of a family.
use Rattle.std.proofs.Common.{◌≡◌, ℕ, ◌<◌, List, length, Option, Some, None, refl, sym, ap, ◌∙◌}
use Rattle.std.specs.List.{HoldsAt, slice_get}
use Rattle.std.specs.List.Sorted.{IsNonDecreasingBy, IsPartitionPoint}
use Rattle.std.specs.Option.{option_map}
use Rattle.std.specs.Ordering.{nat_cmp, ordering_index}
use Rattle.std.specs.Cmp.Lexicographic.{slice_cmp}
use Rattle.std.specs.declared.cmp.Ordering.TheVariants.{Less, Equal, Greater}
use Rattle.std.proofs.lemmas.Option.{same_Some}
use Rattle.loading.specs.declared.given.GivenClass.{GivenClass}
use Rattle.loading.specs.Names.{name_of, Precedes}
use Rattle.loading.specs.Families.{Family, IsFamily, name_in, file_of}
use Rattle.loading.proofs.LinkingPlaceLemmas.{found_at_place, not_found}

abbrev pub class_name : GivenClass → List ℕ
class_name x = name_of x.file

name_if : (o : Option GivenClass) → option_map name_of (file_of o) ≡ option_map class_name o
name_if None = refl
name_if (Some x) = refl

name_in_class : (family : Family) (c : ℕ) (x : GivenClass) → slice_get family c ≡ Some x
    → name_in family c ≡ Some (class_name x)
name_in_class family c x at-x = name_if (slice_get family c) ∙ ap (option_map class_name) at-x

-- what a binary search finds
pub found_class : (family : Family) (name : List ℕ) (k : ℕ) → k < length family
    → HoldsAt (λ y. slice_cmp nat_cmp (class_name y) name ≡ Equal) family k
    → name_in family k ≡ Some name
found_class family name k within at = name_if (slice_get family k) ∙ found_at_place class_name family name k within at

pub no_class : (family : Family) (name : List ℕ) (n : ℕ) → IsFamily family
    → (IsNonDecreasingBy (λ y. ordering_index (slice_cmp nat_cmp (class_name y) name)) family
    → IsPartitionPoint (λ y. slice_cmp nat_cmp (class_name y) name ≡ Less)
    (λ y. slice_cmp nat_cmp (class_name y) name ≡ Greater) family n)
    → (c : ℕ) → name_in family c ≡ Some name → ⊥
no_class family name n fits split c named = by_case (slice_get family c) refl
  where
    up : (i j : ℕ) (x y : GivenClass) → i < j → slice_get family i ≡ Some x → slice_get family j ≡ Some y
        → Precedes (class_name x) (class_name y)
    up i j x y less at-x at-y = fits.ascending i j (class_name x) (class_name y) less (name_in_class family i x at-x)
        (name_in_class family j y at-y)

    by_case : (o : Option GivenClass) → slice_get family c ≡ o → ⊥
    by_case None none = (let no : None ≡ Some name = rw none at named in cc)
    by_case (Some x) at-x =
        not_found class_name family name n up split c x at-x
        (same_Some (class_name x) name (sym (name_in_class family c x at-x) ∙ named))
