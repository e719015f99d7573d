-- What stands above a class, in the order of searches.
use Rattle.std.proofs.Common.{◌≡◌, ℕ, ◌≤◌, List, [], ◌∷◌, ◌++◌, length, Option, None, sym, ap, ◌∙◌, subst, inl, inr}
use Rattle.std.proofs.Common.{append-nil, arith, ◌↔◌, Bool, true, false, Some, slice_get, is_some, IsTrue, MatchOption}
use Rattle.std.specs.List.{Contains}
use Rattle.loading.specs.Families.{Family, IsAncestor, parents_in, superclasses_in}
use Rattle.loading.proofs.PlaceLemmas.{contains_at}
use Rattle.loading.proofs.FamiliesParentLemmas.{no_interfaces, no_superclasses}
use Rattle.hierarchy.specs.Search.{Search, nothing, above}
use Rattle.hierarchy.specs.steps.Above.{first_with, IsAmongOrAbove}
use Rattle.hierarchy.specs.steps.Ascents.{IsSearchOrder}
use Rattle.hierarchy.proofs.AboveLemmas.{ancestor_parts, among_parents}
use Rattle.hierarchy.proofs.AscentsOrderLemmas.{none_in_empty}

none_among : (family : Family) (c : ℕ) → IsAmongOrAbove family [] c → Contains [] c
none_among family c (inl among) = among
none_among family c (inr (i, among, up)) = absurd (none_in_empty i among)

-- a number of no class has nothing above it
pub none_above : (family : Family) (class : ℕ) (list : List ℕ) → length family ≤ class → list ≡ []
    → IsSearchOrder family (parents_in family class) list
none_above family class list past empty =
    let parents : parents_in family class ≡ [] = ap (λ (is : List ℕ). is ++ superclasses_in family class)
    (no_interfaces family class past) ∙ no_superclasses family class past in
    rw (empty, parents) (record {
      once = λ x. omega arith;
      members = λ c. (λ h. absurd (none_in_empty c h), none_among family c);
      search = λ own. nothing;
    })

-- A class that has nothing itself is searched above.
pub search_above : (family : Family) (own : ℕ → Option ℕ) (class : ℕ) (list : List ℕ) → own class ≡ None
    → IsSearchOrder family (parents_in family class) list
    → Search family own (class ∷ []) (first_with own list)
search_above family own class list lacks order =
    above lacks (subst (λ (xs : List ℕ). Search family own xs (first_with own list))
    (sym (append-nil (parents_in family class))) (order.search own))

-- those in search order above a class are its ancestors
pub ancestors_are : (family : Family) (c : ℕ) (items : List ℕ) → IsSearchOrder family (parents_in family c) items
    → (m : ℕ) → Contains items m ↔ IsAncestor family c m
ancestors_are family c items order m =
    (λ has. among_parents ((order.members m).0 has), λ up. (order.members m).1 (ancestor_parts up))

-- what has a place is one of them
pub has_by_place : (items : List ℕ) (c : ℕ) (place : Option ℕ) (b : Bool) → b ≡ is_some place
    → MatchOption place (¬ Contains items c) (λ p. slice_get items p ≡ Some c) → IsTrue b ↔ Contains items c
has_by_place items c None b is out =
    (λ t. absurd (let clash : true ≡ false = sym t ∙ is in cc), λ has. absurd (out has))
has_by_place items c (Some p) b is at = (λ t. contains_at items p c at, λ has. is)
