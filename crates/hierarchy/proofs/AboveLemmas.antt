-- What stands above some classes, and the first of a list that has something.
use Rattle.std.proofs.Common.{◌≡◌, ℕ, suc, true, List, [], ◌∷◌, ◌++◌, Option, Some, None, refl, sym, ap, ◌∙◌, inl, inr}
use Rattle.std.proofs.Common.{arith, append-nil}
use Rattle.std.specs.List.{Contains}
use Rattle.loading.specs.Families.{Family, IsFamily, IsAncestor, parent, further, parents_in, interfaces_in}
use Rattle.loading.specs.Families.{superclasses_in, given_superclass, is_interface_in}
use Rattle.hierarchy.specs.steps.Above.{first_with, with_place, or_else, IsAmongOrAbove}
use Rattle.hierarchy.specs.declared.member.DeclaredMember.{DeclaredMember}

-- ---- the first of a list that has something

pub or_else_assoc : (a b c : Option DeclaredMember) → or_else (or_else a b) c ≡ or_else a (or_else b c)
or_else_assoc None b c = refl
or_else_assoc (Some x) b c = refl

pub first_with-append : (own : ℕ → Option ℕ) (xs ys : List ℕ)
    → first_with own (xs ++ ys) ≡ or_else (first_with own xs) (first_with own ys)
first_with-append own [] ys = refl
first_with-append own (x ∷ xs) ys =
    ap (or_else (with_place x (own x))) (first_with-append own xs ys)
    ∙ sym (or_else_assoc (with_place x (own x)) (first_with own xs) (first_with own ys))

-- ---- what stands above

-- an ancestor is a parent or above one
pub ancestor_parts : {family : Family} {c j : ℕ} → IsAncestor family c j → IsAmongOrAbove family (parents_in family c) j
ancestor_parts (parent h) = inl h
ancestor_parts {family} {c} {j} (further {d} a h) = elim (ancestor_parts a) [
  | inl among ↦ inr (d, among, parent h)
  | inr up ↦ inr (up.0, up.1, further up.2 h)
]

pub ancestor_of_parent : {family : Family} {c p j : ℕ} → Contains (parents_in family c) p → IsAncestor family p j
    → IsAncestor family c j
ancestor_of_parent h (parent k) = further (parent h) k
ancestor_of_parent h (further a k) = further (ancestor_of_parent h a) k

pub among_parents : {family : Family} {c j : ℕ} → IsAmongOrAbove family (parents_in family c) j → IsAncestor family c j
among_parents (inl h) = parent h
among_parents (inr up) = ancestor_of_parent up.1 up.2

pub further_on : (family : Family) (i j : ℕ) (is : List ℕ) → IsAmongOrAbove family is j
    → IsAmongOrAbove family (i ∷ is) j
further_on family i j is (inl (k, small, e)) = inl (suc k, omega arith, e)
further_on family i j is (inr (p, (k, small, e), a)) = inr (p, (suc k, omega arith, e), a)

-- an interface has no given superclass
pub interface_parents : (family : Family) (i : ℕ) → IsFamily family → is_interface_in family i ≡ true
    → parents_in family i ≡ interfaces_in family i
interface_parents family i fits is =
    let none : superclasses_in family i ≡ [] = ap given_superclass (fits.below_object i is) in
    ap (λ (ds : List ℕ). interfaces_in family i ++ ds) none ∙ append-nil (interfaces_in family i)

-- an ancestor of an ancestor is one
pub ancestor_through : {family : Family} {c d e : ℕ} → IsAncestor family c d → IsAncestor family d e
    → IsAncestor family c e
ancestor_through up (parent has) = further up has
ancestor_through up (further more has) = further (ancestor_through up more) has
