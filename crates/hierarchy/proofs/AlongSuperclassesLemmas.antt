-- Searches that find nothing in interfaces.
use Rattle.std.proofs.Common.{◌≡◌, ℕ, true, List, [], ◌∷◌, ◌++◌, Option, None, append-nil, append_assoc, sym}
use Rattle.std.proofs.Common.{subst, refl, suc, arith}
use Rattle.std.specs.List.{Contains}
use Rattle.loading.specs.Families.{Family, IsFamily, parents_in, interfaces_in, superclasses_in, is_interface_in}
use Rattle.loading.specs.Families.{IsParentsFirst}
use Rattle.hierarchy.specs.Search.{Search}
use Rattle.hierarchy.specs.declared.member.DeclaredMember.{DeclaredMember}
use Rattle.hierarchy.specs.steps.Reaches.{Nearest, here, above, nowhere}
use Rattle.hierarchy.specs.steps.Ascents.{ParentsBefore, none, next}
use Rattle.hierarchy.proofs.AboveLemmas.{interface_parents}
use Rattle.hierarchy.proofs.AscentsOrderLemmas.{postorder_ends}

-- what is not found in the front is looked for after
pub not_in_front : {family : Family} {own : ℕ → Option ℕ} {xs ys : List ℕ} {r : Option DeclaredMember}
    → Search family own xs None → Search family own ys r → Search family own (xs ++ ys) r
not_in_front Search.nothing after = after
not_in_front {family = family} {own = own} {ys = ys} {r = r} (Search.above {c = c} {cs = cs} e rest) after =
    Search.above e (subst (λ (l : List ℕ). Search family own l r) (append_assoc (parents_in family c) cs ys)
    (not_in_front rest after))

module _ (family : Family) (own : ℕ → Option ℕ) (order : List ℕ) (first : IsParentsFirst family order) where
  -- ---- where no class has anything

  nowhere_among : (cs all : List ℕ) → ParentsBefore family cs all → ((c : ℕ) → own c ≡ None)
      → Search family own cs None
  nowhere_among _ _ none lacks = Search.nothing
  nowhere_among _ _ (next {c = c} up rest) lacks =
      Search.above (lacks c) (not_in_front (nowhere_among _ _ up lacks) (nowhere_among _ _ rest lacks))

  pub found_nowhere : (cs : List ℕ) → ((c : ℕ) → own c ≡ None) → Search family own cs None
  found_nowhere cs lacks =
      let ends = postorder_ends family order first cs in
      nowhere_among cs ends.0 ends.1 lacks

  -- ---- where no interface has anything

  module _ (fits : IsFamily family) (lacks : (i : ℕ) → is_interface_in family i ≡ true → own i ≡ None) where
    no_interface_has : (is all : List ℕ) → ParentsBefore family is all
        → ((i : ℕ) → Contains is i → is_interface_in family i ≡ true) → Search family own is None
    no_interface_has _ _ none are = Search.nothing
    no_interface_has _ _ (next {c = i} {cs = is} up rest) are =
        let here : is_interface_in family i ≡ true = are i (0, omega arith, refl) in
        Search.above (lacks i here)
        (not_in_front
        (no_interface_has _ _ up (λ j has. fits.interfaces i j
        (subst (λ (l : List ℕ). Contains l j) (interface_parents family i fits here) has)))
        (no_interface_has _ _ rest (λ j has. are j (suc has.0, omega (arith, has.1), has.2))))

    past_interfaces : (c : ℕ) (r : Option DeclaredMember) → own c ≡ None
        → Search family own (superclasses_in family c) r
        → Search family own (c ∷ []) r
    past_interfaces c r empty up =
        let ends = postorder_ends family order first (interfaces_in family c) in
        Search.above empty (subst (λ (l : List ℕ). Search family own l r) (sym (append-nil (parents_in family c)))
        (not_in_front (no_interface_has (interfaces_in family c) ends.0 ends.1 (fits.interfaces c)) up))

    -- a search goes along superclasses alone
    pub along_superclasses : (c : ℕ) (r : Option DeclaredMember) → Nearest family own c r
        → Search family own (c ∷ []) r
    along_superclasses c r (here has) = Search.here has
    along_superclasses c r (above {d = d} empty is rest) =
        past_interfaces c r empty (subst (λ (l : List ℕ). Search family own l r) (sym is)
        (along_superclasses d r rest))
    along_superclasses c r (nowhere empty is) =
        past_interfaces c None empty (subst (λ (l : List ℕ). Search family own l None) (sym is) Search.nothing)
