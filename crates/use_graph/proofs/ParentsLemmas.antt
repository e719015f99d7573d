-- What is initialized before a class stands above it.
use Rattle.std.proofs.Common.{◌≡◌, ◌⊎◌, inl, inr, ℕ, zero, suc, List, ◌∷◌, sym, subst}
use Rattle.std.proofs.Common.{Bool, arith}
use Rattle.std.specs.List.{Contains, filter}
use Rattle.std.proofs.lemmas.List.Elements.{All-contains, All-contains_itself, All-filter, Contains-append_left}
use Rattle.std.proofs.lemmas.List.Elements.{Contains-append_right, Contains-append_cases}
use Rattle.semantics.proofs.WavesLemmas.{Contains-nil, Contains-first, Contains-later}
use Rattle.loading.specs.Families.{Family, interfaces_in, superclasses_in, IsAncestor, parent, further}
use Rattle.hierarchy.specs.Initialization.{is_initialized_first, IsInitializationOrder, interface, class}
use Rattle.hierarchy.specs.Search.{SuperinterfacesFirst, none, next, firsts}
use Rattle.hierarchy.proofs.FirstsLemmas.{Contains-firsts}
use Rattle.use_graph.specs.Soundness.{ParentsAreUses}

in_cons : (x y : ℕ) (ys : List ℕ) → Contains (y ∷ ys) x → (x ≡ y) ⊎ Contains ys x
in_cons x y ys (zero, within, is) = inl (sym is)
in_cons x y ys (suc k, within, is) = inr (k, omega arith, is)

in_filtered : (f : ℕ → Bool) (xs : List ℕ) (x : ℕ) → Contains (filter f xs) x → Contains xs x
in_filtered f xs x h =
    All-contains (Contains xs) (filter f xs) x (All-filter f (Contains xs) xs (All-contains_itself xs)) h

module _ (family : Family) where
  further_still : {c d e : ℕ} → IsAncestor family c d → IsAncestor family d e → IsAncestor family c e
  further_still up (parent p) = further up p
  further_still up (further on p) = further (further_still up on) p

  -- a superinterface is one of these, or stands above one of them
  abbrev IsAbove : List ℕ → ℕ → Type 0
  IsAbove is x = (i : ℕ) × Contains is i × ((x ≡ i) ⊎ IsAncestor family i x)

  from_parents : (i x : ℕ) → IsAbove (interfaces_in family i) x → IsAncestor family i x
  from_parents i x (j, at, inl same) =
      subst (IsAncestor family i) (sym same) (parent (Contains-append_left (interfaces_in family i)
      (superclasses_in family i) j at))
  from_parents i x (j, at, inr up) =
      further_still (parent (Contains-append_left (interfaces_in family i) (superclasses_in family i) j at)) up

  above_these : {is all : List ℕ} → SuperinterfacesFirst family is all → (x : ℕ) → Contains all x → IsAbove is x
  above_these none x at = absurd (Contains-nil x at)
  above_these (next {i = i} {is = is} {above = above} {rest = rest} up on) x at =
      elim (Contains-append_cases above (i ∷ rest) x at) [
        | inl higher ↦ (i, Contains-first i is, inr (from_parents i x (above_these up x higher)))
        | inr lower ↦ elim (in_cons x i rest lower) [
          | inl same ↦ (i, Contains-first i is, inl same)
          | inr later ↦
              let found = above_these on x later in
              (found.0, Contains-later i found.0 is found.1, found.2)
        ]
      ]

  pub order_above : {c : ℕ} {order : List ℕ} → IsInitializationOrder family c order → (p : ℕ) → Contains order p
      → IsAncestor family c p
  order_above (interface is) p at = absurd (Contains-nil p at)
  order_above {c = c} (class {all = all} is first) p at =
      elim (Contains-append_cases (superclasses_in family c) (filter (is_initialized_first family) (firsts all)) p at) [
        | inl super ↦ parent (Contains-append_right (interfaces_in family c) (superclasses_in family c) p super)
        | inr kept ↦
            from_parents c p (above_these first p ((Contains-firsts all p).0
            (in_filtered (is_initialized_first family) (firsts all) p kept)))
      ]

pub parents_are_uses_lem : ParentsAreUses
parents_are_uses_lem P is fits c p within at =
    let up = order_above P.family (is.orders c within) p at in
    (λ same. fits.acyclic c (subst (IsAncestor P.family c) same up), inl at)
