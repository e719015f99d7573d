-- What the definitions say is one list or one answer.
use Rattle.std.proofs.Common.{◌≡◌, ℕ, List, ◌++◌, Option, refl, ap, subst}
use Rattle.std.specs.List.{filter}
use Rattle.loading.specs.Families.{Family, superclasses_in}
use Rattle.hierarchy.specs.Search.{SuperinterfacesFirst, none, next, Search, nothing, here, above, firsts}
use Rattle.hierarchy.specs.Initialization.{is_initialized_first, IsInitializationOrder, interface, class}
use Rattle.hierarchy.specs.Initialization.{AreSuperclasses, none as no_superclass, next as next_superclass}
use Rattle.hierarchy.specs.declared.member.DeclaredMember.{DeclaredMember}

pub same_superclasses : {family : Family} {c : ℕ} {a b : List ℕ} → AreSuperclasses family c a
    → AreSuperclasses family c b → a ≡ b
same_superclasses (no_superclass e) (no_superclass f) = refl
same_superclasses (no_superclass e) (next_superclass f g) = absurd cc
same_superclasses (next_superclass e g) (no_superclass f) = absurd cc
same_superclasses {family} (next_superclass {d = d} {ds = ds} e g) (next_superclass {d = k} {ds = ks} f h) =
    let same : d ≡ k = cc in
    let rest : ds ≡ ks = same_superclasses (subst (λ (c : ℕ). AreSuperclasses family c ds) same g) h in
    cc

pub same_superinterfaces_first : {family : Family} {is a b : List ℕ} → SuperinterfacesFirst family is a
    → SuperinterfacesFirst family is b → a ≡ b
same_superinterfaces_first none none = refl
same_superinterfaces_first (next {i = i} {above = up} {rest = rest} g h) (next {above = up'} {rest = rest'} k l) =
    let e : up ≡ up' = same_superinterfaces_first g k in
    let f : rest ≡ rest' = same_superinterfaces_first h l in
    cc

pub same_search : {family : Family} {own : ℕ → Option ℕ} {cs : List ℕ} {r s : Option DeclaredMember}
    → Search family own cs r → Search family own cs s → r ≡ s
same_search nothing nothing = refl
same_search (here {c} e) (here f) = cc
same_search (here e) (above f g) = absurd cc
same_search (above e g) (here f) = absurd cc
same_search (above e g) (above f h) = same_search g h

pub same_order : {family : Family} {c : ℕ} {a b : List ℕ} → IsInitializationOrder family c a
    → IsInitializationOrder family c b → a ≡ b
same_order (interface e) (interface f) = refl
same_order (interface e) (class f g) = absurd cc
same_order (class e g) (interface f) = absurd cc
same_order {family} {c} (class e g) (class f h) =
    ap (λ (all : List ℕ). superclasses_in family c ++ filter (is_initialized_first family) (firsts all))
    (same_superinterfaces_first g h)
