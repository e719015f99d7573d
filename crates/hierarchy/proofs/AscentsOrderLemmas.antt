-- Classes after their parents, as an ascent leaves them, and searches past what was found before.
use Rattle.std.proofs.Common.{◌≡◌, ℕ, zero, suc, ◌⊎◌, List, [], ◌∷◌, ◌++◌, Option, Some, None, refl, sym, ap, ◌∙◌}
use Rattle.std.proofs.Common.{subst, inl, inr, arith, false, ◌<◌, ◌≤◌, length, take, get_or, append-nil, append_assoc}
use Rattle.std.specs.List.{Contains}
use Rattle.std.proofs.Math.Seq.{take-suc}
use Rattle.std.proofs.lemmas.Bool.{cases_lt}
use Rattle.std.proofs.lemmas.List.{take_all, get_or_default}
use Rattle.std.proofs.lemmas.List.Elements.{Contains-push_cases, Contains-append_left, Contains-append_right}
use Rattle.std.proofs.lemmas.List.Elements.{Contains-append_cases}
use Rattle.std.proofs.lemmas.Option.{slice_get_read}
use Rattle.loading.specs.Families.{Family, IsAncestor, parent, further, parents_in, IsParentsFirst, superclasses_in}
use Rattle.hierarchy.specs.Search.{Search, here, above, firsts}
use Rattle.hierarchy.specs.steps.Above.{first_with, with_place, or_else, IsAmongOrAbove}
use Rattle.hierarchy.specs.steps.Ascents.{ParentsBefore, none, next, HasPostorder}
use Rattle.loading.proofs.FamiliesParentLemmas.{no_interfaces, no_superclasses}
use Rattle.hierarchy.specs.declared.member.DeclaredMember.{DeclaredMember}
use Rattle.hierarchy.proofs.AboveLemmas.{or_else_assoc, first_with-append, among_parents, further_on}
use Rattle.hierarchy.proofs.FirstsLemmas.{Contains-firsts, firsts_joins}

-- ---- members of lists

pub none_in_empty : {X : Type 0} (x : X) → Contains [] x → ⊥
none_in_empty x (k, small, e) = omega arith

pub in_front : {X : Type 0} (x : X) (xs : List X) → Contains (x ∷ xs) x
in_front x xs = (0, omega arith, refl)

pub in_rest : {X : Type 0} (x : X) (xs : List X) (y : X) → Contains xs y → Contains (x ∷ xs) y
in_rest x xs y (k, small, e) = (suc k, omega arith, e)

pub cons_cases : {X : Type 0} (x : X) (xs : List X) (y : X) → Contains (x ∷ xs) y → (x ≡ y) ⊎ Contains xs y
cons_cases x xs y (zero, small, e) = inl e
cons_cases x xs y (suc k, small, e) = inr (k, omega arith, e)

pub cons_more : (x : ℕ) (xs ys : List ℕ) → ((y : ℕ) → Contains xs y → Contains ys y) → (y : ℕ) → Contains (x ∷ xs) y
    → Contains (x ∷ ys) y
cons_more x xs ys sub y h = elim (cons_cases x xs y h) [
  | inl same ↦ subst (λ (z : ℕ). Contains (x ∷ ys) z) same (in_front x ys)
  | inr rest ↦ in_rest x ys y (sub y rest)
]

pub cons_within : (x : ℕ) (xs ys : List ℕ) → Contains ys x → ((y : ℕ) → Contains xs y → Contains ys y) → (y : ℕ)
    → Contains (x ∷ xs) y → Contains ys y
cons_within x xs ys has sub y h = elim (cons_cases x xs y h) [
  | inl same ↦ subst (λ (z : ℕ). Contains ys z) same has
  | inr rest ↦ sub y rest
]

-- what stands in front already adds nothing
pub firsts_known : (front more : List ℕ) → ((x : ℕ) → Contains more x → Contains front x)
    → firsts (front ++ more) ≡ firsts front
firsts_known front [] known = ap firsts (append-nil front)
firsts_known front (x ∷ more) known =
    ap firsts (sym (append_assoc front (x ∷ []) more))
    ∙ firsts_known (front ++ x ∷ []) more
    (λ y h. Contains-append_left front (x ∷ []) y (known y (in_rest x more y h)))
    ∙ sym (firsts_joins false front (firsts front) (firsts front) x refl
    ((Contains-firsts front x).1 (known x (in_front x more)), refl))

-- ---- classes after their parents

module _ (family : Family) where
  pub before_has : {is all : List ℕ} → ParentsBefore family is all → (x : ℕ) → Contains is x → Contains all x
  before_has none x h = h
  before_has (next {c} {cs} {above = low} {rest} lower higher) x h = elim (cons_cases c cs x h) [
    | inl same ↦ Contains-append_right low (c ∷ rest) x
        (subst (λ (y : ℕ). Contains (c ∷ rest) y) same (in_front c rest))
    | inr more ↦ Contains-append_right low (c ∷ rest) x (in_rest c rest x (before_has higher x more))
  ]

  -- the parents of what stands there stand there
  pub before_closed : {is all : List ℕ} → ParentsBefore family is all → (x p : ℕ) → Contains all x
      → Contains (parents_in family x) p → Contains all p
  before_closed none x p h up = absurd (none_in_empty x h)
  before_closed (next {c} {cs} {above = low} {rest} lower higher) x p h up =
      elim (Contains-append_cases low (c ∷ rest) x h) [
        | inl under ↦ Contains-append_left low (c ∷ rest) p (before_closed lower x p under up)
        | inr over ↦ elim (cons_cases c rest x over) [
          | inl same ↦ Contains-append_left low (c ∷ rest) p
              (before_has lower p (subst (λ (y : ℕ). Contains (parents_in family y) p) (sym same) up))
          | inr more ↦ Contains-append_right low (c ∷ rest) p
              (in_rest c rest p (before_closed higher x p more up))
        ]
      ]

  above_before : {is all : List ℕ} → ParentsBefore family is all → (x y : ℕ) → Contains all x → IsAncestor family x y
      → Contains all y
  above_before stand x y h (parent up) = before_closed stand x y h up
  above_before stand x y h (further {d} more up) = before_closed stand d y (above_before stand x d h more) up

  -- what is among some classes or above them
  pub among_before : {is all : List ℕ} → ParentsBefore family is all → (x : ℕ) → IsAmongOrAbove family is x
      → Contains all x
  among_before stand x (inl among) = before_has stand x among
  among_before stand x (inr (i, among, up)) = above_before stand i x (before_has stand i among) up

  pub before_among : {is all : List ℕ} → ParentsBefore family is all → (x : ℕ) → Contains all x
      → IsAmongOrAbove family is x
  before_among none x h = absurd (none_in_empty x h)
  before_among (next {c} {cs} {above = low} {rest} lower higher) x h = elim (Contains-append_cases low (c ∷ rest) x h) [
    | inl under ↦ inr (c, in_front c cs, among_parents (before_among lower x under))
    | inr over ↦ elim (cons_cases c rest x over) [
      | inl same ↦ inl (subst (λ (y : ℕ). Contains (c ∷ cs) y) same (in_front c cs))
      | inr more ↦ further_on family c x cs (before_among higher x more)
    ]
  ]

-- ---- ascents end

-- each class has an end of the ascent above it
postorder_joined : (family : Family) (is : List ℕ)
    → ((i : ℕ) → Contains is i → HasPostorder family (parents_in family i)) → HasPostorder family is
postorder_joined family [] each = ([], none)
postorder_joined family (i ∷ is) each =
    let own = each i (in_front i is) in
    let rest = postorder_joined family is (λ j h. each j (in_rest i is j h)) in
    (own.0 ++ i ∷ rest.0, next own.1 rest.1)

-- all ascents end, since there is an order in which each class stands after its parents
postorder_before : (family : Family) (order : List ℕ) → IsParentsFirst family order → (k : ℕ) → k ≤ length order
    → (c : ℕ) → Contains (take k order) c → HasPostorder family (parents_in family c)
postorder_before family order first zero small c h = absurd (none_in_empty c h)
postorder_before family order first (suc k) small c h =
    let before = postorder_before family order first k (omega arith) in
    let class : ℕ = get_or order k 0 in
    let below : k < length order = omega arith in
    elim (Contains-push_cases (take k order) class c
    (subst (λ (xs : List ℕ). Contains xs c) (take-suc order k 0 below) h)) [
      | inl past ↦ before c past
      | inr same ↦ subst (λ (x : ℕ). HasPostorder family (parents_in family x)) same
          (postorder_joined family (parents_in family class)
          (λ d up. before d (first.after k class d
          (slice_get_read order (length order) k class refl below (get_or_default order k 0 class below)) up)))
    ]

pub postorder_ends : (family : Family) (order : List ℕ) → IsParentsFirst family order → (is : List ℕ)
    → HasPostorder family is
postorder_ends family order first is = postorder_joined family is (λ c h. elim (cases_lt c (length family)) [
  | inl small ↦ postorder_before family order first (length order) (omega arith) c
      (rw (take_all (length order) order (omega arith)) (first.whole c small))
  | inr past ↦ ([], rw (no_parents c past) none)
])
  where
    no_parents : (c : ℕ) → length family ≤ c → parents_in family c ≡ []
    no_parents c past =
        ap (λ (xs : List ℕ). xs ++ superclasses_in family c) (no_interfaces family c past)
        ∙ no_superclasses family c past

-- ---- searches

pub or_else_none : (r : Option DeclaredMember) → or_else r None ≡ r
or_else_none None = refl
or_else_none (Some x) = refl

-- one more class to be asked
pub first_with-push : (own : ℕ → Option ℕ) (xs : List ℕ) (c : ℕ) (r : Option DeclaredMember)
    → or_else (first_with own (xs ++ c ∷ [])) r ≡ or_else (first_with own xs) (or_else (with_place c (own c)) r)
first_with-push own xs c r =
    let found : Option DeclaredMember = with_place c (own c) in
    ap (λ (o : Option DeclaredMember). or_else o r) (first_with-append own xs (c ∷ []))
    ∙ or_else_assoc (first_with own xs) (or_else found None) r
    ∙ ap (or_else (first_with own xs)) (or_else_assoc found None r)

found_among : (own : ℕ → Option ℕ) (xs : List ℕ) (i k : ℕ) → own i ≡ Some k → Contains xs i
    → (found : DeclaredMember) × (first_with own xs ≡ Some found)
found_among own [] i k e h = absurd (none_in_empty i h)
found_among own (x ∷ xs) i k e h = by_own (own x) refl (λ more. found_among own xs i k e more)
  where
    by_own : (o : Option ℕ) → own x ≡ o
        → (Contains xs i → (found : DeclaredMember) × (first_with own xs ≡ Some found))
        → (found : DeclaredMember) × (first_with own (x ∷ xs) ≡ Some found)
    by_own (Some l) f later =
        (record { class = x; index = l }, ap (λ (o : Option ℕ). or_else (with_place x o) (first_with own xs)) f)
    by_own None f later = elim (cons_cases x xs i h) [
      | inl same ↦ (let clash : None ≡ Some k = sym f ∙ ap own same ∙ e in absurd cc)
      | inr more ↦ (let found = later more in
          (found.0, ap (λ (o : Option ℕ). or_else (with_place x o) (first_with own xs)) f ∙ found.1))
    ]

-- A search through classes that were asked before, all above them too, finds no more than it did.
pub search_again : (family : Family) (own : ℕ → Option ℕ) (asked : List ℕ) {is all : List ℕ}
    → ParentsBefore family is all
    → ((x : ℕ) → Contains all x → Contains asked x) → (rest : List ℕ) (r : Option DeclaredMember)
    → Search family own rest r
    → (s : Option DeclaredMember) × Search family own (is ++ rest) s
    × (or_else (first_with own asked) s ≡ or_else (first_with own asked) r)
search_again family own asked none known rest r h = (r, h, refl)
search_again family own asked (next {c} {cs} {above = low} {rest = more} lower higher) known rest r h =
    let after = search_again family own asked higher
    (λ x k. known x (Contains-append_right low (c ∷ more) x (in_rest c more x k))) rest r h in
    let before = search_again family own asked lower (λ x k. known x (Contains-append_left low (c ∷ more) x k))
    (cs ++ rest) after.0 after.1 in
    by_own (own c) refl before.0 before.1 (before.2 ∙ after.2)
  where
    by_own : (o : Option ℕ) → own c ≡ o → (s : Option DeclaredMember)
        → Search family own (parents_in family c ++ (cs ++ rest)) s
        → or_else (first_with own asked) s ≡ or_else (first_with own asked) r
        → (s : Option DeclaredMember) × Search family own (c ∷ (cs ++ rest)) s
        × (or_else (first_with own asked) s ≡ or_else (first_with own asked) r)
    by_own None e s through same = (s, above e through, same)
    by_own (Some k) e s through same =
        let found = found_among own asked c k e (known c (Contains-append_right low (c ∷ more) c (in_front c more))) in
        let either : (t : Option DeclaredMember) → or_else (first_with own asked) t ≡ Some found.0 =
        λ t. ap (λ (o : Option DeclaredMember). or_else o t) found.1 in
        let member : DeclaredMember = record { class = c; index = k } in
        (Some member, here e, either (Some member) ∙ sym (either r))
