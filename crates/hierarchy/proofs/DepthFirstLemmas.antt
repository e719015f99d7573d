-- Rows of classes that are depth first.
use Rattle.std.proofs.Common.{◌≡◌, ℕ, suc, ◌<◌, ◌≤◌, ◌⊎◌, Bool, true, false, List, [], ◌∷◌, ◌++◌, length, Option, Some}
use Rattle.std.proofs.Common.{None, slice_get, refl, sym, ap, ◌∙◌, subst, inl, inr, eqb, arith, take, get_or, set, ◌+◌}
use Rattle.std.specs.List.{All, Contains}
use Rattle.std.proofs.lemmas.Bool.{eqb-true, eqb-false, cases_eq}
use Rattle.std.proofs.lemmas.List.Elements.{Contains-append_left, Contains-append_right, Contains-push_cases}
use Rattle.std.proofs.lemmas.List.Elements.{Contains-get_or}
use Rattle.std.proofs.lemmas.List.{take_more, take_all, get_or_default, get_or-set_same, get_or-set_other}
use Rattle.std.proofs.lemmas.Option.{slice_get_read}
use Rattle.loading.specs.Families.{Family, IsParentsFirst, interfaces_in, superclasses_in}
use Rattle.hierarchy.specs.steps.DepthFirst.{IsAtOrAbove, same, up, MayFollow, root, below, IsDepthFirst, none, next}
use Rattle.hierarchy.specs.steps.DepthFirst.{put_behind, Holds, IsRow, IsWholeOrder}
use Rattle.hierarchy.proofs.RowLemmas.{at_head, in_tail, head_or_tail, row_within, stand_once}

module _ (family : Family) where
  -- ---- one more class

  -- what may follow a class may follow one below it
  pub may_follow_lower : (c d x : ℕ) → superclasses_in family c ≡ d ∷ [] → MayFollow family (Some d) x
      → MayFollow family (Some c) x
  may_follow_lower c d x is (root alone) = root alone
  may_follow_lower c d x is (below has above) = below has (up is above)

  pub behind_lower : (c d : ℕ) (cs : List ℕ) → superclasses_in family c ≡ d ∷ [] → IsDepthFirst family (Some d) cs
      → IsDepthFirst family (Some c) cs
  behind_lower c d [] is none = none
  behind_lower c d (x ∷ xs) is (next may rest) = next (may_follow_lower c d x is may) rest

  pub ordered_behind : (before : Option ℕ) (cs : List ℕ) (c d : ℕ) → superclasses_in family c ≡ d ∷ []
      → IsDepthFirst family before cs → IsDepthFirst family before (put_behind d c cs)
  ordered_behind before [] c d is none = none
  ordered_behind before (x ∷ xs) c d is (next may rest) =
      by (eqb x d) refl (ordered_behind (Some x) xs c d is rest)
    where
      by : (b : Bool) → eqb x d ≡ b → IsDepthFirst family (Some x) (put_behind d c xs)
          → IsDepthFirst family before (put_behind d c (x ∷ xs))
      by false e later = rw e (next may later)
      by true e later =
          let here : x ≡ d = eqb-true x d e in
          let lower : IsDepthFirst family (Some c) xs =
          behind_lower c d xs is (subst (λ y. IsDepthFirst family (Some y) xs) here rest) in
          rw e (next may (next (below is (subst (IsAtOrAbove family x) here same)) lower))

  pub ordered_first : (cs : List ℕ) (c : ℕ) → superclasses_in family c ≡ [] → IsDepthFirst family None cs
      → IsDepthFirst family None (c ∷ cs)
  ordered_first [] c is none = next (root is) none
  ordered_first (x ∷ xs) c is (next (root alone) rest) = next (root is) (next (root alone) rest)

-- ---- its elements

length-push : (xs : List ℕ) (y : ℕ) → length (xs ++ y ∷ []) ≡ suc (length xs)
length-push [] y = refl
length-push (x ∷ xs) y = ap suc (length-push xs y)

pub behind_has : (cs : List ℕ) (d c x : ℕ) → Contains (put_behind d c cs) x → (x ≡ c) ⊎ Contains cs x
behind_has [] d c x h = absurd (omega (arith, h.1))
behind_has (y ∷ ys) d c x h = by (eqb y d) refl h (behind_has ys d c x)
  where
    by : (b : Bool) → eqb y d ≡ b → Contains (put_behind d c (y ∷ ys)) x
        → (Contains (put_behind d c ys) x → (x ≡ c) ⊎ Contains ys x) → (x ≡ c) ⊎ Contains (y ∷ ys) x
    by false e has later = elim (head_or_tail y x (put_behind d c ys) (rw e at has)) [
      | inl first ↦ inr (subst (Contains (y ∷ ys)) first (at_head y ys))
      | inr deep ↦ elim (later deep) [ inl new ↦ inl new | inr old ↦ inr (in_tail y x ys old) ]
    ]
    by true e has later = elim (head_or_tail y x (c ∷ ys) (rw e at has)) [
      | inl first ↦ inr (subst (Contains (y ∷ ys)) first (at_head y ys))
      | inr deep ↦ elim (head_or_tail c x ys deep) [
        | inl new ↦ inl (sym new)
        | inr old ↦ inr (in_tail y x ys old)
      ]
    ]

pub behind_keeps : (cs : List ℕ) (d c x : ℕ) → Contains cs x → Contains (put_behind d c cs) x
behind_keeps [] d c x h = absurd (omega (arith, h.1))
behind_keeps (y ∷ ys) d c x h = by (eqb y d) refl (head_or_tail y x ys h) (behind_keeps ys d c x)
  where
    by : (b : Bool) → eqb y d ≡ b → (y ≡ x) ⊎ Contains ys x → (Contains ys x → Contains (put_behind d c ys) x)
        → Contains (put_behind d c (y ∷ ys)) x
    by false e (inl first) later =
        rw e (subst (Contains (y ∷ put_behind d c ys)) first (at_head y (put_behind d c ys)))
    by false e (inr deep) later = rw e (in_tail y x (put_behind d c ys) (later deep))
    by true e (inl first) later = rw e (subst (Contains (y ∷ c ∷ ys)) first (at_head y (c ∷ ys)))
    by true e (inr deep) later = rw e (in_tail y x (c ∷ ys) (in_tail c x ys deep))

pub behind_adds : (cs : List ℕ) (d c : ℕ) → Contains cs d → Contains (put_behind d c cs) c
behind_adds [] d c h = absurd (omega (arith, h.1))
behind_adds (y ∷ ys) d c h = by (eqb y d) refl (head_or_tail y d ys h) (behind_adds ys d c)
  where
    by : (b : Bool) → eqb y d ≡ b → (y ≡ d) ⊎ Contains ys d → (Contains ys d → Contains (put_behind d c ys) c)
        → Contains (put_behind d c (y ∷ ys)) c
    by true e either later = rw e (in_tail y c (c ∷ ys) (at_head c ys))
    by false e (inl first) later = absurd (eqb-false y d e first)
    by false e (inr deep) later = rw e (in_tail y c (put_behind d c ys) (later deep))

pub behind_count : (cs : List ℕ) (d c : ℕ) → Contains cs d → length (put_behind d c cs) ≡ suc (length cs)
behind_count [] d c h = absurd (omega (arith, h.1))
behind_count (y ∷ ys) d c h = by (eqb y d) refl (head_or_tail y d ys h) (behind_count ys d c)
  where
    by : (b : Bool) → eqb y d ≡ b → (y ≡ d) ⊎ Contains ys d
        → (Contains ys d → length (put_behind d c ys) ≡ suc (length ys))
        → length (put_behind d c (y ∷ ys)) ≡ suc (length (y ∷ ys))
    by true e either later = rw e refl
    by false e (inl first) later = absurd (eqb-false y d e first)
    by false e (inr deep) later = rw e (ap suc (later deep))

-- ---- one more class in the row

module _ (family : Family) (placed : List ℕ) (first : Option ℕ) (behind : List (Option ℕ)) (c : ℕ)
    (holds : Holds family placed first behind) (out : ¬ Contains placed c)
    (after : Option ℕ) (behinds : List (Option ℕ)) where
  aside : ¬ Contains holds.classes c
  aside has = out (holds.only c has)

  pub holds_behind : (d : ℕ) → superclasses_in family c ≡ d ∷ [] → Contains placed d
      → ((cs : List ℕ) → IsRow behind first cs → ¬ Contains cs c → IsRow behinds after (put_behind d c cs))
      → Holds family (placed ++ c ∷ []) after behinds
  holds_behind d is has moves = record {
    classes = put_behind d c holds.classes;
    is_row = moves holds.classes holds.is_row aside;
    members = λ x there. elim (Contains-push_cases placed c x there) [
      | inl old ↦ behind_keeps holds.classes d c x (holds.members x old)
      | inr new ↦ subst (Contains (put_behind d c holds.classes)) new
          (behind_adds holds.classes d c (holds.members d has))
    ];
    only = λ x there. elim (behind_has holds.classes d c x there) [
      | inl new ↦ subst (Contains (placed ++ c ∷ [])) (sym new)
          (Contains-append_right placed (c ∷ []) c (at_head c []))
      | inr old ↦ Contains-append_left placed (c ∷ []) x (holds.only x old)
    ];
    count =
        behind_count holds.classes d c (holds.members d has) ∙ ap suc holds.count ∙ sym (length-push placed c);
    ordered = ordered_behind family None holds.classes c d is holds.ordered;
  }

  pub holds_first : superclasses_in family c ≡ []
      → ((cs : List ℕ) → IsRow behind first cs → ¬ Contains cs c → IsRow behinds after (c ∷ cs))
      → Holds family (placed ++ c ∷ []) after behinds
  holds_first is moves = record {
    classes = c ∷ holds.classes;
    is_row = moves holds.classes holds.is_row aside;
    members = λ x there. elim (Contains-push_cases placed c x there) [
      | inl old ↦ in_tail c x holds.classes (holds.members x old)
      | inr new ↦ subst (Contains (c ∷ holds.classes)) new (at_head c holds.classes)
    ];
    only = λ x there. elim (head_or_tail c x holds.classes there) [
      | inl new ↦ subst (Contains (placed ++ c ∷ [])) new
          (Contains-append_right placed (c ∷ []) c (at_head c []))
      | inr old ↦ Contains-append_left placed (c ∷ []) x (holds.only x old)
    ];
    count = ap suc holds.count ∙ sym (length-push placed c);
    ordered = ordered_first family holds.classes c is holds.ordered;
  }

-- ---- in the order of all classes

pub parents_came : (family : Family) (order placed : List ℕ) (i : ℕ) → IsParentsFirst family order → i < length order
    → ((c : ℕ) → Contains (take i order) c → Contains placed c)
    → All (Contains placed) (superclasses_in family (get_or order i 0))
parents_came family order placed i first small came k d within =
    let class : ℕ = get_or order i 0 in
    let above : ℕ = get_or (superclasses_in family class) k d in
    came above
    (first.after i class above (slice_get_read order (length order) i class refl small
    (get_or_default order i 0 class small))
    (Contains-append_right (interfaces_in family class) (superclasses_in family class) above
    (Contains-get_or (superclasses_in family class) k d within)))

pub came_next : (order placed new : List ℕ) (i : ℕ) → i < length order
    → ((c : ℕ) → Contains (take i order) c → Contains placed c) → ((c : ℕ) → Contains placed c → Contains new c)
    → Contains new (get_or order i 0) → (c : ℕ) → Contains (take (i + 1) order) c → Contains new c
came_next order placed new i small came kept here c there =
    elim (Contains-push_cases (take i order) (get_or order i 0) c (rw (take_more order i 0 small) at there)) [
      | inl before ↦ kept c (came c before)
      | inr last ↦ subst (Contains new) last here
    ]

pub came_whole : (family : Family) (order placed : List ℕ) (i : ℕ) → length order ≤ i → IsParentsFirst family order
    → ((c : ℕ) → Contains (take i order) c → Contains placed c) → (c : ℕ) → c < length family → Contains placed c
came_whole family order placed i whole first came c small =
    came c (rw (take_all i order whole) (first.whole c small))

pub nothing_placed : (family : Family) (placed : List ℕ) (behind : List (Option ℕ)) → placed ≡ []
    → Holds family placed None behind
nothing_placed family placed behind empty = record {
  classes = [];
  is_row = refl;
  members = λ c has. subst (λ l. Contains l c) empty has;
  only = λ c has. subst (λ l. Contains l c) (sym empty) has;
  count = sym (ap length empty);
  ordered = none;
}

pub whole_order : (family : Family) (placed : List ℕ) (first : Option ℕ) (behind : List (Option ℕ)) (order : List ℕ)
    → Holds family placed first behind → length placed ≤ length family → length behind ≡ length family
    → ((c : ℕ) → c < length family → Contains placed c)
    → ((cs : List ℕ) → IsRow behind first cs → length cs ≤ length behind → order ≡ cs)
    → IsWholeOrder family order
whole_order family placed first behind order holds short len all read =
    let is : order ≡ holds.classes = read holds.classes holds.is_row (omega (arith, short, len, holds.count)) in
    record {
      whole = λ c small. subst (λ l. Contains l c) (sym is) (holds.members c (all c small));
      within = λ c has. omega (
        arith,
        len,
        row_within behind first holds.classes c holds.is_row
            (subst (λ l. Contains l c) is has),
      );
      once = λ i j c at also. stand_once behind first holds.classes holds.is_row i j c
          (ap (λ l. slice_get l i) (sym is) ∙ at) (ap (λ l. slice_get l j) (sym is) ∙ also);
      ordered = subst (IsDepthFirst family None) (sym is) holds.ordered;
    }

-- ---- places

pub places_next : (order places : List ℕ) (i : ℕ) → i < length order → get_or order i 0 < length places
    → ((c : ℕ) → Contains (take i order) c → slice_get order (get_or places c 0) ≡ Some c)
    → (c : ℕ) → Contains (take (i + 1) order) c
    → slice_get order (get_or (set places (get_or order i 0) i) c 0) ≡ Some c
places_next order places i small within there c has = elim (cases_eq c (get_or order i 0)) [
  | inl equal ↦ (let is : get_or (set places (get_or order i 0) i) c 0 ≡ i =
      ap (λ d. get_or (set places (get_or order i 0) i) d 0) equal
      ∙ get_or-set_same places (get_or order i 0) i 0 within in
      ap (slice_get order) is
      ∙ slice_get_read order (length order) i c refl small
      (equal ∙ get_or_default order i 0 c small))
  | inr other ↦ (let is : get_or (set places (get_or order i 0) i) c 0 ≡ get_or places c 0 =
      get_or-set_other places (get_or order i 0) c i 0 other in
      ap (slice_get order) is ∙ there c
      (elim (Contains-push_cases (take i order) (get_or order i 0) c (rw (take_more order i 0 small) at has)) [
        | inl before ↦ before
        | inr last ↦ absurd (other (sym last))
      ]))
]
