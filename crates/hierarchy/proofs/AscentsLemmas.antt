-- The steps of an ascent of a family.
use Rattle.std.proofs.Common.{◌≡◌, ℕ, zero, suc, ◌⊎◌, ◌↔◌, Bool, true, false, List, [], ◌∷◌, ◌++◌, length, map, reverse}
use Rattle.std.proofs.Common.{Option, Some, None, refl, sym, ap, ◌∙◌, subst, inl, inr, arith, append-nil, append_assoc}
use Rattle.std.proofs.Common.{drop, drop-cons, get_or, ◌+◌, ◌-◌, ◌*◌, ◌<◌, ◌≤◌}
use Rattle.std.specs.List.{All, Contains}
use Rattle.std.proofs.Math.Nat.{suc-mul}
use Rattle.std.proofs.Math.Seq.{drop-length}
use Rattle.std.proofs.lemmas.List.{reverse-append, length-append, length-map, length-reverse, length_push}
use Rattle.std.proofs.lemmas.List.Elements.{All-append, All-map, All-weaker, All-contains_itself, All-nil}
use Rattle.std.proofs.lemmas.List.Elements.{Contains-append_left, Contains-append_right, Contains-append_cases}
use Rattle.std.proofs.lemmas.List.Elements.{Contains-push, Contains-push_cases}
use Rattle.graph.specs.Seen.{Joins}
use Rattle.graph.proofs.DescendingLemmas.{distinct_push}
use Rattle.loading.specs.Families.{Family, IsFamily, IsAncestor, parent, further, parents_in, AreParentsWithin}
use Rattle.loading.specs.Families.{given_superclass}
use Rattle.loading.specs.declared.given.Superclass.{Superclass}
use Rattle.loading.specs.declared.given.Superclass.TheVariants as super
use Rattle.hierarchy.specs.Search.{Search, nothing, here, above}
use Rattle.hierarchy.specs.steps.Above.{first_with, with_place, or_else, IsAmongOrAbove}
use Rattle.hierarchy.specs.steps.Ascents.{ParentsBefore, none, next, Leaves, done, enter, leave, ParentsCome}
use Rattle.hierarchy.specs.steps.Ascents.{StandAbove}
use Rattle.hierarchy.specs.steps.Ascents.{IsFinished, Ascending, IsPostorderOf, IsSearchOrder, to_enter, class_of}
use Rattle.hierarchy.specs.steps.Ascents.{parents_count, work_left}
use Rattle.hierarchy.specs.declared.member.DeclaredMember.{DeclaredMember}
use Rattle.hierarchy.specs.declared.ascent.Visit.{Visit}
use Rattle.hierarchy.specs.declared.ascent.Visit.TheVariants.{Enter, Leave}
use Rattle.hierarchy.proofs.FirstsLemmas.{Contains-firsts, firsts_joins}
use Rattle.hierarchy.proofs.AscentsOrderLemmas.{none_in_empty, in_front, in_rest, cons_cases, cons_more, cons_within}
use Rattle.hierarchy.proofs.AscentsOrderLemmas.{firsts_known, among_before, before_among, or_else_none, first_with-push}
use Rattle.hierarchy.proofs.AscentsOrderLemmas.{search_again}

-- ---- what is planned, the next at the end of a list

pub reverse_push : (xs : List Visit) (x : Visit) → reverse (xs ++ x ∷ []) ≡ x ∷ reverse xs
reverse_push xs x = reverse-append xs (x ∷ [])

pub planned_none : (classes : List ℕ) (todo : List Visit)
    → reverse todo ≡ map Enter (drop (length classes) classes) ++ reverse todo
planned_none classes todo = rw (drop-length classes) refl

pub planned_one : (classes : List ℕ) (i : ℕ) (old new all : List Visit) → 0 < i → i ≤ length classes
    → new ≡ old ++ Enter (get_or classes (i - 1) 0) ∷ []
    → reverse old ≡ map Enter (drop i classes) ++ all → reverse new ≡ map Enter (drop (i - 1) classes) ++ all
planned_one classes i old new all some small push before =
    let last : ℕ = get_or classes (i - 1) 0 in
    let next_is : suc (i - 1) ≡ i = omega arith in
    let split : drop (i - 1) classes ≡ last ∷ drop i classes =
    drop-cons classes (i - 1) 0 (omega arith) ∙ ap (λ (k : ℕ). last ∷ drop k classes) next_is in
    ap reverse push ∙ reverse_push old (Enter last) ∙ ap (λ (xs : List Visit). Enter last ∷ xs) before
    ∙ ap (λ (xs : List ℕ). map Enter xs ++ all) (sym split)

pub planned_after : (c : ℕ) (old new after : List Visit) (ps : List Visit) → new ≡ old ++ Leave c ∷ []
    → after ≡ ps ++ reverse new
    → after ≡ ps ++ Leave c ∷ reverse old
planned_after c old new after ps push planned =
    planned ∙ ap (λ (xs : List Visit). ps ++ xs) (ap reverse push ∙ reverse_push old (Leave c))

-- ---- what is planned is within a family, and there is less to do

pub planned_within : (family : Family) (c : ℕ) (visits : List Visit) → AreParentsWithin family
    → All (λ visit. class_of visit < length family) visits
    → All (λ visit. class_of visit < length family) (map Enter (parents_in family c) ++ visits)
planned_within family c visits within rest =
    let ps : List ℕ = parents_in family c in
    let below : Visit → Type 0 = λ visit. class_of visit < length family in
    All-append below (map Enter ps) visits
    (All-map below Enter ps (All-weaker (Contains ps) (λ p. p < length family) (within c) ps (All-contains_itself ps)))
    rest

pub started_within : (family : Family) (from : List ℕ) (cleared visits : List Visit) → cleared ≡ []
    → visits ≡ map Enter from ++ reverse cleared → All (λ c. c < length family) from
    → All (λ visit. class_of visit < length family) visits
started_within family from cleared visits empty planned each =
    let below : Visit → Type 0 = λ visit. class_of visit < length family in
    rw (planned, empty)
    (All-append below (map Enter from) [] (All-map below Enter from each) (All-nil below))

one_superclass : (s : Option Superclass) → length (given_superclass s) ≤ 1
one_superclass None = omega arith
one_superclass (Some (super.Given d)) = omega arith
one_superclass (Some (super.BuiltIn class)) = omega arith

few_parents : (family : Family) (c : ℕ) → length (parents_in family c) ≤ parents_count family
few_parents [] c = omega arith
few_parents (g ∷ family) zero =
    omega (
      arith,
      length-append g.interfaces (given_superclass (Some g.superclass)),
      one_superclass (Some g.superclass),
    )
few_parents (g ∷ family) (suc c) = omega (arith, few_parents family c)

less_by_one : (limit a b m : ℕ) → b ≡ a + 1 → b ≤ limit → (limit - a) * m ≡ (limit - b) * m + m
less_by_one limit a b m e h =
    ap (λ (n : ℕ). n * m) (let step : limit - a ≡ suc (limit - b) = omega arith in step) ∙ suc-mul (limit - b) m

pub enter_nearer : (family : Family) (limit c : ℕ) (entered now : List ℕ) (todo new : List Visit)
    → now ≡ entered ++ c ∷ []
    → length now ≤ limit → reverse new ≡ map Enter (parents_in family c) ++ Leave c ∷ reverse todo
    → work_left family limit now new ≤ work_left family limit entered todo
enter_nearer family limit c entered now todo new joined small planned =
    let ps : List ℕ = parents_in family c in
    let one_more : length now ≡ length entered + 1 = ap length joined ∙ length_push entered c in
    let visits : length new ≡ length ps + (1 + length todo) = sym (length-reverse new) ∙ ap length planned
    ∙ length-append (map Enter ps) (Leave c ∷ reverse todo) ∙ ap (λ (n : ℕ). n + length (Leave c ∷ reverse todo))
    (length-map ps Enter) ∙ ap (λ (n : ℕ). length ps + n) (let behind : length (Leave c ∷ reverse todo)
    ≡ 1 + length todo = omega (arith, length-reverse todo) in behind) in
    omega (
      arith,
      visits,
      few_parents family c,
      less_by_one limit (length entered) (length now) (parents_count family + 2) one_more small,
    )

module _ (family : Family) where
  -- ---- what is left stands behind what is entered

  not_entered : (p : ℕ) (visits : List Visit) (c : ℕ) → Contains (Enter p ∷ visits) (Leave c)
      → Contains visits (Leave c)
  not_entered p visits c h = elim (cons_cases (Enter p) visits (Leave c) h) [
    | inl same ↦ absurd cc
    | inr more ↦ more
  ]

  behind : (ps : List ℕ) (visits : List Visit) (c : ℕ) → Contains (map Enter ps ++ visits) (Leave c)
      → Contains visits (Leave c)
  behind [] visits c h = h
  behind (p ∷ ps) visits c h = behind ps visits c (not_entered p (map Enter ps ++ visits) c h)

  -- ---- each class is left after its parents

  comes_more : (before more : List ℕ) (visits : List Visit) → ((c : ℕ) → Contains before c → Contains more c)
      → ParentsCome family before visits → ParentsCome family more visits
  comes_more before more [] sub h = tt
  comes_more before more (Enter c ∷ visits) sub h =
      comes_more (c ∷ before) (c ∷ more) visits (cons_more c before more sub) h
  comes_more before more (Leave c ∷ visits) sub h = (
    λ p k. sub p (h.0 p k),
    comes_more (c ∷ before) (c ∷ more) visits (cons_more c before more sub) h.1,
  )

  comes_entered : (before ps : List ℕ) (visits : List Visit)
      → ((more : List ℕ) → ((c : ℕ) → Contains before c → Contains more c)
      → ((p : ℕ) → Contains ps p → Contains more p) → ParentsCome family more visits)
      → ParentsCome family before (map Enter ps ++ visits)
  comes_entered before [] visits after = after before (λ c h. h) (λ p h. absurd (none_in_empty p h))
  comes_entered before (p ∷ ps) visits after =
      comes_entered (p ∷ before) ps visits
      (λ more sub has. after more (λ c h. sub c (in_rest p before c h))
      (cons_within p ps more (sub p (in_front p before)) has))

  -- ---- each class stands above those that are left after it

  above_entered : (c : ℕ) (ps : List ℕ) (visits : List Visit)
      → ((p : ℕ) → Contains ps p → Contains (parents_in family c) p)
      → StandAbove family (Enter c ∷ visits) → StandAbove family (map Enter ps ++ Leave c ∷ visits)
  above_entered c [] visits are h = h
  above_entered c (p ∷ ps) visits are h = (
    λ d k. up d (behind ps (Leave c ∷ visits) d k),
    above_entered c ps visits (λ q k. are q (in_rest p ps q k)) h,
  )
    where
      up : (d : ℕ) → Contains (Leave c ∷ visits) (Leave d) → IsAncestor family d p
      up d k = elim (cons_cases (Leave c) visits (Leave d) k) [
        | inl same ↦ (let is : c ≡ d = cc in
            subst (λ (x : ℕ). IsAncestor family x p) is (parent (are p (in_front p ps))))
        | inr more ↦ further (h.0 d more) (are p (in_front p ps))
      ]

  above_first : (ps : List ℕ) → StandAbove family (map Enter ps ++ [])
  above_first [] = tt
  above_first (p ∷ ps) = (λ c h. absurd (none_in_empty (Leave c) (behind ps [] c h)), above_first ps)

  -- ---- what stands above classes that were left

  finished_more : (left more : List ℕ) (c : ℕ) → ((x : ℕ) → Contains left x → Contains more x)
      → IsFinished family left c
      → IsFinished family more c
  finished_more left more c sub h = (h.0, h.1, λ a k. sub a (h.2 a k))

  finished_joined : (left ps : List ℕ) → ((p : ℕ) → Contains ps p → Contains left p)
      → ((p : ℕ) → Contains left p → IsFinished family left p)
      → (over : List ℕ) × ParentsBefore family ps over × ((a : ℕ) → Contains over a → Contains left a)
  finished_joined left [] within each = ([], none, λ a h. absurd (none_in_empty a h))
  finished_joined left (p ∷ ps) within each =
      let own = each p (within p (in_front p ps)) in
      let rest = finished_joined left ps (λ q h. within q (in_rest p ps q h)) each in (
        own.0 ++ p ∷ rest.0,
        next own.1 rest.1,
        λ a h. elim (Contains-append_cases own.0 (p ∷ rest.0) a h) [
          | inl low ↦ own.2 a low
          | inr high ↦ cons_within p rest.0 left (within p (in_front p ps)) rest.2 a high
        ],
      )

  -- ---- what is still to be left

  leaves_split : (ps : List ℕ) (visits : List Visit) {rest : List ℕ} → Leaves family (map Enter ps ++ visits) rest
      → (front : List ℕ) × (back : List ℕ) × ParentsBefore family ps front × Leaves family visits back
      × (rest ≡ front ++ back)
  leaves_split [] visits {rest} h = ([], rest, none, h, refl)
  leaves_split (p ∷ ps) visits (enter {above = over} {rest = more} tree after) =
      let parts = leaves_split ps visits after in (
        over ++ p ∷ parts.0,
        parts.1,
        next tree parts.2,
        parts.3,
        ap (λ (xs : List ℕ). over ++ p ∷ xs) parts.4 ∙ sym (append_assoc over (p ∷ parts.0) parts.1),
      )

  leaves_left : {c : ℕ} {visits : List Visit} {rest : List ℕ} → Leaves family (Leave c ∷ visits) rest
      → (back : List ℕ) × Leaves family visits back × (rest ≡ c ∷ back)
  leaves_left (leave {rest = back} h) = (back, h, refl)

  leaves_none : {rest : List ℕ} → Leaves family [] rest → rest ≡ []
  leaves_none done = refl

  to_enter_planned : (ps : List ℕ) (visits : List Visit) → to_enter (map Enter ps ++ visits) ≡ ps ++ to_enter visits
  to_enter_planned [] visits = refl
  to_enter_planned (p ∷ ps) visits = ap (λ (xs : List ℕ). p ∷ xs) (to_enter_planned ps visits)

  -- ---- the start of an ascent and its steps

  ascent_first : (from : List ℕ) → IsFamily family → Ascending family from (map Enter from ++ []) [] []
  ascent_first from fits = record {
    fits = fits;
    once = λ x. omega arith;
    parents = comes_entered [] from [] (λ more sub has. tt);
    above = above_first from;
    known = λ c h. absurd (none_in_empty c h);
    left_entered = λ c h. h;
    leaves_entered = λ c h. absurd (none_in_empty (Leave c) (behind from [] c h));
    finished = λ c h. absurd (none_in_empty c h);
    whole = [];
    first = refl;
    stand = λ rest h. (let parts = leaves_split from [] h in
        subst (λ (xs : List ℕ). ParentsBefore family from xs)
        (sym (parts.4 ∙ ap (λ (xs : List ℕ). parts.0 ++ xs) (leaves_none parts.3) ∙ append-nil parts.0)) parts.2);
    search = λ own r h. subst (λ (xs : List ℕ). Search family own xs r)
        (to_enter_planned from [] ∙ append-nil from) h;
  }

  pub ascent_start : (from : List ℕ) (cleared visits : List Visit) (entered left : List ℕ) → cleared ≡ []
      → entered ≡ [] → left ≡ [] → visits ≡ map Enter from ++ reverse cleared → IsFamily family
      → Ascending family from visits entered left
  ascent_start from cleared visits entered left e f g planned fits = rw (planned, e, f, g) (ascent_first from fits)

  -- a class that was not entered before
  pub ascent_enter : (from : List ℕ) (visits : List Visit) (entered left : List ℕ) (c : ℕ)
      → (Contains entered c → ⊥)
      → Ascending family from (Enter c ∷ visits) entered left
      → Ascending family from (map Enter (parents_in family c) ++ Leave c ∷ visits) (entered ++ c ∷ []) left
  ascent_enter from visits entered left c absent w =
      let ps : List ℕ = parents_in family c in
      record {
        fits = w.fits;
        once = distinct_push entered c absent w.once;
        parents = comes_entered left ps (Leave c ∷ visits)
            (λ more sub has. (has, comes_more (c ∷ left) (c ∷ more) visits (cons_more c left more sub) w.parents));
        above = above_entered c ps visits (λ p h. h) w.above;
        known = λ x h. elim (Contains-push_cases entered c x h) [
          | inl old ↦ elim (w.known x old) [
            | inl was_left ↦ inl was_left
            | inr waits ↦ inr (Contains-append_right (map Enter ps) (Leave c ∷ visits) (Leave x)
                (in_rest (Leave c) visits (Leave x) (not_entered c visits x waits)))
          ]
          | inr same ↦ inr (Contains-append_right (map Enter ps) (Leave c ∷ visits) (Leave x)
              (subst (λ (y : ℕ). Contains (Leave c ∷ visits) (Leave y)) same (in_front (Leave c) visits)))
        ];
        left_entered = λ x h. Contains-append_left entered (c ∷ []) x (w.left_entered x h);
        leaves_entered = λ x h. elim (cons_cases (Leave c) visits (Leave x) (behind ps (Leave c ∷ visits) x h)) [
          | inl same ↦ (let is : c ≡ x = cc in
              subst (λ (y : ℕ). Contains (entered ++ c ∷ []) y) is (Contains-push entered c))
          | inr more ↦ Contains-append_left entered (c ∷ []) x
              (w.leaves_entered x (in_rest (Enter c) visits (Leave x) more))
        ];
        finished = w.finished;
        whole = w.whole;
        first = w.first;
        stand = λ rest h. (let parts = leaves_split ps (Leave c ∷ visits) h in
            let after = leaves_left parts.3 in
            subst (λ (xs : List ℕ). ParentsBefore family from (w.whole ++ xs))
            (sym (parts.4 ∙ ap (λ (xs : List ℕ). parts.0 ++ xs) after.2))
            (w.stand (parts.0 ++ c ∷ after.0) (enter parts.2 after.1)));
        search = λ own r h. asks own r (own c) refl
            (subst (λ (xs : List ℕ). Search family own xs r) (to_enter_planned ps (Leave c ∷ visits)) h);
      }
    where
      asks : (own : ℕ → Option ℕ) (r : Option DeclaredMember) (o : Option ℕ) → own c ≡ o
          → Search family own (parents_in family c ++ to_enter visits) r
          → Search family own from (or_else (first_with own (entered ++ c ∷ [])) r)
      asks own r None e through =
          subst (λ (s : Option DeclaredMember). Search family own from s)
          (sym (first_with-push own entered c r
          ∙ ap (λ (o : Option ℕ). or_else (first_with own entered) (or_else (with_place c o) r)) e))
          (w.search own r (above e through))
      asks own r (Some k) e through =
          subst (λ (s : Option DeclaredMember). Search family own from s)
          (sym (first_with-push own entered c r
          ∙ ap (λ (o : Option ℕ). or_else (first_with own entered) (or_else (with_place c o) r)) e))
          (w.search own (Some (record { class = c; index = k })) (here e))

  -- a class that was entered before was left, since no class is its own ancestor
  pub ascent_again : (from : List ℕ) (visits : List Visit) (entered left : List ℕ) (c : ℕ) → Contains entered c
      → Ascending family from (Enter c ∷ visits) entered left → Ascending family from visits entered left
  ascent_again from visits entered left c present w =
      let was_left : Contains left c = elim (w.known c present) [
        | inl is ↦ is
        | inr waits ↦ absurd (w.fits.acyclic c (w.above.0 c (not_entered c visits c waits)))
      ] in
      let tree = w.finished c was_left in
      let all : (x : ℕ) → Contains (tree.0 ++ c ∷ []) x → Contains left x =
      λ x h. elim (Contains-push_cases tree.0 c x h) [
        | inl over ↦ tree.2 x over
        | inr same ↦ subst (λ (y : ℕ). Contains left y) same was_left
      ] in
      record {
        fits = w.fits;
        once = w.once;
        parents = comes_more (c ∷ left) left visits (cons_within c left left was_left (λ x h. h)) w.parents;
        above = w.above.1;
        known = λ x h. elim (w.known x h) [
          | inl is ↦ inl is
          | inr waits ↦ inr (not_entered c visits x waits)
        ];
        left_entered = w.left_entered;
        leaves_entered = λ x h. w.leaves_entered x (in_rest (Enter c) visits (Leave x) h);
        finished = w.finished;
        whole = w.whole ++ (tree.0 ++ c ∷ []);
        first = w.first ∙ sym (firsts_known w.whole (tree.0 ++ c ∷ [])
            (λ x h. (Contains-firsts w.whole x).0
            (subst (λ (xs : List ℕ). Contains xs x) w.first (all x h))));
        stand = λ rest h. subst (λ (xs : List ℕ). ParentsBefore family from xs)
            (sym (append_assoc w.whole (tree.0 ++ c ∷ []) rest
            ∙ ap (λ (xs : List ℕ). w.whole ++ xs) (append_assoc tree.0 (c ∷ []) rest)))
            (w.stand (tree.0 ++ c ∷ rest) (enter tree.1 h));
        search = λ own r h. (let again = search_again family own entered (next tree.1 none)
            (λ x k. w.left_entered x (all x k)) (to_enter visits) r h in
            subst (λ (s : Option DeclaredMember). Search family own from s) again.2
            (w.search own again.0 again.1));
      }

  joined_keeps : (fresh : Bool) (old new : List ℕ) (c : ℕ) → Joins fresh old c new → (x : ℕ) → Contains old x
      → Contains new x
  joined_keeps true old new c (absent, is) x h = rw is (Contains-append_left old (c ∷ []) x h)
  joined_keeps false old new c (present, is) x h = rw is h

  joined_has : (fresh : Bool) (old new : List ℕ) (c : ℕ) → Joins fresh old c new → Contains new c
  joined_has true old new c (absent, is) = rw is (Contains-push old c)
  joined_has false old new c (present, is) = rw is present

  joined_only : (fresh : Bool) (old new : List ℕ) (c : ℕ) → Joins fresh old c new → (x : ℕ) → Contains new x
      → Contains old x ⊎ (c ≡ x)
  joined_only true old new c (absent, is) x h = Contains-push_cases old c x (rw is at h)
  joined_only false old new c (present, is) x h = inl (rw is at h)

  pub ascent_leave : (from : List ℕ) (visits : List Visit) (entered left new : List ℕ) (c : ℕ) (fresh : Bool)
      → Joins fresh left c new
      → Ascending family from (Leave c ∷ visits) entered left → Ascending family from visits entered new
  ascent_leave from visits entered left new c fresh joins w =
      let keeps = joined_keeps fresh left new c joins in
      let has = joined_has fresh left new c joins in
      let only = joined_only fresh left new c joins in
      let own : IsFinished family left c = finished_joined left (parents_in family c) w.parents.0 w.finished in
      record {
        fits = w.fits;
        once = w.once;
        parents = comes_more (c ∷ left) new visits (cons_within c left new has keeps) w.parents.1;
        above = w.above.1;
        known = λ x h. elim (w.known x h) [
          | inl is ↦ inl (keeps x is)
          | inr waits ↦ elim (cons_cases (Leave c) visits (Leave x) waits) [
            | inl same ↦ (let is : c ≡ x = cc in inl (subst (λ (y : ℕ). Contains new y) is has))
            | inr more ↦ inr more
          ]
        ];
        left_entered = λ x h. elim (only x h) [
          | inl old ↦ w.left_entered x old
          | inr same ↦ subst (λ (y : ℕ). Contains entered y) same (w.leaves_entered c (in_front (Leave c) visits))
        ];
        leaves_entered = λ x h. w.leaves_entered x (in_rest (Leave c) visits (Leave x) h);
        finished = λ x h. elim (only x h) [
          | inl old ↦ finished_more left new x keeps (w.finished x old)
          | inr same ↦ subst (λ (y : ℕ). IsFinished family new y) same (finished_more left new c keeps own)
        ];
        whole = w.whole ++ c ∷ [];
        first = firsts_joins fresh w.whole left new c w.first joins;
        stand = λ rest h. subst (λ (xs : List ℕ). ParentsBefore family from xs)
            (sym (append_assoc w.whole (c ∷ []) rest)) (w.stand (c ∷ rest) (leave h));
        search = w.search;
      }

  -- ---- its end

  pub ascent_postorder : (from entered left : List ℕ) → Ascending family from [] entered left
      → IsPostorderOf family from left
  ascent_postorder from entered left w = record {
    all = w.whole;
    stand = subst (λ (xs : List ℕ). ParentsBefore family from xs) (append-nil w.whole) (w.stand [] done);
    first = w.first;
  }

  pub postorder_members : (from list : List ℕ) → IsPostorderOf family from list → (c : ℕ)
      → Contains list c ↔ IsAmongOrAbove family from c
  postorder_members from list is c = (
    λ h. before_among family is.stand c
        ((Contains-firsts is.all c).0 (subst (λ (xs : List ℕ). Contains xs c) is.first h)),
    λ h. subst (λ (xs : List ℕ). Contains xs c) (sym is.first)
        ((Contains-firsts is.all c).1 (among_before family is.stand c h)),
  )

  pub ascent_search : (from entered left : List ℕ) → Ascending family from [] entered left
      → IsSearchOrder family from entered
  ascent_search from entered left w =
      let members = postorder_members from left (ascent_postorder from entered left w) in
      record {
        once = w.once;
        members = λ c. (
          λ h. elim (w.known c h) [
            | inl is ↦ (members c).0 is
            | inr waits ↦ absurd (none_in_empty (Leave c) waits)
          ],
          λ h. w.left_entered c ((members c).1 h),
        );
        search = λ own. subst (λ (s : Option DeclaredMember). Search family own from s)
            (or_else_none (first_with own entered)) (w.search own None nothing);
      }
