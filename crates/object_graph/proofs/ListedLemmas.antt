-- The names of the objects of regions: each once, and those of what is reached.
use Rattle.std.proofs.Common.{◌≡◌, ◌∙◌, ◌↔◌, inl, inr, ℕ, zero, suc, ◌+◌, ◌-◌, ◌<◌, ◌≤◌, true, false, List, ◌++◌}
use Rattle.std.proofs.Common.{[], ◌∷◌, take, append_assoc}
use Rattle.std.proofs.Common.{length, Option, Some, None, is_some, option_map, slice_get, refl, sym, ap}
use Rattle.std.proofs.Common.{subst, arith}
use Rattle.std.specs.List.{Contains}
use Rattle.std.proofs.lemmas.Bool.{cases_lt}
use Rattle.std.proofs.lemmas.List.{get_or_append_left, get_or-append_right, length-append, map_more}
use Rattle.std.proofs.lemmas.List.Elements.{Contains-append_cases, Contains-append_left, Contains-append_right}
use Rattle.std.proofs.lemmas.Option.{slice_get-get_or, slice_get_within, slice_get-map, get_or_from_slice_get}
use Rattle.vm_state.specs.declared.object.Object.{Object}
use Rattle.vm_state.specs.declared.kept.Kept.{Kept}
use Rattle.vm_state.specs.Objects.{HeldObjects, object_in, numbered_kept}
use Rattle.vm_state.specs.SharedState.{Region}
use Rattle.object_graph.proofs.RowPlaceLemmas.{is_at}
use Rattle.program.specs.Tables.{Tables}
use Rattle.region_shape.specs.Wholes.{AreWhole}
use Rattle.region_shape.specs.declared.regions.Region.{Region as Held}
use Rattle.region_shape.specs.Regions.{environment_of}
use Rattle.object_graph.specs.declared.name_set.ObjectName.{ObjectName}
use Rattle.object_graph.specs.Cuts.{AreReached}
use Rattle.object_graph.specs.Images.{AreSmall}
use Rattle.object_graph.specs.Names.{AreDistinct}
use Rattle.object_graph.specs.Reached.{object_among, object_of, IsReached}
use Rattle.object_graph.specs.steps.Listed.{names_of, names_below}
use Rattle.object_graph.specs.steps.Places.{pool_in, Ascends, name_in}
use Rattle.object_graph.proofs.HeldLemmas.{reached_held}
use Rattle.object_graph.proofs.RowLemmas.{stands, some_held, one_index, object_by_pool}

-- ---- the names of a class

-- the object of a name, at its index
pub record IsNamed (c : ℕ) (os : List (ℕ × Object)) (x : ObjectName) : Type 0 where
  pub index : ℕ
  pub held : ℕ × Object
  pub at : slice_get os index ≡ Some held
  pub is : name_in c held ≡ x

named_at : (c : ℕ) (os : List (ℕ × Object)) (i : ℕ) (x : ObjectName) → slice_get (names_of c os) i ≡ Some x
    → (held : ℕ × Object) × (slice_get os i ≡ Some held) × (name_in c held ≡ x)
named_at c os i x at = by (slice_get os i) refl
  where
    mapped : option_map (name_in c) (slice_get os i) ≡ Some x
    mapped = sym (slice_get-map (name_in c) os i) ∙ at

    by : (o : Option (ℕ × Object)) → slice_get os i ≡ o
        → (held : ℕ × Object) × (slice_get os i ≡ Some held) × (name_in c held ≡ x)
    by None none = let clash : None ≡ Some x = rw none at mapped in cc
    by (Some held) some =
        let one : Some (name_in c held) ≡ Some x = rw some at mapped in
        (held, some, (let is : name_in c held ≡ x = cc in is))

pub listed_name : (c : ℕ) (os : List (ℕ × Object)) (x : ObjectName) → Contains (names_of c os) x → IsNamed c os x
listed_name c os x (i, low, is) =
    let r = named_at c os i x (slice_get-get_or (names_of c os) i x low ∙ ap (λ (y : ObjectName). Some y) is) in
    record { index = i; held = r.0; at = r.1; is = r.2 }

pub name_listed : (c : ℕ) (os : List (ℕ × Object)) (i : ℕ) (held : ℕ × Object) → slice_get os i ≡ Some held
    → Contains (names_of c os) (name_in c held)
name_listed c os i held at =
    let named : slice_get (names_of c os) i ≡ Some (name_in c held) =
    slice_get-map (name_in c) os i ∙ ap (option_map (name_in c)) at in (
      i,
      slice_get_within (names_of c os) i (name_in c held) named,
      get_or_from_slice_get (names_of c os) i (name_in c held) (name_in c held) named,
    )

-- the names of one object more
pub one_name : (c : ℕ) (os : List (ℕ × Object)) (i n : ℕ) (k : Kept) (front names new : List ObjectName)
    → Some (n, k) ≡ option_map numbered_kept (slice_get os i) → names ≡ front ++ names_of c (take i os)
    → new ≡ names ++ record { class = c; number = n } ∷ [] → new ≡ front ++ names_of c (take (i + 1) os)
one_name c os i n k front names new here so_far pushed =
    let r = is_at os i n k here in
    let low = slice_get_within os i r.held r.at in
    let name : List ObjectName → ℕ → List ObjectName = λ xs m. xs ++ record { class = c; number = m } ∷ [] in
    pushed ∙ ap (λ (xs : List ObjectName). name xs n) so_far ∙ ap (name (front ++ names_of c (take i os))) r.number
    ∙ append_assoc front (names_of c (take i os)) (name_in c r.held ∷ [])
    ∙ ap (λ (o : ℕ × Object). front ++ (names_of c (take i os) ++ name_in c o ∷ []))
    (sym (get_or_from_slice_get os i r.held r.held r.at))
    ∙ ap (λ (xs : List ObjectName). front ++ xs) (sym (map_more (name_in c) os i r.held low))

-- ---- each once

distinct_of : (c : ℕ) (row : HeldObjects) → Ascends row → AreDistinct (names_of c row.objects)
distinct_of c row rise i j x at_i at_j =
    let a = named_at c row.objects i x at_i in
    let b = named_at c row.objects j x at_j in
    let same : name_in c a.0 ≡ name_in c b.0 = a.2 ∙ sym b.2 in
    one_index row i j a.0 b.0 rise a.1 b.1 (ap (λ (y : ObjectName). y.number) same)

distinct_append : (xs ys : List ObjectName) → AreDistinct xs → AreDistinct ys
    → ((x : ObjectName) → Contains xs x → Contains ys x → ⊥) → AreDistinct (xs ++ ys)
distinct_append xs ys first second apart i j x at_i at_j = elim (cases_lt i (length xs)) [
  | inl low ↦ elim (cases_lt j (length xs)) [
    | inl less ↦ first i j x (left i low at_i) (left j less at_j)
    | inr high ↦ absurd (apart x (in_left i low at_i) (in_right j high at_j))
  ]
  | inr up ↦ elim (cases_lt j (length xs)) [
    | inl less ↦ absurd (apart x (in_left j less at_j) (in_right i up at_i))
    | inr high ↦
        let same = second (i - length xs) (j - length xs) x (right i up at_i) (right j high at_j) in
        omega (arith, same, up, high)
  ]
]
  where
    left : (k : ℕ) → k < length xs → slice_get (xs ++ ys) k ≡ Some x → slice_get xs k ≡ Some x
    left k low at =
        slice_get-get_or xs k x low
        ∙ ap (λ (y : ObjectName). Some y) (sym (get_or_append_left xs ys x k low)
        ∙ get_or_from_slice_get (xs ++ ys) k x x at)

    within : (k : ℕ) → slice_get (xs ++ ys) k ≡ Some x → k < length xs + length ys
    within k at = omega (arith, slice_get_within (xs ++ ys) k x at, length-append xs ys)

    right : (k : ℕ) → length xs ≤ k → slice_get (xs ++ ys) k ≡ Some x → slice_get ys (k - length xs) ≡ Some x
    right k high at =
        slice_get-get_or ys (k - length xs) x (omega (arith, within k at, high))
        ∙ ap (λ (y : ObjectName). Some y) (sym (get_or-append_right xs ys (length xs) k x refl high)
        ∙ get_or_from_slice_get (xs ++ ys) k x x at)

    in_left : (k : ℕ) → k < length xs → slice_get (xs ++ ys) k ≡ Some x → Contains xs x
    in_left k low at = (k, low, get_or_from_slice_get xs k x x (left k low at))

    in_right : (k : ℕ) → length xs ≤ k → slice_get (xs ++ ys) k ≡ Some x → Contains ys x
    in_right k high at = (
      k - length xs,
      slice_get_within ys (k - length xs) x (right k high at),
      get_or_from_slice_get ys (k - length xs) x x (right k high at),
    )

-- ---- the names of the first classes

-- the object of a name of one of the first so many classes
pub record IsBelow (regions : List (Option Held)) (n : ℕ) (x : ObjectName) : Type 0 where
  pub class : x.class < n
  pub named : IsNamed x.class (pool_in regions x.class).objects x

module _ (regions : List (Option Held)) where
  pub listed_below : (n : ℕ) (x : ObjectName) → Contains (names_below regions n) x → IsBelow regions n x
  listed_below zero x h = absurd (omega (arith, h.1))
  listed_below (suc n) x h =
      elim (Contains-append_cases (names_below regions n) (names_of n (pool_in regions n).objects) x h) [
        | inl before ↦
            let r = listed_below n x before in
            let low = r.class in
            record { class = omega (arith, low); named = r.named }
        | inr here ↦
            let named = listed_name n (pool_in regions n).objects x here in
            let same : n ≡ x.class = ap (λ (y : ObjectName). y.class) named.is in
            let Q : ℕ → Type 0 = λ c. IsNamed c (pool_in regions c).objects x in
            record { class = omega (arith, same); named = subst Q same named }
      ]

  pub below_listed : (n : ℕ) (c i : ℕ) (held : ℕ × Object) → c < n
      → slice_get (pool_in regions c).objects i ≡ Some held → Contains (names_below regions n) (name_in c held)
  below_listed zero c i held low at = absurd (omega (arith, low))
  below_listed (suc n) c i held low at = elim (cases_lt c n) [
    | inl less ↦
        Contains-append_left (names_below regions n) (names_of n (pool_in regions n).objects) (name_in c held)
        (below_listed n c i held less at)
    | inr high ↦
        let same : c ≡ n = omega (arith, low, high) in
        let Q : ℕ → Type 0 = λ d. Contains (names_of d (pool_in regions d).objects) (name_in c held) in
        Contains-append_right (names_below regions n) (names_of n (pool_in regions n).objects) (name_in c held)
        (subst Q same (name_listed c (pool_in regions c).objects i held at))
  ]

  pub below_more : (n : ℕ)
      → names_below regions (n + 1) ≡ names_below regions n ++ names_of n (pool_in regions n).objects
  below_more n = let k : n + 1 ≡ suc n = omega arith in ap (names_below regions) k

  pub names_more : (n : ℕ) (names new : List ObjectName) → names ≡ names_below regions n
      → new ≡ names ++ names_of n (pool_in regions n).objects → new ≡ names_below regions (n + 1)
  names_more n names new listed is =
      is ∙ ap (λ (xs : List ObjectName). xs ++ names_of n (pool_in regions n).objects) listed ∙ sym (below_more n)

  pub distinct_more : (n : ℕ) → AreDistinct (names_below regions n) → Ascends (pool_in regions n)
      → AreDistinct (names_below regions (n + 1))
  distinct_more n before rise =
      subst AreDistinct (sym (below_more n))
      (distinct_append (names_below regions n) (names_of n (pool_in regions n).objects) before
      (distinct_of n (pool_in regions n) rise)
      (λ x was now.
      let low = (listed_below n x was).class in
      let named = listed_name n (pool_in regions n).objects x now in
      let same : n ≡ x.class = ap (λ (y : ObjectName). y.class) named.is in
      omega (arith, low, same)))

-- ---- those of what is reached

module _ (P : Tables) (regions : List (Option Held)) (whole : AreWhole P (environment_of regions))
    (small : AreSmall P (environment_of regions)) (reached : AreReached P (environment_of regions)) where
  some_of : (o : Option Object) → is_some o ≡ true → (object : Object) × (o ≡ Some object)
  some_of None e = let clash : false ≡ true = e in cc
  some_of (Some object) e = (object, refl)

  pub listed_reached : (n : ℕ) (x : ObjectName) → Contains (names_below regions n) x
      → IsReached P (environment_of regions) x
  listed_reached n x h =
      let r = listed_below regions n x h in
      let number : r.named.held.0 ≡ x.number = ap (λ (y : ObjectName). y.number) r.named.is in
      let there = some_held (pool_in regions x.class).objects r.named.index r.named.held r.named.at in
      let Q : ℕ → Type 0 = λ k. is_some (object_in (pool_in regions x.class).objects k) ≡ true in
      let s = some_of (object_in (pool_in regions x.class).objects x.number) (subst Q number there) in
      reached x s.0 (object_by_pool regions x ∙ s.1)

  class_there : (x : ObjectName) (o : Object) → object_of (environment_of regions) x ≡ Some o
      → x.class < length P.classes
  class_there x o at = by (environment_of regions x.class) refl at
    where
      by : (r : Option Region) → environment_of regions x.class ≡ r → object_among r x.number ≡ Some o
          → x.class < length P.classes
      by None none e = cc
      by (Some r) some e = small.classes x.class r some

  pub reached_listed : (n : ℕ) (x : ObjectName) → n ≡ length P.classes → IsReached P (environment_of regions) x
      → Contains (names_below regions n) x
  reached_listed n x all is =
      let s = some_of (object_of (environment_of regions) x)
      (reached_held P (environment_of regions) whole.closed x is) in
      let w = stands (pool_in regions x.class).objects x.number s.0 (sym (object_by_pool regions x) ∙ s.1) in
      let low : x.class < n = omega (arith, class_there x s.0 s.1, all) in
      let named : name_in x.class w.0.held ≡ x = ap (λ (k : ℕ). record { class = x.class; number = k }) w.0.number in
      subst (Contains (names_below regions n)) named
      (below_listed regions n x.class w.0.index w.0.held low w.0.at)

  pub names_reached : (n : ℕ) (names : List ObjectName) → n ≡ length P.classes → names ≡ names_below regions n
      → (x : ObjectName) → Contains names x ↔ IsReached P (environment_of regions) x
  names_reached n names all listed x = (
    λ has. listed_reached n x (subst (λ (ns : List ObjectName). Contains ns x) listed has),
    λ is. subst (λ (ns : List ObjectName). Contains ns x) (sym listed) (reached_listed n x all is),
  )
