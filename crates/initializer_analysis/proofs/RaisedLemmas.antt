-- Heights of components, found from the last vertex of their order to the first.
use Rattle.std.proofs.Common.{◌≡◌, ◌≢◌, ℕ, zero, suc, ◌+◌, ◌<◌, ◌≤◌, ◌⊎◌, Bool, true, false, IsTrue, List, length}
use Rattle.std.proofs.Common.{replicate, take, set, map, max, cond, slice_index, slice_index_or, inl, inr, refl, sym}
use Rattle.std.proofs.Common.{subst}
use Rattle.std.proofs.Common.{arith, ap, ◌∙◌}
use Rattle.std.specs.List.{All, Contains}
use Rattle.std.proofs.lemmas.Grind.{common_steps}
use Rattle.std.proofs.lemmas.List.{length-set, get_or-map}
use Rattle.std.proofs.lemmas.List.Elements.{All-get_or, All-contains}
use Rattle.graph.specs.Rows.{Rows, successors_of}
use Rattle.graph.specs.Reaches.{Reaches, itself, along}
use Rattle.graph.specs.Components.{Parts, AreComponents}
use Rattle.graph.proofs.OrderLemmas.{place_of_member, has_vertex}
use Rattle.graph.proofs.ReachesLemmas.{Reaches-joined}
use Rattle.graph.proofs.RowsLemmas.{has_successor}
use Rattle.initializer_analysis.specs.steps.Heights.{AreHeights}
use Rattle.initializer_analysis.specs.steps.Joined.{IsBeyond}
use Rattle.initializer_analysis.specs.steps.Raised.{HaveFlagged, top_of, IsHighest, AreRaisedFrom}
use Rattle.initializer_analysis.proofs.JoinedLemmas.{front_more, front_last, front_cases}

less_or : (m n : ℕ) → (m < n) ⊎ (n ≤ m)
less_or m n = grind arith

same_or : (u v : ℕ) → (u ≡ v) ⊎ (u ≢ v)
same_or u v = grind arith

-- ---- tops

top_cases : (heights : List ℕ) (flagged : List Bool) (n : ℕ)
    → (IsTrue (slice_index_or flagged n false) × (top_of heights flagged n ≡ slice_index heights n + 1))
    ⊎ (top_of heights flagged n ≡ slice_index heights n)
top_cases heights flagged n = by_flag (slice_index_or flagged n false) refl
  where
    by_flag : (b : Bool) → slice_index_or flagged n false ≡ b
        → (IsTrue (slice_index_or flagged n false) × (top_of heights flagged n ≡ slice_index heights n + 1))
        ⊎ (top_of heights flagged n ≡ slice_index heights n)
    by_flag true e = inl (e, ap (λ (b : Bool). cond b (slice_index heights n + 1) (slice_index heights n)) e)
    by_flag false e = inr (ap (λ (b : Bool). cond b (slice_index heights n + 1) (slice_index heights n)) e)

top_flagged : (heights : List ℕ) (flagged : List Bool) (n : ℕ) → IsTrue (slice_index_or flagged n false)
    → top_of heights flagged n ≡ slice_index heights n + 1
top_flagged heights flagged n e = ap (λ (b : Bool). cond b (slice_index heights n + 1) (slice_index heights n)) e

top_least : (heights : List ℕ) (flagged : List Bool) (n : ℕ) → slice_index heights n ≤ top_of heights flagged n
top_least heights flagged n = elim (top_cases heights flagged n) [
  | inl h ↦ omega (arith, h.1)
  | inr h ↦ omega (
    arith,
    h,
  )
]

top_most : (heights : List ℕ) (flagged : List Bool) (n : ℕ) → top_of heights flagged n ≤ slice_index heights n + 1
top_most heights flagged n = elim (top_cases heights flagged n) [
  | inl h ↦ omega (arith, h.1)
  | inr h ↦ omega (
    arith,
    h,
  )
]

set_here : (xs : List ℕ) (i j n : ℕ) → j ≡ i → i < length xs → slice_index (set xs i n) j ≡ n
set_here xs i j n e h = grind (arith, common_steps)

set_else : (xs : List ℕ) (i j n : ℕ) → j ≢ i → slice_index (set xs i n) j ≡ slice_index xs j
set_else xs i j n other = grind (arith, common_steps)

top_else : (heights : List ℕ) (flagged : List Bool) (i j h : ℕ) → j ≢ i
    → top_of (set heights i h) flagged j ≡ top_of heights flagged j
top_else heights flagged i j h other =
    ap (λ (n : ℕ). cond (slice_index_or flagged j false) (n + 1) n) (set_else heights i j h other)

-- ---- a row

pub highest_same : (numbers row heights : List ℕ) (flagged : List Bool) (number start highest i : ℕ) → i < length row
    → slice_index numbers (slice_index row i) ≡ number
    → IsHighest numbers (take i row) heights flagged number start highest
    → IsHighest numbers (take (i + 1) row) heights flagged number start highest
highest_same numbers row heights flagged number start highest i h same s = record {
  from_start = s.from_start;
  all = λ b (in_row, other). elim (front_cases row i b h in_row) [
    | inl o ↦ s.all b (o, other)
    | inr is ↦ absurd (other (rw is at same))
  ];
  attained = elim s.attained [
    | inl e ↦ inl e
    | inr (b, (in_row, other), e) ↦ inr (b, (front_more row i b h in_row, other), e)
  ];
}

pub highest_other : (numbers row heights : List ℕ) (flagged : List Bool) (number start highest i new : ℕ)
    → i < length row
    → slice_index numbers (slice_index row i) ≢ number
    → new ≡ max highest (top_of heights flagged (slice_index numbers (slice_index row i)))
    → IsHighest numbers (take i row) heights flagged number start highest
    → IsHighest numbers (take (i + 1) row) heights flagged number start new
highest_other numbers row heights flagged number start highest i new h differs is s = record {
  from_start = omega (arith, s.from_start);
  all = λ b (in_row, other). elim (front_cases row i b h in_row) [
    | inl o ↦ omega (arith, s.all b (o, other))
    | inr e ↦ subst (λ (y : ℕ). top_of heights flagged (slice_index numbers y) ≤ new) e (omega arith)
  ];
  attained = elim (which highest (top_of heights flagged (slice_index numbers (slice_index row i))) new is) [
    | inl old ↦ elim s.attained [
      | inl e ↦ inl (old ∙ e)
      | inr (b, (in_row, other), e) ↦ inr (b, (front_more row i b h in_row, other), e ∙ sym old)
    ]
    | inr here ↦ inr (slice_index row i, (front_last row i h, differs), sym here)
  ];
}
  where
    which : (a b c : ℕ) → c ≡ max a b → (c ≡ a) ⊎ (c ≡ b)
    which a b c e = grind arith

-- ---- one more vertex raises its component

-- what a vertex of a later component leads to is no vertex of this component
other_than : (graph : Rows) (parts : Parts) (place k b : ℕ) → AreComponents graph parts → place ≤ k
    → k < length parts.order
    → slice_index parts.numbers (slice_index parts.order k) ≢ slice_index parts.numbers (slice_index parts.order place)
    → Contains (successors_of graph (slice_index parts.order k)) b
    → slice_index parts.numbers b ≢ slice_index parts.numbers (slice_index parts.order place)
other_than graph parts place k b c low below other edge e =
    other (omega (arith, c.ascending place k low below, c.never_falls (slice_index parts.order k) b edge))

pub raise_next : (graph : Rows) (parts : Parts) (flagged : List Bool) (heights : List ℕ) (place height : ℕ)
    → AreComponents graph parts
    → length heights ≡ length graph
    → place < length parts.order
    → All (λ b. b < length graph) (successors_of graph (slice_index parts.order place))
    → AreRaisedFrom graph parts flagged (place + 1) heights
    → IsHighest parts.numbers (successors_of graph (slice_index parts.order place)) heights flagged
    (slice_index parts.numbers (slice_index parts.order place))
    (slice_index heights (slice_index parts.numbers (slice_index parts.order place))) height
    → AreRaisedFrom graph parts flagged place
    (set heights (slice_index parts.numbers (slice_index parts.order place)) height)
raise_next graph parts flagged heights place height c size high within s h = record {
  room = λ n small. room n (rw (length-set heights number height) at small) (same_or n number);
  all = λ k b low below beyond.
      all k b low below beyond (same_or (slice_index parts.numbers (slice_index parts.order k)) number);
  attained = λ n small some. attained n (rw (length-set heights number height) at small) some (same_or n number);
}
  where
    v : ℕ
    v = slice_index parts.order place

    number : ℕ
    number = slice_index parts.numbers v

    number_below : (u : ℕ) → u < length graph → slice_index parts.numbers u < length heights
    number_below u small =
        omega (arith, All-get_or (λ n. n < length graph) parts.numbers u 0 (omega (arith, c.len)) c.below)

    number_small : number < length heights
    number_small = number_below v (All-get_or (λ u. u < length graph) parts.order place 0 high c.each.within)

    room_here : height + number < length heights
    room_here = elim h.attained [
      | inl e ↦ omega (arith, e, s.room number number_small)
      | inr (b, (edge, other), e) ↦ (let below =
          number_below b (All-contains (λ u. u < length graph) (successors_of graph v) b within edge) in
          omega (
            arith,
            e,
            other,
            c.never_falls v b edge,
            s.room (slice_index parts.numbers b) below,
            top_most heights flagged (slice_index parts.numbers b),
          ))
    ]

    room : (n : ℕ) → n < length heights → (n ≡ number) ⊎ (n ≢ number)
        → slice_index (set heights number height) n + n < length (set heights number height)
    room n small (inl is) =
        omega (arith, is, set_here heights number n height is number_small, length-set heights number height, room_here)
    room n small (inr other) =
        omega (arith, set_else heights number n height other, length-set heights number height, s.room n small)

    after : (k : ℕ) → place ≤ k → slice_index parts.numbers (slice_index parts.order k) ≢ number → place + 1 ≤ k
    after k low other = elim (same_or k place) [
      | inl is ↦ absurd (other (ap (λ (j : ℕ). slice_index parts.numbers (slice_index parts.order j)) is))
      | inr n ↦ omega arith
    ]

    all_here : (k b : ℕ) → place ≤ k → k < length parts.order
        → slice_index parts.numbers (slice_index parts.order k) ≡ number
        → IsBeyond parts.numbers (slice_index parts.numbers (slice_index parts.order k))
        (successors_of graph (slice_index parts.order k)) b
        → (k ≡ place) ⊎ (k ≢ place)
        → top_of heights flagged (slice_index parts.numbers b) ≤ height
    all_here k b low below is beyond (inl here) =
        h.all b (subst (λ (j : ℕ). IsBeyond parts.numbers (slice_index parts.numbers (slice_index parts.order j))
        (successors_of graph (slice_index parts.order j)) b) here beyond)
    all_here k b low below is beyond (inr later) =
        omega (
          arith,
          s.all k b (omega arith) below beyond,
          ap (λ (n : ℕ). slice_index heights n) is,
          h.from_start,
        )

    all : (k b : ℕ) → place ≤ k → k < length parts.order
        → IsBeyond parts.numbers (slice_index parts.numbers (slice_index parts.order k))
        (successors_of graph (slice_index parts.order k)) b
        → (slice_index parts.numbers (slice_index parts.order k) ≡ number)
        ⊎ (slice_index parts.numbers (slice_index parts.order k) ≢ number)
        → top_of (set heights number height) flagged (slice_index parts.numbers b)
        ≤ slice_index (set heights number height) (slice_index parts.numbers (slice_index parts.order k))
    all k b low below beyond (inl is) =
        rw (
          set_here heights number (slice_index parts.numbers (slice_index parts.order k)) height is number_small,
          top_else heights flagged number (slice_index parts.numbers b) height (λ e. beyond.1 (e ∙ sym is)),
        )
        (all_here k b low below is beyond (same_or k place))
    all k b low below beyond (inr other) =
        rw (
          set_else heights number (slice_index parts.numbers (slice_index parts.order k)) height other,
          top_else heights flagged number (slice_index parts.numbers b) height
              (other_than graph parts place k b c low below other beyond.0),
        )
        (s.all k b (after k low other) below beyond)

    attained : (n : ℕ) → n < length heights → 0 < slice_index (set heights number height) n
        → (n ≡ number) ⊎ (n ≢ number)
        → (k : ℕ) × (b : ℕ) × (place ≤ k) × (k < length parts.order)
        × (slice_index parts.numbers (slice_index parts.order k) ≡ n)
        × IsBeyond parts.numbers n (successors_of graph (slice_index parts.order k)) b
        × (b < length graph)
        × (top_of (set heights number height) flagged (slice_index parts.numbers b)
        ≡ slice_index (set heights number height) n)
    attained n small some (inl is) = elim h.attained [
      | inl e ↦ (let old = s.attained n small (omega (
        arith,
        some,
        set_here heights number n height is number_small,
        e,
        ap (λ (m : ℕ). slice_index heights m) is,
      )) in (
        old.0,
        old.1,
        omega (arith, old.2),
        old.3,
        old.4,
        old.5,
        old.6,
        top_else heights flagged number (slice_index parts.numbers old.1) height (λ e. old.5.1 (e ∙ sym is)) ∙ old.7
            ∙ ap (λ (m : ℕ). slice_index heights m) is ∙ sym e ∙ sym (set_here heights number n height is number_small),
      ))
      | inr (b, (edge, other), e) ↦ (
        place,
        b,
        omega arith,
        high,
        sym is,
        (edge, λ f. other (f ∙ is)),
        All-contains (λ u. u < length graph) (successors_of graph v) b within edge,
        top_else heights flagged number (slice_index parts.numbers b) height other ∙ e
            ∙ sym (set_here heights number n height is number_small),
      )
    ]
    attained n small some (inr other) =
        (let old = s.attained n small (omega (arith, some, set_else heights number n height other)) in
        let at : slice_index parts.numbers (slice_index parts.order old.0) ≢ number = λ e. other (sym old.4 ∙ e) in (
          old.0,
          old.1,
          omega (arith, old.2),
          old.3,
          old.4,
          old.5,
          old.6,
          top_else heights flagged number (slice_index parts.numbers old.1) height
              (other_than graph parts place old.0 old.1 c (omega (arith, old.2)) old.3 at old.5.0)
              ∙ old.7 ∙ sym (set_else heights number n height other),
        ))

-- where none has raised its component
pub raised_none : (graph : Rows) (parts : Parts) (flagged : List Bool) (heights : List ℕ) (place : ℕ)
    → heights ≡ replicate (length graph) 0 → length parts.order ≤ place
    → AreRaisedFrom graph parts flagged place heights
raised_none graph parts flagged heights place zeros late = record {
  room = λ n small. omega (arith, zero_at n);
  all = λ k b low below. absurd (omega arith);
  attained = λ n small some. absurd (omega (arith, zero_at n));
}
  where
    zero_of : (count n : ℕ) → slice_index (replicate count 0) n ≡ 0
    zero_of count n = grind (arith, common_steps)

    zero_at : (n : ℕ) → slice_index heights n ≡ 0
    zero_at n = rw zeros (zero_of (length graph) n)

-- ---- what the heights of components tell of vertices

-- what a vertex reaches is in its component, or its top is no higher than the vertex
tops_below : (graph : Rows) (parts : Parts) (flagged : List Bool) (heights : List ℕ) (v x : ℕ)
    → AreComponents graph parts
    → AreRaisedFrom graph parts flagged 0 heights
    → Reaches graph v x
    → (slice_index parts.numbers x ≡ slice_index parts.numbers v)
    ⊎ (top_of heights flagged (slice_index parts.numbers x) ≤ slice_index heights (slice_index parts.numbers v))
tops_below graph parts flagged heights v x c s itself = inl refl
tops_below graph parts flagged heights v x c s (along {a = a} p e) =
    joined (tops_below graph parts flagged heights v a c s p)
    (same_or (slice_index parts.numbers x) (slice_index parts.numbers a))
  where
    -- along an edge to another component
    up : (slice_index parts.numbers x ≢ slice_index parts.numbers a)
        → top_of heights flagged (slice_index parts.numbers x) ≤ slice_index heights (slice_index parts.numbers a)
    up other =
        (let k = place_of_member parts.order a (has_vertex graph parts.order a c.each (has_successor graph a x e)) in
        subst (λ (u : ℕ). top_of heights flagged (slice_index parts.numbers x)
        ≤ slice_index heights (slice_index parts.numbers u)) k.2
        (s.all k.0 x (omega arith) k.1
        (subst (λ (u : ℕ). IsBeyond parts.numbers (slice_index parts.numbers u) (successors_of graph u) x) (sym k.2)
        (e, other))))

    joined : (slice_index parts.numbers a ≡ slice_index parts.numbers v)
        ⊎ (top_of heights flagged (slice_index parts.numbers a) ≤ slice_index heights (slice_index parts.numbers v))
        → (slice_index parts.numbers x ≡ slice_index parts.numbers a)
        ⊎ (slice_index parts.numbers x ≢ slice_index parts.numbers a)
        → (slice_index parts.numbers x ≡ slice_index parts.numbers v)
        ⊎ (top_of heights flagged (slice_index parts.numbers x) ≤ slice_index heights (slice_index parts.numbers v))
    joined (inl here) (inl same) = inl (same ∙ here)
    joined (inl here) (inr other) =
        inr (subst (λ (n : ℕ). top_of heights flagged (slice_index parts.numbers x) ≤ slice_index heights n) here
        (up other))
    joined (inr less) (inl same) =
        inr (subst (λ (n : ℕ). top_of heights flagged n ≤ slice_index heights (slice_index parts.numbers v)) (sym same)
        less)
    joined (inr less) (inr other) =
        inr (omega (arith, up other, less, top_least heights flagged (slice_index parts.numbers a)))

never_falls_along : (graph : Rows) (parts : Parts) (a b : ℕ) → AreComponents graph parts → Reaches graph a b
    → slice_index parts.numbers a ≤ slice_index parts.numbers b
never_falls_along graph parts a b c itself = omega arith
never_falls_along graph parts a b c (along {a = d} path edge) =
    omega (arith, never_falls_along graph parts a d c path, c.never_falls d b edge)

pub flagged_small : (flagged : List Bool) (e : ℕ) → IsTrue (slice_index_or flagged e false) → e < length flagged
flagged_small flagged e h = elim (less_or e (length flagged)) [
  | inl less ↦ less
  | inr more ↦ absurd (let none : slice_index_or flagged e false ≡ false = past flagged e more in cc)
]
  where
    past : (flagged : List Bool) (e : ℕ) → length flagged ≤ e → slice_index_or flagged e false ≡ false
    past flagged e more = grind (arith, common_steps)

-- a flagged vertex in a later component, whose height is one less
record IsAttained (graph : Rows) (parts : Parts) (flagged : List Bool) (heights : List ℕ) (v e : ℕ) : Type 0 where
  pub reached : Reaches graph v e
  pub other : slice_index parts.numbers v < slice_index parts.numbers e
  pub is_flagged : IsTrue (slice_index_or flagged e false)
  pub height : slice_index heights (slice_index parts.numbers v) ≡ slice_index heights (slice_index parts.numbers e) + 1

attained_step : (graph : Rows) (parts : Parts) (vertices components : List Bool) (heights : List ℕ) (v : ℕ)
    → AreComponents graph parts
    → length vertices ≡ length graph
    → length heights ≡ length graph
    → HaveFlagged parts.numbers vertices (length vertices) components
    → AreRaisedFrom graph parts components 0 heights
    → v < length graph
    → 0 < slice_index heights (slice_index parts.numbers v)
    → ((b : ℕ) → slice_index parts.numbers v < slice_index parts.numbers b → b < length graph
    → 0 < slice_index heights (slice_index parts.numbers b)
    → (e : ℕ) × IsAttained graph parts vertices heights b e)
    → (e : ℕ) × IsAttained graph parts vertices heights v e
attained_step graph parts vertices components heights v c len size have s small some rest =
    by (s.attained (slice_index parts.numbers v) number_small some)
  where
    number_small : slice_index parts.numbers v < length heights
    number_small = omega (arith, All-get_or (λ n. n < length graph) parts.numbers v 0 (omega (arith, c.len)) c.below)

    by : (k : ℕ) × (b : ℕ) × (0 ≤ k) × (k < length parts.order)
        × (slice_index parts.numbers (slice_index parts.order k) ≡ slice_index parts.numbers v)
        × IsBeyond parts.numbers (slice_index parts.numbers v) (successors_of graph (slice_index parts.order k)) b
        × (b < length graph)
        × (top_of heights components (slice_index parts.numbers b) ≡ slice_index heights (slice_index parts.numbers v))
        → (e : ℕ) × IsAttained graph parts vertices heights v e
    by (k, b, low, below, same, (edge, other), b_small, top) =
        elim (top_cases heights components (slice_index parts.numbers b)) [
          | inl (is, up) ↦ here ((have (slice_index parts.numbers b)).0 is) up
          | inr up ↦ beyond (rest b higher b_small (omega (arith, up, top))) up
        ]
      where
        w : ℕ
        w = slice_index parts.order k

        higher : slice_index parts.numbers v < slice_index parts.numbers b
        higher = omega (arith, c.never_falls w b edge)

        path : Reaches graph v b
        path = along ((c.shared w v (All-get_or (λ u. u < length graph) parts.order k 0 below c.each.within) small).0
            same).1 edge

        here : (e : ℕ) × (e < length vertices) × IsTrue (slice_index_or vertices e false)
            × (slice_index parts.numbers e ≡ slice_index parts.numbers b)
            → top_of heights components (slice_index parts.numbers b)
            ≡ slice_index heights (slice_index parts.numbers b) + 1
            → (e : ℕ) × IsAttained graph parts vertices heights v e
        here (e, e_small, flag, is) up = (
          e,
          record {
            reached = Reaches-joined graph v b e path ((c.shared e b (omega arith) b_small).0 is).1;
            other = omega (arith, higher, is);
            is_flagged = flag;
            height = sym top ∙ up ∙ ap (λ (n : ℕ). slice_index heights n + 1) (sym is);
          },
        )

        beyond : (e : ℕ) × IsAttained graph parts vertices heights b e
            → top_of heights components (slice_index parts.numbers b)
            ≡ slice_index heights (slice_index parts.numbers b)
            → (e : ℕ) × IsAttained graph parts vertices heights v e
        beyond (e, a) up = (
          e,
          record {
            reached = Reaches-joined graph v b e path a.reached;
            other = omega (arith, higher, a.other);
            is_flagged = a.is_flagged;
            height = sym top ∙ up ∙ a.height;
          },
        )

-- by how many numbers are left
attained_at : (graph : Rows) (parts : Parts) (vertices components : List Bool) (heights : List ℕ)
    → AreComponents graph parts
    → length vertices ≡ length graph
    → length heights ≡ length graph
    → HaveFlagged parts.numbers vertices (length vertices) components
    → AreRaisedFrom graph parts components 0 heights
    → (m v : ℕ) → length heights ≤ slice_index parts.numbers v + m → v < length graph
    → 0 < slice_index heights (slice_index parts.numbers v)
    → (e : ℕ) × IsAttained graph parts vertices heights v e
attained_at graph parts vertices components heights c len size have s zero v near small some =
    absurd (omega (arith, All-get_or (λ n. n < length graph) parts.numbers v 0 (omega (arith, c.len)) c.below))
attained_at graph parts vertices components heights c len size have s (suc m) v near small some =
    attained_step graph parts vertices components heights v c len size have s small some
    (λ b more. attained_at graph parts vertices components heights c len size have s m b (omega arith))

-- the heights of vertices
pub heights_of : (graph : Rows) (parts : Parts) (vertices components : List Bool) (table : List ℕ)
    → AreComponents graph parts
    → length vertices ≡ length graph
    → length table ≡ length graph
    → HaveFlagged parts.numbers vertices (length vertices) components
    → AreRaisedFrom graph parts components 0 table
    → AreHeights graph vertices (map (λ (n : ℕ). slice_index table n) parts.numbers)
heights_of graph parts vertices components table c len size have s = record {
  higher = λ v e small (path, no_way, flag). rw (at v small, at e (omega (arith, flagged_small vertices e flag)))
      (above v e small path no_way flag
      (tops_below graph parts components table v e c s path));
  attained = λ v small some. (let a = attained_at graph parts vertices components table c len size have s
      (length table) v (omega arith) small (rw (at v small) at some) in
      let e_small = flagged_small vertices a.0 a.1.is_flagged in (
        a.0,
        (
          a.1.reached,
          λ back. absurd (omega (arith, a.1.other, never_falls_along graph parts a.0 v c back)),
          a.1.is_flagged,
        ),
        at v small ∙ a.1.height ∙ ap (λ (n : ℕ). n + 1) (sym (at a.0 (omega arith))),
      ));
}
  where
    at : (u : ℕ) → u < length graph
        → slice_index (map (λ (n : ℕ). slice_index table n) parts.numbers) u
        ≡ slice_index table (slice_index parts.numbers u)
    at u small = get_or-map (λ (n : ℕ). slice_index table n) parts.numbers u 0 0 (omega (arith, c.len))

    above : (v e : ℕ) → v < length graph → Reaches graph v e → (Reaches graph e v → ⊥)
        → IsTrue (slice_index_or vertices e false)
        → (slice_index parts.numbers e ≡ slice_index parts.numbers v)
        ⊎ (top_of table components (slice_index parts.numbers e) ≤ slice_index table (slice_index parts.numbers v))
        → slice_index table (slice_index parts.numbers e) < slice_index table (slice_index parts.numbers v)
    above v e small path no_way flag (inl same) =
        absurd (no_way ((c.shared e v (omega (arith, flagged_small vertices e flag)) small).0 same).0)
    above v e small path no_way flag (inr top) =
        omega (
          arith,
          top,
          top_flagged table components (slice_index parts.numbers e)
              ((have (slice_index parts.numbers e)).1 (e, flagged_small vertices e flag, flag, refl)),
        )
