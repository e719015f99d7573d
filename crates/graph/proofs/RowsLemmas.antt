-- The rows of a graph.
use Rattle.std.proofs.Common.{◌≡◌, ℕ, ◌+◌, ◌<◌, ◌≤◌, ◌⊎◌, List, [], ◌∷◌, ◌++◌, length, get_or, set, replicate, inl, inr}
use Rattle.std.proofs.Common.{sym, subst, ap, arith, ◌∙◌}
use Rattle.std.proofs.lemmas.Bool.{cases_lt}
use Rattle.std.specs.List.{All, Contains}
use Rattle.std.specs.declared.vec.Vec.{Vec}
use Rattle.std.specs.declared.alloc.Global.{Global}
use Rattle.std.proofs.Math.ListN.{get_or-map}
use Rattle.std.proofs.lemmas.Grind.{common_steps, replicate_next}
use Rattle.std.proofs.lemmas.List.{length-map, length-set, map-set, set-get_or, get_or_past, get_or_default}
use Rattle.std.proofs.lemmas.List.{get_or-set_same, get_or-set_other, map-append}
use Rattle.std.proofs.lemmas.List.Elements.{All-nil, All-get_or, All-set, All-push, All-replicate}
use Rattle.graph.specs.Rows.{Rows, rows_of, successors_of, IsClosed}

pub length-rows_of : (rows : List (Vec ℕ Global)) → length (rows_of rows) ≡ length rows
length-rows_of rows = length-map rows (λ (row : Vec ℕ Global). row.items)

-- a number that is no vertex has no successors
pub no_successors : (graph : Rows) (v : ℕ) → length graph ≤ v → successors_of graph v ≡ []
no_successors graph v h = get_or_past graph v [] h

-- what has a successor is a vertex
pub has_successor : (graph : Rows) (v b : ℕ) → Contains (successors_of graph v) b → v < length graph
has_successor graph v b edge = by_order (cases_lt v (length graph))
  where
    by_order : (v < length graph) ⊎ (length graph ≤ v) → v < length graph
    by_order (inl less) = less
    by_order (inr more) =
        (let none : Contains [] b = rw (no_successors graph v more) at edge in absurd (omega (arith, none.1)))

pub successors_within : (graph : Rows) (v : ℕ) → IsClosed graph → All (λ b. b < length graph) (successors_of graph v)
successors_within graph v closed = by_order (cases_lt v (length graph))
  where
    by_order : (v < length graph) ⊎ (length graph ≤ v) → All (λ b. b < length graph) (successors_of graph v)
    by_order (inl less) = All-get_or (λ row. All (λ b. b < length graph) row) graph v [] less closed
    by_order (inr more) = rw (no_successors graph v more) (λ k d h. absurd (omega arith))

pub row_read : (rows : List (Vec ℕ Global)) (v : ℕ) (row : Vec ℕ Global) → v < length rows → row ≡ get_or rows v row
    → row.items ≡ successors_of (rows_of rows) v
row_read rows v row h e = ap (λ (r : Vec ℕ Global). r.items) e
    ∙ sym (get_or-map (λ (r : Vec ℕ Global). r.items) rows v row) ∙ other
  where
    other : get_or (rows_of rows) v row.items ≡ get_or (rows_of rows) v []
    other =
        (let small : v < length (rows_of rows) = omega (arith, length-rows_of rows) in
        get_or_default (rows_of rows) v row.items [] small)

-- one more edge
pub closed_add : (graph : Rows) (from to : ℕ) → from < length graph → to < length graph → IsClosed graph
    → IsClosed (set graph from (successors_of graph from ++ to ∷ []))
closed_add graph from to f t closed =
    subst (λ (n : ℕ). All (λ row. All (λ b. b < n) row) (set graph from (successors_of graph from ++ to ∷ [])))
    (sym (length-set graph from (successors_of graph from ++ to ∷ [])))
    (All-set (λ row. All (λ b. b < length graph) row) graph from (successors_of graph from ++ to ∷ [])
    (All-push (λ b. b < length graph) (successors_of graph from) to (successors_within graph from closed) t) closed)

pub closed_empty : (count : ℕ) → IsClosed (replicate count [])
closed_empty count = All-replicate (λ (row : List ℕ). All (λ b. b < length (replicate {A = List ℕ} count [])) row) count
    [] (All-nil (λ b. b < length (replicate {A = List ℕ} count [])))

-- the row of one vertex has changed
row_set : (rows : List (Vec ℕ Global)) (graph : Rows) (from : ℕ) (row : Vec ℕ Global) → rows_of rows ≡ graph
    → rows_of (set rows from row) ≡ set graph from row.items
row_set rows graph from row e = map-set (λ (r : Vec ℕ Global). r.items) rows from row
    ∙ ap (λ (g : Rows). set g from row.items) e

row_of : (rows : List (Vec ℕ Global)) (graph : Rows) (from : ℕ) (row : Vec ℕ Global) → rows_of rows ≡ graph
    → from < length graph → row ≡ get_or rows from row
    → row.items ≡ successors_of graph from
row_of rows graph from row e h read =
    let small : from < length rows = omega (arith, length-rows_of rows, ap length e) in
    row_read rows from row small read ∙ ap (λ (g : Rows). successors_of g from) e

pub row_pushed : (rows : List (Vec ℕ Global)) (graph : Rows) (from to : ℕ) (row new : Vec ℕ Global)
    → rows_of rows ≡ graph → from < length graph
    → row ≡ get_or rows from row → new.items ≡ row.items ++ to ∷ []
    → rows_of (set rows from new) ≡ set graph from (successors_of graph from ++ to ∷ [])
row_pushed rows graph from to row new e h read pushed =
    row_set rows graph from new e
    ∙ ap (λ (r : List ℕ). set graph from r)
    (pushed ∙ ap (λ (r : List ℕ). r ++ to ∷ []) (row_of rows graph from row e h read))

pub row_kept : (rows : List (Vec ℕ Global)) (graph : Rows) (from : ℕ) (row new : Vec ℕ Global) → rows_of rows ≡ graph
    → from < length graph
    → row ≡ get_or rows from row → new.items ≡ row.items → rows_of (set rows from new) ≡ graph
row_kept rows graph from row new e h read same =
    row_set rows graph from new e ∙ ap (λ (r : List ℕ). set graph from r) (same ∙ row_of rows graph from row e h read)
    ∙ set-get_or graph from []

-- ---- successors after an edge was added, and before any was

pub successors_of-set_same : (graph : Rows) (v : ℕ) (row : List ℕ) → v < length graph
    → successors_of (set graph v row) v ≡ row
successors_of-set_same graph v row h = get_or-set_same graph v row [] h

pub successors_of-set_other : (graph : Rows) (v u : ℕ) (row : List ℕ) → (u ≡ v → ⊥)
    → successors_of (set graph v row) u ≡ successors_of graph u
successors_of-set_other graph v u row other = get_or-set_other graph v u row [] other

pub successors_of-empty : (count v : ℕ) → successors_of (replicate count []) v ≡ []
successors_of-empty count v = grind (arith, common_steps)

-- one more row, without successors
pub one_empty_row_more : (old new : List (Vec ℕ Global)) (row : Vec ℕ Global) (n : ℕ) → new ≡ old ++ row ∷ []
    → rows_of old ≡ replicate n [] → row.items ≡ []
    → rows_of new ≡ replicate (n + 1) []
one_empty_row_more old new row n pushed before empty =
    rw (pushed, map-append (λ (r : Vec ℕ Global). r.items) old (row ∷ []), before, empty) (sym (replicate_next n []))
