use Rattle.std.proofs.Common.{◌≡◌, ℕ, ◌+◌, ◌-◌, ◌<◌, ◌≤◌, List, [], ◌∷◌, length, slice_index, set, sym, subst, ap, ◌∙◌}
use Rattle.std.proofs.Common.{arith}
use Rattle.std.specs.List.{Contains}
use Rattle.std.proofs.lemmas.Grind.{common_steps}
use Rattle.std.proofs.lemmas.List.{length_push}
use Rattle.std.proofs.lemmas.List.Elements.{All-contains, Contains-get_or, Contains-append_left}
use Rattle.graph.specs.Rows.{successors_of}
use Rattle.graph.proofs.DescendingLemmas.{last_is_vertex, descent_look, descent_push, descent_pop}
use Rattle.graph.proofs.descent.step.Goals as goal

pub index-requires : goal.index-requires
index-requires c =
    let w = c.args.descent.now in
    let v = c.index-vertex.result.now in
    let last : v ≡ slice_index w.path.items (length w.path.items - 1) = grind (arith, common_steps) in
    let below = last_is_vertex c.args.graph.now w.seen.items w.path.items w.passed.items w.finished.items v
    c.requires.descending (omega arith) last in
    omega arith

pub index_mut-requires : goal.index_mut-requires
index_mut-requires c =
    let w = c.args.descent.now in
    let v = c.index-vertex.result.now in
    let last : v ≡ slice_index w.path.items (length w.path.items - 1) = grind (arith, common_steps) in
    let below = last_is_vertex c.args.graph.now w.seen.items w.path.items w.passed.items w.finished.items v
    c.requires.descending (omega arith) last in
    omega arith

pub skip-next-requires-clause-from : goal.skip-next-requires-clause-from
skip-next-requires-clause-from c =
    let w = c.args.descent.now in
    let v = c.index-vertex.result.now in
    let last : v ≡ slice_index w.path.items (length w.path.items - 1) = grind (arith, common_steps) in
    let below = last_is_vertex c.args.graph.now w.seen.items w.path.items w.passed.items w.finished.items v
    c.requires.descending (omega arith) last in
    let passed : c.index.result.now ≡ slice_index w.passed.items v = grind (arith, common_steps) in
    omega (arith, passed, c.requires.descending.short v, ap length c.successors-row.ensures.value)

pub skip-next-requires-clause-before : goal.skip-next-requires-clause-before
skip-next-requires-clause-before c =
    let w = c.args.descent.now in
    let v = c.index-vertex.result.now in
    let last : v ≡ slice_index w.path.items (length w.path.items - 1) = grind (arith, common_steps) in
    let below = last_is_vertex c.args.graph.now w.seen.items w.path.items w.passed.items w.finished.items v
    c.requires.descending (omega arith) last in
    let passed : c.index.result.now ≡ slice_index w.passed.items v = grind (arith, common_steps) in
    λ j h. subst (λ (r : List ℕ). Contains w.seen.items (slice_index r j)) (sym c.successors-row.ensures.value)
    (c.requires.descending.looked v j (rw passed at h))

pub returns-in_ok-go_down-clause-keeps : goal.returns-in_ok-go_down-clause-keeps
returns-in_ok-go_down-clause-keeps c =
    let w = c.args.descent.now in
    let to : ℕ = slice_index c.successors-row.result.now c.skip-next.result in
    λ x h. rw c.in_ok-go_down.ensures.seen (Contains-append_left w.seen.items (to ∷ []) x h)

pub returns-in_ok-go_down-clause-nearer : goal.returns-in_ok-go_down-clause-nearer
returns-in_ok-go_down-clause-nearer c =
    let w = c.args.descent.now in
    let to : ℕ = slice_index c.successors-row.result.now c.skip-next.result in
    let n : length c.go_down.new.descent.seen.items ≡ length w.seen.items + 1 = ap length c.in_ok-go_down.ensures.seen
    ∙ length_push w.seen.items to in
    let p : length c.go_down.new.descent.path.items ≡ length w.path.items + 1 = ap length c.in_ok-go_down.ensures.path
    ∙ length_push w.path.items to in
    omega (arith, n, p, c.in_ok-go_down.ensures.small, c.in_ok-go_down.ensures.limit)

pub returns-in_ok-go_down-clause-descending : goal.returns-in_ok-go_down-clause-descending
returns-in_ok-go_down-clause-descending c =
    let g = c.args.graph.now in
    let w = c.args.descent.now in
    let v = c.index-vertex.result.now in
    let last : v ≡ slice_index w.path.items (length w.path.items - 1) = grind (arith, common_steps) in
    let below = last_is_vertex c.args.graph.now w.seen.items w.path.items w.passed.items w.finished.items v
    c.requires.descending (omega arith) last in
    let next = c.skip-next.result in
    let slice = c.successors-row.result.now in
    let row = c.successors-row.ensures.value in
    let to : ℕ = slice_index slice next in
    let absent = c.skip-next.ensures.stops (omega arith) in
    let edge : Contains (successors_of g v) to =
    subst (λ (r : List ℕ). Contains r to) row (Contains-get_or slice next 0 (omega arith)) in
    let small : to < length g = All-contains (λ b. b < length g) slice to c.successors-row.ensures.within
    (Contains-get_or slice next 0 (omega arith)) in
    let looked = descent_look g w.seen.items w.path.items w.passed.items w.finished.items v next (omega arith)
    (subst (λ (r : List ℕ). next ≤ length r) row c.skip-next.ensures.bound)
    (λ j h. subst (λ (r : List ℕ). Contains w.seen.items (slice_index r j)) row (c.skip-next.ensures.passed j h))
    c.requires.descending in
    rw (c.in_ok-go_down.ensures.passed, c.in_ok-go_down.ensures.finished)
    (descent_push g w.seen.items c.go_down.new.descent.seen.items w.path.items c.go_down.new.descent.path.items
    (set w.passed.items v next) w.finished.items v to
    (omega arith) last edge small absent c.in_ok-go_down.ensures.seen c.in_ok-go_down.ensures.path looked)

pub returns-in_ok-go_up-clause-descending : goal.returns-in_ok-go_up-clause-descending
returns-in_ok-go_up-clause-descending c =
    let g = c.args.graph.now in
    let w = c.args.descent.now in
    let v = c.index-vertex.result.now in
    let last : v ≡ slice_index w.path.items (length w.path.items - 1) = grind (arith, common_steps) in
    let below = last_is_vertex c.args.graph.now w.seen.items w.path.items w.passed.items w.finished.items v
    c.requires.descending (omega arith) last in
    let next = c.skip-next.result in
    let row = c.successors-row.ensures.value in
    let passed : (j : ℕ) → j < next → Contains w.seen.items (slice_index (successors_of g v) j) =
    λ j h. subst (λ (r : List ℕ). Contains w.seen.items (slice_index r j)) row (c.skip-next.ensures.passed j h) in
    let bound : next ≤ length (successors_of g v) =
    subst (λ (r : List ℕ). next ≤ length r) row c.skip-next.ensures.bound in
    let whole : length (successors_of g v) ≤ next = subst (λ (r : List ℕ). length r ≤ next) row (omega arith) in
    let looked = descent_look g w.seen.items w.path.items w.passed.items w.finished.items v next (omega arith) bound
    passed
    c.requires.descending in
    rw (c.in_ok-go_up.ensures.seen, c.in_ok-go_up.ensures.passed)
    (descent_pop g w.seen.items w.path.items c.go_up.new.descent.path.items (set w.passed.items v next) w.finished.items
    c.go_up.new.descent.finished.items v
    c.in_ok-go_up.ensures.path c.in_ok-go_up.ensures.finished (λ j h. passed j (omega arith)) looked)

pub returns-in_ok-go_up-clause-keeps : goal.returns-in_ok-go_up-clause-keeps
returns-in_ok-go_up-clause-keeps c = λ x h. rw c.in_ok-go_up.ensures.seen h

pub returns-in_ok-go_up-clause-nearer : goal.returns-in_ok-go_up-clause-nearer
returns-in_ok-go_up-clause-nearer c =
    let v = c.index-vertex.result.now in
    let path = c.go_up.new.descent.path.items in
    let shorter : length c.args.descent.now.path.items ≡ length path + 1 = ap length c.in_ok-go_up.ensures.path
    ∙ length_push path v in
    rw c.in_ok-go_up.ensures.seen (omega arith)

pub returns-in_ok-go_up-clause-limit : goal.returns-in_ok-go_up-clause-limit
returns-in_ok-go_up-clause-limit c = rw c.in_ok-go_up.ensures.seen c.requires.limit

pub returns-in_ok-go_down-clause-limit : goal.returns-in_ok-go_down-clause-limit
returns-in_ok-go_down-clause-limit c = c.in_ok-go_down.ensures.limit ∙ c.requires.limit
