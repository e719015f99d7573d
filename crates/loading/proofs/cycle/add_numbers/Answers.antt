use Rattle.std.proofs.Common.{◌≡◌, ◌+◌, ◌++◌, ◌∷◌, ℕ, List, [], take, get_or, ap, sym, ◌∙◌, arith}
use Rattle.std.proofs.lemmas.List.{take_more}
use Rattle.loading.proofs.cycle.add_numbers.Goals as goal

pub loop-vertex-preserved : goal.loop-vertex-preserved
loop-vertex-preserved c =
    let vertices = c.args.vertices.now in
    let k = c.loop-vertex.vertex-index in
    let next : take (k + 1) vertices ≡ take k vertices ++ get_or vertices k 0 ∷ [] =
    take_more vertices k 0 (omega arith) in
    c.in_ok-push.ensures.items ∙ ap (λ (xs : List ℕ). xs ++ get_or vertices k 0 ∷ []) c.loop-vertex.invariant ∙ sym next
