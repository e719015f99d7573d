use Rattle.std.proofs.Common.{◌≡◌, ◌+◌, ◌++◌, ◌∷◌, List, ℕ, [], replicate, sym, ◌∙◌}
use Rattle.std.proofs.lemmas.Grind.{replicate_next}
use Rattle.hierarchy.proofs.class_lists.add_empty_lists.Goals as goal

one_more : (old new : List (List ℕ)) (list : List ℕ) (n : ℕ) → new ≡ old ++ list ∷ [] → old ≡ replicate n [] → list ≡ []
    → new ≡ replicate (n + 1) []
one_more old new list n pushed before empty = rw (pushed, before, empty) (sym (replicate_next n []))

pub loop-preserved : goal.loop-preserved
loop-preserved c =
    one_more c.loop.lists.items c.push.new.self.items c.new-in-loop.result c.loop.counter c.in_ok-push.ensures.items
    c.loop.invariant
    (c.new-in-loop.ensures ∙ c.new.ensures.items)
