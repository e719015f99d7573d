use Rattle.std.proofs.Common.{◌≡◌, ◌∙◌, ◌∷◌, ◌++◌, List, sym, ap, rules}
use Rattle.std.specs.Prelude.{reverse}
use Rattle.vm_state.specs.declared.frame.Frame.{Frame}
use Rattle.thread_runner.proofs.TopLemmas.{popped, turns_one}
use Rattle.thread_runner.proofs.top.reversed.Goals as goal

pub reversing-preserved : goal.reversing-preserved
reversing-preserved c =
    let f = c.in-Some.frame in
    let left = c.pop.new.self in
    let reversed = c.reversing.reversed in
    let whole : c.reversing.left ≡ f ∷ left =
    popped c.reversing.left f c.in-Some.ensures.frame ∙ ap (λ (l : List Frame). f ∷ l) (sym c.in-Some.ensures.rest) in
    let put : c.put_caller.new.callers ≡ f ∷ reversed = search rules in
    ap (λ (l : List Frame). reverse left ++ l) put ∙ turns_one f left reversed
    ∙ ap (λ (l : List Frame). reverse l ++ reversed) (sym whole) ∙ c.reversing.invariant
