use Rattle.std.proofs.Common.{◌≡◌, ◌∙◌, ◌∷◌, ◌++◌, List, length, sym, ap, arith}
use Rattle.std.specs.Prelude.{reverse}
use Rattle.vm_state.specs.declared.frame.Frame.{Frame}
use Rattle.thread_runner.proofs.TopLemmas.{popped, turns_one, drops_one}
use Rattle.thread_runner.proofs.top.put_callers.Goals as goal

pub putting-preserved : goal.putting-preserved
putting-preserved c =
    let f = c.in-Some.frame in
    let left = c.pop.new.self in
    let callers = c.putting.callers in
    let put = c.in-Some-put_next.ensures.0 in
    let more = c.in-Some-put_next.ensures.1 in
    let whole : c.putting.left ≡ f ∷ left =
    popped c.putting.left f c.in-Some.ensures.frame ∙ ap (λ (l : List Frame). f ∷ l) (sym c.in-Some.ensures.rest) in (
      ap (λ (l : List Frame). reverse left ++ l) put ∙ turns_one f left callers
          ∙ ap (λ (l : List Frame). reverse l ++ callers) (sym whole) ∙ c.putting.invariant.0,
      rw (put, more) (drops_one c.putting.count f callers ∙ c.putting.invariant.1),
      omega (arith, more, ap (length {A = Frame}) whole, c.putting.invariant.2),
    )
