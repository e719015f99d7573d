use Rattle.std.proofs.Common.{◌≡◌, [], ◌∷◌, sym, ap, ◌∙◌, arith}
use Rattle.semantics.specs.Alone.{Over, body}
use Rattle.machine.specs.Linked.{initializer_frame}
use Rattle.evaluator.proofs.settling.run_initializer.Goals as goal

pub returns-in-Some : goal.returns-in-Some
returns-in-Some c =
    let begins : body (initializer_frame c.args.given.program.now c.args.given.class) ≡
    c.in-Some.innermost ∷ c.none.result =
    ap body (sym c.in_ok-innermost.ensures ∙ c.in-Some.is)
    ∙ ap (λ fs. c.in-Some.innermost ∷ fs) (sym c.none.ensures) in
    rw begins c.run_frames.ensures

pub returns-in-None : goal.returns-in-None
returns-in-None c =
    let begins : body (initializer_frame c.args.given.program.now c.args.given.class) ≡ [] =
    ap body (sym c.in_ok-innermost.ensures ∙ c.in-None.is) in
    (0, rw begins Over, omega arith)
