use Rattle.std.proofs.Common.{◌∙◌, ◌∷◌, [], ap, drop}
use Rattle.semantics.specs.Steps.{Going}
use Rattle.init_engine.specs.Stacks.{with_thread}
use Rattle.init_engine.specs.Turns.{world_of}
use Rattle.thread_runner.proofs.TopLemmas.{empty_there, in_again}
use Rattle.thread_runner.proofs.top.take_in.Goals as goal

pub returns-clause-back : goal.returns-clause-back
returns-clause-back c = λ f fs ls at.
    let w = world_of c.args.world.now in
    let m = world_of c.exchange.new.self in
    let n = world_of c.exchange-2.new.self in
    let first = c.exchange.ensures.exchanged (f ∷ fs) ls at in
    let out = first.0 ∙ ap (with_thread w c.args.thread) c.no_frames-frames.ensures.going in
    let second = c.exchange-2.ensures.exchanged [] [] (empty_there w m n c.args.thread f fs ls at out) in
    in_again w m n c.args.thread f fs ls at out (Going (c.args.under.innermost ∷ drop c.args.under.above fs) ls)
    (second.0 ∙ ap (with_thread m c.args.thread) (c.take_top.ensures.back f fs ls first.1))
