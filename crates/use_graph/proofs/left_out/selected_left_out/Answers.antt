use Rattle.use_graph.proofs.LeftOutLemmas.{nothing_left_out, alone_left_out, named_left_out}
use Rattle.use_graph.proofs.left_out.selected_left_out.Goals as goal

pub returns-in-Nothing-clause-answer : goal.returns-in-Nothing-clause-answer
returns-in-Nothing-clause-answer c =
    nothing_left_out c.args.program.now c.args.method (λ e j may. (c.in-Nothing.ensures e j).0 may)

pub returns-in-Alone-clause-answer : goal.returns-in-Alone-clause-answer
returns-in-Alone-clause-answer c =
    alone_left_out c.args.program.now c.args.method c.in-Alone.member c.is_left_out.result
    (λ e j. c.in-Alone.ensures e j) c.is_left_out.ensures

pub returns-in_ok-yes-in-Named-clause-answer : goal.returns-in_ok-yes-in-Named-clause-answer
returns-in_ok-yes-in-Named-clause-answer c =
    named_left_out c.args.program.now c.args.method c.in-Named.member c.in_ok-yes-in-Named.yes
    (λ e j. c.in-Named.ensures e j) c.in_ok-yes-in-Named.ensures.answer
