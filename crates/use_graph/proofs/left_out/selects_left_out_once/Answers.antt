use Rattle.std.proofs.Common.{◌<◌, length, None, Some, ap, ◌∙◌, arith}
use Rattle.std.proofs.lemmas.Option.{slice_get_within, slice_get-get_or}
use Rattle.use_graph.proofs.LeftOutLemmas.{known_more}
use Rattle.use_graph.proofs.left_out.selects_left_out_once.Goals as goal

pub returns-clause-known : goal.returns-clause-known
returns-clause-known c =
    known_more c.args.program.now c.args.numbers.now c.args.known.now c.in-Some.number c.args.method c.in_ok-yes.yes
    c.requires.known c.in-Some.ensures c.in_ok-yes.ensures

pub returns-clause-answer : goal.returns-clause-answer
returns-clause-answer c =
    c.in_ok-yes.ensures

pub returns-in-Some-known-clause-answer : goal.returns-in-Some-known-clause-answer
returns-in-Some-known-clause-answer c =
    let low : c.in-Some.number < length c.args.known.now = omega (
      arith,
      c.requires.known.len,
      slice_get_within c.args.numbers.now c.in-Some.number c.args.method c.in-Some.ensures,
    ) in
    c.requires.known.each c.in-Some.number c.args.method c.in-Some-known.yes c.in-Some.ensures
    (slice_get-get_or c.args.known.now c.in-Some.number None low ∙ ap Some c.in-Some-known.is)
