use Rattle.std.proofs.Common.{length, ap, arith}
use Rattle.std.proofs.lemmas.List.{length_push}
use Rattle.explain.proofs.MarkingLemmas.{told_more, told_all}
use Rattle.explain.proofs.evidences.evidences_in.Goals as goal

pub loop-class-preserved : goal.loop-class-preserved
loop-class-preserved c = record {
  len = (let more = length_push c.loop-class.evidences.items c.evidence_of.result in
      let is = ap length c.in_ok-push.ensures.items in
      omega (arith, more, is, c.loop-class.invariant.len));
  told = λ mark marking. told_more c.args.program.now mark c.loop-class.evidences.items c.push.new.self.items
      c.loop-class.class c.evidence_of.result c.loop-class.invariant.len c.in_ok-push.ensures.items
      (c.loop-class.invariant.told mark marking) (c.evidence_of.ensures mark marking);
}

pub returns : goal.returns
returns c = λ mark marking.
    told_all c.args.program.now mark c.loop-class.evidences.items c.loop-class.class c.loop-class.invariant.len
    (omega (arith, c.given_count-class-end.ensures.value)) (c.loop-class.invariant.told mark marking)
