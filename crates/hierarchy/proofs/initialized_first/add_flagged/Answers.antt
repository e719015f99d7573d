use Rattle.std.proofs.Common.{◌≡◌, ◌<◌, length, ap, arith, ◌∙◌}
use Rattle.std.proofs.lemmas.List.Elements.{All-push}
use Rattle.hierarchy.proofs.InterfaceOrdersLemmas.{kept_one, kept_none}
use Rattle.hierarchy.proofs.initialized_first.add_flagged.Goals as goal
use Rattle.hierarchy.proofs.initialized_first.add_flagged.Goals.{then-flags-class+in_ok-push, else-flags-class}

pub loop-index-preserved : goal.loop-index-preserved
loop-index-preserved c = elim c.if-flags-class.branch [
  | then-flags-class+in_ok-push w ↦ (
      let pushed : c.if-flags-class.numbers.items ≡ w.push.new.self.items = ap (λ v. v.items) w.numbers-is in
      record {
        added = kept_one _ c.args.seen.now.items c.args.numbers.now.items c.loop-index.numbers.items
            c.if-flags-class.numbers.items c.loop-index.index c.at-class.result (omega arith) c.at-class.ensures.value
            w.if-flags-class.true c.loop-index.invariant.added (pushed ∙ w.in_ok-push.ensures.items);
        within = rw (pushed ∙ w.in_ok-push.ensures.items)
            (All-push (λ x. x < length c.args.flags.now) c.loop-index.numbers.items c.at-class.result
            c.loop-index.invariant.within (omega (arith, c.requires.limit)));
      })
  | else-flags-class w ↦ (
      let same : c.if-flags-class.numbers.items ≡ c.loop-index.numbers.items = ap (λ v. v.items) w.numbers-is in
      record {
        added = kept_none _ c.args.seen.now.items c.args.numbers.now.items c.loop-index.numbers.items
            c.if-flags-class.numbers.items c.loop-index.index c.at-class.result (omega arith) c.at-class.ensures.value
            w.if-flags-class.false c.loop-index.invariant.added same;
        within = rw same c.loop-index.invariant.within;
      })
]
