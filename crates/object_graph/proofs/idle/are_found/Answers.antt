use Rattle.std.proofs.Common.{◌<◌, arith, refl}
use Rattle.object_graph.proofs.IdleLemmas.{one_found, found_misses, found_all}
use Rattle.object_graph.proofs.idle.are_found.Goals as goal

pub loop-index-init : goal.loop-index-init
loop-index-init c = λ i lt. absurd (omega (arith, lt))

pub loop-index-preserved : goal.loop-index-preserved
loop-index-preserved c =
    one_found c.args.found.now c.args.class c.loop-index.index c.loop-index.invariant
    (c.has.ensures.0 (let on = c.if-not-has.false in cc))

pub returns-then-not-has : goal.returns-then-not-has
returns-then-not-has c =
    found_misses c.args.found.now c.args.class c.loop-index.index c.args.count c.loop-index-test.true
    (λ h. let on = c.has.ensures.1 h in let off = c.if-not-has.true in cc)

pub returns : goal.returns
returns c =
    found_all c.args.found.now c.args.class c.loop-index.index c.args.count (omega arith) c.loop-index.invariant
