use Rattle.std.proofs.Common.{arith}
use Rattle.object_graph.proofs.IdleLemmas.{class_found, all_found, one_class}
use Rattle.object_graph.proofs.idle.first_unfound.Goals as goal

pub loop-class-init : goal.loop-class-init
loop-class-init c = λ d lt. absurd (omega (arith, lt))

pub loop-class-preserved : goal.loop-class-preserved
loop-class-preserved c =
    one_class c.args.program.now c.args.regions.now c.loop-class.class c.loop-class.invariant
    (class_found c.args.program.now c.args.regions.now c.args.found.now c.requires c.loop-class.class
    c.count_in.result c.count_in.ensures.all
    (c.are_found.ensures.0 (let on = c.if-not-are_found.false in cc)))

pub returns-then-not-are_found : goal.returns-then-not-are_found
returns-then-not-are_found c = record {
  class = omega arith;
  some = λ all.
      let h = all_found c.args.program.now c.args.regions.now c.args.found.now c.requires c.loop-class.class
      c.count_in.result c.count_in.ensures.all c.count_in.ensures.ascending all in
      let on = c.are_found.ensures.1 h in
      let off = c.if-not-are_found.true in cc;
  least = c.loop-class.invariant;
}

pub returns : goal.returns
returns c = λ d lt. c.loop-class.invariant d (omega arith)
