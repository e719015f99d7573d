use Rattle.std.proofs.Common.{arith}
use Rattle.image_parser.specs.reading.Named.{ClassNames}
use Rattle.image_parser.proofs.NamesLemmas.{more_below}
use Rattle.image_parser.proofs.names.nameless.Goals as goal

pub loop-class-init : goal.loop-class-init
loop-class-init c = λ k low. absurd (omega (arith, low))

pub loop-class-preserved : goal.loop-class-preserved
loop-class-preserved c =
    more_below (ClassNames c.args.program.now c.args.regions.now) c.loop-class.class c.loop-class.invariant
    (c.class_names.ensures.0 (let on = c.if-not-class_names.false in cc))

pub returns-then-not-class_names : goal.returns-then-not-class_names
returns-then-not-class_names c = record {
  class = omega arith;
  names = λ h. let on = c.class_names.ensures.1 h in let off = c.if-not-class_names.true in cc;
  least = c.loop-class.invariant;
}

pub returns : goal.returns
returns c = λ k low. c.loop-class.invariant k (omega (arith, low))
