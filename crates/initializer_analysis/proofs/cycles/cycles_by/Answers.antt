use Rattle.std.proofs.Common.{◌≡◌, false, arith}
use Rattle.initializer_analysis.proofs.OthersLemmas.{TellsOther, holds_none, holds_more}
use Rattle.initializer_analysis.proofs.cycles.cycles_by.Goals as goal

pub loop-class-init : goal.loop-class-init
loop-class-init c =
    holds_none (TellsOther c.args.uses.now c.args.components.now.numbers c.args.limit) false
    c.in_ok-on_cycle.on_cycle.items
    c.in_ok-on_cycle.ensures.items

pub loop-class-preserved : goal.loop-class-preserved
loop-class-preserved c =
    holds_more (TellsOther c.args.uses.now c.args.components.now.numbers c.args.limit) false c.loop-class.class
    c.loop-class.on_cycle.items c.push.new.self.items c.has_other.result c.loop-class.invariant
    c.in_ok-push.ensures.items c.has_other.ensures

pub returns : goal.returns
returns c =
    let end : c.loop-class.class ≡ c.args.limit = omega arith in
    record {
      count = omega (arith, c.loop-class.invariant.count);
      each = λ k low. c.loop-class.invariant.each k (omega arith);
    }
