use Rattle.std.proofs.Common.{◌≡◌, None, arith}
use Rattle.initializer_analysis.proofs.OthersLemmas.{holds_none, holds_more}
use Rattle.explain.specs.steps.Pairs.{IsOther}
use Rattle.explain.proofs.cycles.others_by.Goals as goal

pub loop-class-init : goal.loop-class-init
loop-class-init c =
    holds_none (IsOther c.args.uses.now c.args.components.now.numbers c.args.limit) None c.new-others.result.items
    c.new-others.ensures.items

pub loop-class-preserved : goal.loop-class-preserved
loop-class-preserved c =
    holds_more (IsOther c.args.uses.now c.args.components.now.numbers c.args.limit) None c.loop-class.class
    c.loop-class.others.items c.push.new.self.items c.other_of.result c.loop-class.invariant
    c.in_ok-push.ensures.items c.other_of.ensures

pub returns : goal.returns
returns c k low =
    let end : c.loop-class.class ≡ c.args.limit = omega arith in
    c.loop-class.invariant.each k (omega (arith, low, end))
