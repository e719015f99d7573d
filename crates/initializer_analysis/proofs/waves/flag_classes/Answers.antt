use Rattle.std.proofs.Common.{◌≡◌, ℕ, subst, arith}
use Rattle.initializer_analysis.specs.steps.Judging.{AreFlaggedFrom}
use Rattle.initializer_analysis.proofs.LabelsOfClassesLemmas.{flagged_none, flagged_more}
use Rattle.initializer_analysis.proofs.waves.flag_classes.Goals as goal

pub loop-class-init : goal.loop-class-init
loop-class-init c = flagged_none c.args.flags.now.items

pub loop-class-preserved : goal.loop-class-preserved
loop-class-preserved c =
    flagged_more c.loop-class._class c.args.flags.now.items c.loop-class.flags.items c.push.new.self.items
    c.loop-class.invariant c.in_ok-push.ensures.items

pub returns : goal.returns
returns c =
    let end : c.loop-class._class ≡ c.args.limit = omega arith in
    subst (λ (n : ℕ). AreFlaggedFrom n c.args.flags.now.items c.loop-class.flags.items) end c.loop-class.invariant
