use Rattle.std.proofs.Common.{◌∙◌, ◌||◌, Bool, arith, ap₂, sym}
use Rattle.std.proofs.lemmas.List.Sums.{fold_more}
use Rattle.clap.specs.Simple.{app_of, with_rule}
use Rattle.command_line.specs.steps.Described.{with_argument}
use Rattle.command_line.proofs.commands.with_arguments.Goals as goal

pub loop-argument-preserved : goal.loop-argument-preserved
loop-argument-preserved c =
    let adds = c.in_ok-command.ensures in (
      adds.shape c.arg.ensures.local ∙ ap₂ with_rule c.loop-argument.invariant.0 c.arg.ensures.rule
          ∙ sym (fold_more with_argument (app_of c.args.command) c.args.arguments.now c.loop-argument.argument-index _
          (omega arith)),
      adds.globals ∙ ap₂ (λ (x y : Bool). x || y) c.loop-argument.invariant.1 c.arg.ensures.local,
    )
