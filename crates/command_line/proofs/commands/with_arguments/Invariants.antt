use Rattle.std.proofs.Common.{fold, take}
use Rattle.clap.specs.Simple.{app_of}
use Rattle.command_line.specs.steps.Described.{HasApp, with_argument}
use Rattle.command_line.proofs.commands.with_arguments.Given as goal

abbrev pub invariant-loop-argument : goal.invariant-loop-argument
invariant-loop-argument l =
    HasApp (fold with_argument (app_of l.initial.command) (take l.argument-index l.arguments)) l.command
