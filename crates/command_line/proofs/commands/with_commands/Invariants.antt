use Rattle.std.proofs.Common.{◌≡◌, fold, take}
use Rattle.clap.specs.Simple.{app_of}
use Rattle.command_line.specs.steps.Described.{with_description}
use Rattle.command_line.proofs.commands.with_commands.Given as goal

abbrev pub invariant-loop-description : goal.invariant-loop-description
invariant-loop-description l =
    app_of l.program ≡ fold with_description (app_of l.initial.program) (take l.description-index l.descriptions)
