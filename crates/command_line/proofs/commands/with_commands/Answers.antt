use Rattle.clap.specs.Simple.{app_of}
use Rattle.command_line.proofs.DescribedLemmas.{one_more}
use Rattle.command_line.proofs.commands.with_commands.Goals as goal

pub loop-description-preserved : goal.loop-description-preserved
loop-description-preserved c =
    one_more (app_of c.args.program) (app_of c.loop-description.program) (app_of c.in_ok-program.program)
    c.args.descriptions.now c.loop-description.description-index _ c.loop-description-test.true
    c.loop-description.invariant c.in_ok-program.ensures
