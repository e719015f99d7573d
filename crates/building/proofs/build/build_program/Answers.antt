use Rattle.building.specs.Builds.{text_of}
use Rattle.building.specs.Refusals.{OptionsFail}
use Rattle.building.proofs.RefusalLemmas.{no_option_is_wave}
use Rattle.building.proofs.build.build_program.Goals as goal

pub returns-clause-workers : goal.returns-clause-workers
returns-clause-workers g c = (
  λ is. absurd (no_option_is_wave (OptionsFail c.args.program (text_of c.args.options.now.run_time)
      (text_of c.args.options.now.build_time) c.args.options.now.budget) c.image_by.result c.image_by.ensures.fault is),
  λ wrong. absurd (wrong (c.can_work.ensures.0 c.if-not-can_work.false)),
)
