-- What is answered on the way to an image: what becomes of all classes, or why nothing is built.
use Rattle.std.specs.Prelude.{◌≡◌, ◌⊎◌, ℕ, Result, IfErr, IfOk}
use Rattle.program.specs.Tables.{Tables}
use Rattle.options.specs.Demands.{AreMet}
use Rattle.wave_scheduler.specs.Outcomes.{settled_of}
use Rattle.wave_scheduler.specs.Settled.{AreSettled}
use Rattle.wave_scheduler.specs.declared.outcome.Settled.{Settled}
use Rattle.building.specs.declared.asking.AskedOptions.{AskedOptions}
use Rattle.building.specs.declared.build.BuildFault.{BuildFault}
use Rattle.building.specs.declared.build.BuildFault.TheVariants.{Memory}
use Rattle.building.specs.declared.build.BuildOptions.{BuildOptions}
use Rattle.building.specs.Builds.{text_of, IsSettledAs}
use Rattle.building.specs.Refusals.{IsLeftUnmet, IsOption, OptionsFail}

-- All classes are settled as it was asked, or it is told why not.
pub record SettlesAsked (P : Tables) (asked : AskedOptions) (budget : ℕ) (r : Result Settled BuildFault) : Type 0 where
  pub settled : IfOk r (λ settled. AreSettled P asked.forced budget (settled_of settled))
  pub met : IfOk r (λ settled. AreMet P asked.demand (settled_of settled))
  pub fault : IfErr r
      (λ fault. (fault ≡ Memory) ⊎ IsOption (IsLeftUnmet P asked.demand asked.forced budget) fault)

-- All classes are settled by the options, or it is told what is wrong with these.
pub record SettlesBy (P : Tables) (options : BuildOptions) (r : Result Settled BuildFault) : Type 0 where
  pub settled : IfOk r (λ settled. IsSettledAs P (text_of options.run_time) (text_of options.build_time)
      options.budget (settled_of settled))
  pub fault : IfErr r (λ fault. (fault ≡ Memory) ⊎ IsOption (OptionsFail P (text_of options.run_time)
      (text_of options.build_time) options.budget) fault)
