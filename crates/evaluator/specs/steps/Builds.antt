-- The store of a class's initializer that runs alone, and what rows lead to in it.
use Rattle.std.specs.Prelude.{◌≡◌, ◌⊎◌, ℕ, IsSome}
use Rattle.vm_state.specs.SharedState.{Region}
use Rattle.semantics.specs.Rows.{Row}
use Rattle.semantics.specs.Programs.{Program}
use Rattle.semantics.specs.Quiet.{Environment, ForeignObject as IsForeign, OverBudget as IsOverBudget, Refused}
use Rattle.semantics.specs.Quiet.{Barred as IsBarred, Conduct, Stops}
use Rattle.machine.specs.declared.kinds.Actor.{Actor}
use Rattle.machine.specs.declared.kinds.Stop.{Stop}
use Rattle.machine.specs.declared.kinds.Stop.TheVariants.{Needs, Waits, ForeignObject, Barred, OverBudget, Memory}
use Rattle.evaluator.specs.steps.Within.{within}

-- a class's initializer, with the regions at hand, its own, how many elements may be made and how many were
pub record Building : Type 0 where
  pub program : Program
  pub environment : Environment
  pub class : ℕ
  pub most : ℕ
  pub own : Region
  pub made : ℕ

abbrev pub run_build : Actor → Building → Row → Conduct
run_build by s row = within s.program s.environment s.class s.most s.own s.made row

abbrev pub stopped_build : Stop → Conduct
stopped_build ForeignObject = Stops (Refused IsForeign)
stopped_build OverBudget = Stops (Refused IsOverBudget)
stopped_build Barred = Stops IsBarred
stopped_build (Needs c) = Stops IsBarred
stopped_build Waits = Stops IsBarred
stopped_build Memory = Stops IsBarred

abbrev pub CanUseAtBuild : Building → ℕ → Type 0
CanUseAtBuild s d = (d ≡ s.class) ⊎ IsSome (s.environment d)
