-- What stands between two steps.
use Rattle.std.specs.Prelude.{List}
use Rattle.vm_state.specs.SharedTables.{SharedTables}
use Rattle.vm_state.specs.Output.{Print}
use Rattle.init_engine.specs.declared.world.Thread.{Thread}

pub record Standing : Type 0 where
  pub threads : List Thread
  pub shared : SharedTables
  pub printed : List Print
