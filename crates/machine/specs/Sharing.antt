-- What rows lead to in the store of all threads.
use Rattle.std.specs.Prelude.{◌≡◌, ℕ, List}
use Rattle.vm_state.specs.Output.{Print}
use Rattle.vm_state.specs.SharedTables.{SharedTables}
use Rattle.vm_state.specs.declared.classes.Usability.TheVariants.{Ready}
use Rattle.vm_state.specs.Statics.{usable}
use Rattle.vm_state.specs.Shares.{shared_of}
use Rattle.vm_state.specs.SharedState.{SharedState}
use Rattle.semantics.specs.Rows.{Row, Result, Needs as NeedsClass, Waits as WaitsFor, run_row}
use Rattle.machine.specs.declared.kinds.Actor.{Actor}
use Rattle.machine.specs.declared.kinds.Stop.{Stop}
use Rattle.machine.specs.declared.kinds.Stop.TheVariants.{Needs}

abbrev pub run_shared : Actor → SharedState → Row → Result
run_shared by sh row = run_row by.thread by.maker sh row

abbrev pub stopped_shared : Stop → Result
stopped_shared (Needs c) = NeedsClass c
stopped_shared stop = WaitsFor

abbrev pub CanUseShared : Actor → SharedTables → ℕ → Type 0
CanUseShared by s c = (p : List Print) → usable by.thread ((shared_of s p).states c) ≡ Ready
