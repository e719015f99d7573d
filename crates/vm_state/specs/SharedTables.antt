-- The tables of what threads share.
use Rattle.std.specs.Prelude.{List}
use Rattle.vm_state.specs.declared.classes.ClassArea.{ClassArea}
use Rattle.vm_state.specs.declared.heap.Heap.{Heap}

pub record SharedTables : Type 0 where
  pub classes : List ClassArea
  pub heap : Heap
