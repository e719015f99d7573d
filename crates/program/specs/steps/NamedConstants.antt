-- Constants of a run-time constant pool that an instruction may name.
use Rattle.std.specs.Prelude.{Option, Some, None}
use Rattle.program.specs.declared.runtime_constant.RuntimeConstant.{RuntimeConstant}
use Rattle.program.specs.declared.runtime_constant.RuntimeConstant.TheVariants as runtime

-- no instruction names one that is not kept
abbrev pub held_in : Option RuntimeConstant → RuntimeConstant
held_in None = runtime.Other
held_in (Some held) = held
