use Rattle.std.proofs.Common.{◌-◌, ◌+◌, vec_len}
use Rattle.place_set.proofs.FlagsLemmas.{FlagSame}
use Rattle.place_set.proofs.set.keep_flags.Given as goal

abbrev pub invariant-loop-alloc : goal.invariant-loop-alloc
invariant-loop-alloc l = FlagSame l.fn.flags.items l.flags.items

abbrev pub decreases-loop-alloc : goal.decreases-loop-alloc
decreases-loop-alloc l = l.row + 1 - vec_len l.flags
