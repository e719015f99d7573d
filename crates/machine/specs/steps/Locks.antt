-- What the use of a monitor comes to, in the words of the definition of a row.
use Rattle.std.specs.Prelude.{true, false}
use Rattle.vm_state.specs.declared.object.Monitor.{Monitor}
use Rattle.semantics.specs.Rows.{Lock as LockOf, Blocked as BlockedBy, Answered}
use Rattle.machine.specs.declared.monitors.Lock.{Lock}
use Rattle.machine.specs.declared.monitors.Lock.TheVariants.{Blocked, Refused, Done}

-- of a monitor that was so
abbrev pub lock_of : Monitor → Lock → LockOf
lock_of m Blocked = BlockedBy
lock_of m Refused = Answered false m
lock_of m (Done new) = Answered true new
