-- Exit statuses.
use Rattle.std.specs.Prelude.{ℕ, List, Bool, true, false, if◌then◌else◌, ⊤}
use Rattle.std.specs.List.{list_all, list_any}
use Rattle.vm_state.specs.declared.ends.Ending.{Ending}
use Rattle.vm_state.specs.declared.ends.Ending.TheVariants.{Going, Returned}
use Rattle.init_engine.specs.declared.stuck.Rest.{Rest}
use Rattle.init_engine.specs.declared.stuck.Rest.TheVariants as rests
use Rattle.cli.specs.declared.status.Status.{Status}
use Rattle.cli.specs.declared.status.Status.TheVariants.{Done, Refused, Words, Failed, Stuck, Limit, Ended}

-- what the process exits with
abbrev pub code_of : Status → ℕ
code_of Done = 0
code_of Refused = 1
code_of Words = 2
code_of Failed = 3
code_of Stuck = 4
code_of Limit = 5
code_of Ended = 6

-- the thread's main method returned
abbrev pub is_return : Ending → Bool
is_return Returned = true
is_return _ = false

-- a run's status: where all threads have ended, by whether all returned; else by whether one still has a step
abbrev pub run_status : List Ending → Rest → Status
run_status threads rests.Ended = if list_all is_return threads then Done else Ended
run_status threads rests.Stuck = Stuck
run_status threads rests.Going = Limit

-- the thread has not ended
abbrev pub is_going : Ending → Bool
is_going Going = true
is_going _ = false

-- a replay's status: where all threads have ended that of such a run, and else that of a limit
abbrev pub replay_status : List Ending → Status
replay_status threads = if list_any is_going threads then Limit else run_status threads rests.Ended

-- an audit's status: whether threads can't end for want of what is left out or not there
abbrev pub audit_status : Bool → Status
audit_status true = Done
audit_status false = Ended

-- the command did what its words ask for: nothing was refused, and nothing failed
abbrev pub IsOver : Status → Type 0
IsOver Refused = ⊥
IsOver Words = ⊥
IsOver Failed = ⊥
IsOver _ = ⊤

-- the command was not refused, so standard output may have got something
abbrev pub IsTold : Status → Type 0
IsTold Refused = ⊥
IsTold Words = ⊥
IsTold _ = ⊤
