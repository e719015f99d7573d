-- What one instruction of an initializer did, in the words of runs alone.
use Rattle.std.specs.Prelude.{◌≡◌, ◌≤◌, ℕ, ◌+◌, ◌-◌, List, [], Option, Some, None, Ok, Err}
use Rattle.std.specs.declared.result.Result.{Result}
use Rattle.vm_state.specs.declared.frame.Frame.{Frame}
use Rattle.vm_state.specs.SharedState.{Region}
use Rattle.semantics.specs.Programs.{Program}
use Rattle.semantics.specs.Quiet.{Environment, Stop, Conduct}
use Rattle.semantics.specs.Alone.{RunsAlone, StopsAlone}
use Rattle.machine.specs.Accesses.{unless_refused, concluded}
use Rattle.machine.specs.declared.kinds.Conclusion.{Conclusion}
use Rattle.machine.specs.declared.kinds.Stop.{Stop as Reason}
use Rattle.evaluator.specs.declared.outcome.Halt.{Halt}
use Rattle.evaluator.specs.declared.step.Progress.{Progress}
use Rattle.evaluator.specs.declared.step.Progress.TheVariants.{On, Over, Stopped}
use Rattle.evaluator.specs.Outcomes.{stop_of}
use Rattle.evaluator.specs.steps.Builds.{Building, stopped_build}
use Rattle.evaluator.specs.steps.Within.{within}

-- an instruction of this conduct had this result, with this frame and this left to build with
abbrev pub Performs : Conduct → Building → Frame → Result Conclusion Reason → Type 0
Performs conduct b f (Ok conclusion) =
    conduct ≡ within b.program b.environment b.class b.most b.own b.made (concluded conclusion f)
Performs conduct b f (Err stop) = unless_refused stop conduct ≡ unless_refused stop (stopped_build stop)

-- An initializer of these frames and this region, with so much left to pay, goes on with these and those, with so much
-- left.
pub record GoesOn (P : Program) (env : Environment) (c : ℕ) (fs : List Frame) (own : Region) (left : ℕ)
    (gs : List Frame) (new : Region) (rest : ℕ) : Type 0 where
  pub cost : ℕ
  pub paid : left ≡ cost + rest
  pub runs : (n : ℕ) (last : Region) → RunsAlone P env c gs new n last → RunsAlone P env c fs own (cost + n) last
  pub stops : (stop : Stop) → StopsAlone P env c gs new rest stop → StopsAlone P env c fs own left stop

-- what an instruction did
abbrev pub IsProgress : Program → Environment → ℕ → List Frame → Region → ℕ → Progress → List Frame → Region → ℕ
    → Type 0
IsProgress P env c fs own left On gs new rest = GoesOn P env c fs own left gs new rest
IsProgress P env c fs own left Over gs new rest = GoesOn P env c fs own left [] new rest
IsProgress P env c fs own left (Stopped halt) gs new rest = StopsAlone P env c fs own left (stop_of halt)

-- how frames of an initializer ended within a budget
abbrev pub IsEnd : Program → Environment → ℕ → List Frame → Region → ℕ → Option Halt → Region → Type 0
IsEnd P env c fs own budget None last = (n : ℕ) × RunsAlone P env c fs own n last × (n ≤ budget)
IsEnd P env c fs own budget (Some halt) last = StopsAlone P env c fs own budget (stop_of halt)
