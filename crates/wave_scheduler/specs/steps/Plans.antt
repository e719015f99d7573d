-- What is known before each wave, and what the last one leaves to be told.
use Rattle.std.specs.Prelude.{◌≡◌, ℕ, List, Option}
use Rattle.graph.specs.Rows.{Rows, rows_of}
use Rattle.program.specs.Tables.{Tables}
use Rattle.use_graph.specs.steps.Bodies.{IsUseGraph}
use Rattle.initializer_analysis.specs.declared.verdict.Verdict.{Verdict}
use Rattle.wave_scheduler.specs.declared.plan.Plan.{Plan}
use Rattle.wave_scheduler.specs.declared.tainted.Tainted.{Tainted}
use Rattle.wave_scheduler.specs.declared.wave.Terms.{Terms}
use Rattle.wave_scheduler.specs.declared.wave.Wave.{Wave}
use Rattle.wave_scheduler.specs.Settled.{Settled}
use Rattle.wave_scheduler.specs.Outcomes.{settled_of, AreJudged}
use Rattle.wave_scheduler.specs.steps.Waves.{AreTriedBelow, StartsFrom, HasFirst}
use Rattle.wave_scheduler.specs.steps.Finding.{AreFirstIn}
use Rattle.wave_scheduler.specs.steps.Tainting.{AreTainted}
use Rattle.wave_scheduler.specs.steps.WaveMembers.{AreMembers, AreMembersOfAll, members_in}

-- the uses of a program, its waves, and all classes as their verdicts say
pub record IsPlan (P : Tables) (judged : List Verdict) (plan : Plan) : Type 0 where
  pub uses : IsUseGraph P plan.uses
  pub waves : AreMembersOfAll judged (rows_of plan.waves.items)
  pub starts : StartsFrom judged (settled_of plan.settled)
  pub tainted : AreTainted P (settled_of plan.settled) plan.tainted

-- the classes of waves below n are tried, and what is seen depends on one that is not accepted
pub record StandsBefore (terms : Terms) (n : ℕ) (S : Settled) (t : Tainted) : Type 0 where
  pub tried : AreTriedBelow terms.program.now terms.budget terms.verdicts.now n S
  pub tainted : AreTainted terms.program.now S t

-- so it is before a wave, which has its classes by the verdicts on all
pub record CanTry (wave : Wave) (S : Settled) (t : Tainted) : Type 0 where
  pub judged : AreJudged wave.terms.program.now wave.terms.verdicts.now
  pub members : AreMembers wave.terms.verdicts.now wave.number wave.classes.now
  pub tried : AreTriedBelow wave.terms.program.now wave.terms.budget wave.terms.verdicts.now wave.number S
  pub tainted : AreTainted wave.terms.program.now S t

-- so it is before the first wave, where all waves have these classes
pub record CanTryAll (terms : Terms) (waves : Rows) (S : Settled) (t : Tainted) : Type 0 where
  pub judged : AreJudged terms.program.now terms.verdicts.now
  pub members : AreMembersOfAll terms.verdicts.now waves
  pub tried : AreTriedBelow terms.program.now terms.budget terms.verdicts.now 0 S
  pub tainted : AreTainted terms.program.now S t

-- the wave of this number, with its classes
pub record IsNthWave (given : Terms) (waves : Rows) (n : ℕ) (wave : Wave) : Type 0 where
  pub terms : wave.terms ≡ given
  pub number : wave.number ≡ n
  pub classes : wave.classes.now ≡ members_in waves n

-- each class that depends on refused ones is given the first such
abbrev pub GivesFirst : Tables → Settled → Settled → Type 0
GivesFirst P old new = (first : List (Option ℕ)) × AreFirstIn P old first × HasFirst first old new
