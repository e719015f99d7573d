-- What is known before each wave.
use Rattle.std.proofs.Common.{ℕ}
use Rattle.graph.specs.Rows.{Rows}
use Rattle.wave_scheduler.specs.declared.tainted.Tainted.{Tainted}
use Rattle.wave_scheduler.specs.declared.wave.Terms.{Terms}
use Rattle.wave_scheduler.specs.declared.wave.Wave.{Wave}
use Rattle.wave_scheduler.specs.Settled.{Settled}
use Rattle.wave_scheduler.specs.steps.Plans.{CanTry, CanTryAll, IsNthWave, StandsBefore}

-- it can be tried after those below
pub can_try : (terms : Terms) (waves : Rows) (n : ℕ) (wave : Wave) (first S : Settled) (begun t : Tainted)
    → CanTryAll terms waves first begun → IsNthWave terms waves n wave → StandsBefore terms n S t
    → CanTry wave S t
can_try terms waves n wave first S begun t all is before = record {
  judged = rw is.terms all.judged;
  members = rw (is.terms, is.number, is.classes) (all.members n);
  tried = rw (is.terms, is.number) before.tried;
  tainted = rw is.terms before.tainted;
}
