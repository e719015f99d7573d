-- One thing becomes of all classes: which marks stand for the classes that are forced makes no difference.
use Rattle.std.proofs.Common.{ℕ, Bool, List, IsTrue, ◌≡◌}
use Rattle.program.specs.Tables.{Tables}
use Rattle.initializer_analysis.specs.Forced.{has_class}
use Rattle.initializer_analysis.specs.declared.verdict.Reason.{Reason}
use Rattle.initializer_analysis.specs.declared.verdict.Reason.TheVariants as reasons
use Rattle.initializer_analysis.specs.Verdicts.{Holds, NoneHolds}
use Rattle.wave_scheduler.specs.Settled.{Outcome, Wave, Refused, Stopped, Settled, IsOutcome, AreSettled}
use Rattle.wave_scheduler.proofs.OneSettledLemmas.{one_settled_lem}
use Rattle.options.specs.Classes.{AreClasses, IsForced}
use Rattle.building.specs.Builds.{patterns_in}
use Rattle.building.specs.Laws.{OneSettledAs}

-- a class of one of these sets is one of the other
abbrev pub IsWithin : List Bool → List Bool → Type 0
IsWithin a b = (c : ℕ) → IsTrue (has_class a c) → IsTrue (has_class b c)

pub same_classes : (P : ℕ → Type 0) (a b : List Bool) → AreClasses a P → AreClasses b P → IsWithin a b
same_classes P a b is also = λ c held. (also c).1 ((is c).0 held)

module _ (P : Tables) where
  holds_with : (f g : List Bool) → IsWithin f g → (c : ℕ) (reason : Reason) → Holds P f c reason → Holds P g c reason
  holds_with f g there c reasons.Forced holds = there c holds
  holds_with f g there c (reasons.Marked mark) holds = holds
  holds_with f g there c reasons.Cycle holds = holds
  holds_with f g there c reason holds = absurd holds

  none_with : (f g : List Bool) → IsWithin g f → (c : ℕ) → NoneHolds P f c → NoneHolds P g c
  none_with f g back c none = λ reason holds. none reason (holds_with g f back c reason holds)

  outcome_with : (f g : List Bool) (budget : ℕ) (S : Settled) → IsWithin f g → IsWithin g f → (c : ℕ) (o : Outcome)
      → IsOutcome P f budget S c o → IsOutcome P g budget S c o
  outcome_with f g budget S there back c (Wave n) (none, wave, r, has, leaves) =
      (none_with f g back c none, wave, r, has, leaves)
  outcome_with f g budget S there back c (Stopped why) (none, n, wave, stops) =
      (none_with f g back c none, n, wave, stops)
  outcome_with f g budget S there back c (Refused (reasons.DependsOn e)) (none, least) =
      (none_with f g back c none, least)
  outcome_with f g budget S there back c (Refused reason) (holds, least) =
      (holds_with f g there c reason holds, λ other held. least other (holds_with g f back c other held))

  settled_with : (f g : List Bool) (budget : ℕ) (S : Settled) → IsWithin f g → IsWithin g f
      → AreSettled P f budget S → AreSettled P g budget S
  settled_with f g budget S there back are = record {
    count = are.count;
    each = λ c o at. outcome_with f g budget S there back c o (are.each c o at);
    regions = are.regions;
    only = are.only;
  }

  pub same_settled : (run : List (List ℕ)) (budget : ℕ) (R S : Settled) (f g : List Bool)
      → AreClasses f (IsForced P.family run) → AreClasses g (IsForced P.family run) → AreSettled P f budget R
      → AreSettled P g budget S → R ≡ S
  same_settled run budget R S f g is also one other =
      one_settled_lem P g budget R S
      (settled_with f g budget R (same_classes (IsForced P.family run) f g is also)
      (same_classes (IsForced P.family run) g f also is) one)
      other

pub one_settled_as_lem : OneSettledAs
one_settled_as_lem P run build budget R S one other =
    same_settled P (patterns_in run) budget R S one.patterns.forced other.patterns.forced one.patterns.are
    other.patterns.are one.patterns.settled other.patterns.settled
