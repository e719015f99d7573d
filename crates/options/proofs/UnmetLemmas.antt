-- Classes that are demanded and not accepted.
use Rattle.std.proofs.Common.{◌≡◌, ℕ, ◌+◌, ◌<◌, inl, inr, Bool, List, length, option_map, IsTrue}
use Rattle.std.proofs.Common.{Option, Some, None, slice_get, refl, sym, ap, ◌∙◌, subst, arith}
use Rattle.std.proofs.lemmas.Bool.{cases_lt}
use Rattle.std.proofs.lemmas.Option.{slice_get-map}
use Rattle.loading.specs.declared.given.GivenClass.{GivenClass}
use Rattle.program.specs.Tables.{Tables}
use Rattle.program.specs.Programs.{IsProgram, IsLinkedClass}
use Rattle.program.specs.declared.class.Class.{Class}
use Rattle.std.proofs.lemmas.Slice.Zip.{AllZip-long}
use Rattle.initializer_analysis.specs.Forced.{has_class}
use Rattle.initializer_analysis.specs.declared.verdict.Reason.{Reason}
use Rattle.initializer_analysis.specs.declared.verdict.Verdict.{Verdict}
use Rattle.initializer_analysis.specs.declared.verdict.Verdict.TheVariants as verdicts
use Rattle.wave_scheduler.specs.declared.outcome.Settled.{Settled as Answer}
use Rattle.wave_scheduler.specs.Outcomes.{outcome_of, settled_of}
use Rattle.wave_scheduler.specs.Settled.{Wave}
use Rattle.wave_scheduler.proofs.FindingLemmas.{accepted_or, refused_or}
use Rattle.options.specs.Demands.{AreMet, IsUnmet, unmet}
use Rattle.options.specs.steps.Unmet.{IsUnmetOf, NoneUnacceptedBelow, NamesUnmet, named}
use Rattle.options.specs.declared.fault.OptionFault.{OptionFault}

module _ (P : Tables) (demand : List Bool) (s : Answer) where
  seen_at : (c : ℕ) (v : Verdict) → slice_get s.verdicts c ≡ Some v
      → slice_get (settled_of s).outcomes c ≡ Some (outcome_of v)
  seen_at c v at = slice_get-map outcome_of s.verdicts c ∙ ap (option_map outcome_of) at

  pub none_off_more : (c : ℕ) (r : Option Reason) → r ≡ None → NoneUnacceptedBelow demand (settled_of s) c
      → IsUnmetOf s.verdicts demand c r → NoneUnacceptedBelow demand (settled_of s) (c + 1)
  none_off_more c None none before fine d low (held, never) = elim (cases_lt d c) [
    | inl below ↦ before d below (held, never)
    | inr past ↦
        let same : d ≡ c = omega arith in
        let (n, at) = fine (subst (λ (x : ℕ). IsTrue (has_class demand x)) same held) in
        never (
          n,
          subst (λ (x : ℕ). slice_get (settled_of s).outcomes x ≡ Some (Wave n)) (sym same)
              (seen_at c (verdicts.Wave n) at),
        )
  ]
  none_off_more c (Some o) none before fine d low both = absurd (let clash : Some o ≡ None = none in cc)

  pub all_met : (limit : ℕ) → limit ≡ length P.classes → NoneUnacceptedBelow demand (settled_of s) limit
      → AreMet P demand (settled_of s)
  all_met limit end before c low held = elim (accepted_or (settled_of s) c) [
    | inl accepted ↦ accepted
    | inr never ↦ absurd (before c (omega arith) (held, never))
  ]

  pub one_unmet : (c limit : ℕ) (o : Reason) (fault : OptionFault) → limit ≡ length P.classes → c < limit
      → NoneUnacceptedBelow demand (settled_of s) c → IsUnmetOf s.verdicts demand c (Some o)
      → NamesUnmet P.family c o fault → IsUnmet P demand (settled_of s) fault
  one_unmet c limit o _ end low before (held, at) (named is of_used) =
      let there = seen_at c (verdicts.Refused o) at in
      unmet (record {
        low = omega arith;
        here = (held, (refused_or (settled_of s) c (verdicts.Refused o) there).0 refl);
        before = before;
      }) there is of_used

pub as_many : (P : Tables) → IsProgram P → length P.classes ≡ length P.family
as_many P is =
    AllZip-long (λ (given : GivenClass) (class : Class). IsLinkedClass P.family P.strings given.file class)
    P.family P.classes
    is.classes
