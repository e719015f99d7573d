-- A class that can be settled by the regions that its initializer is lent does the same with all that are at hand.
use Rattle.std.proofs.Common.{◌≡◌, ℕ, ◌≤◌, Bool, true, false, cond, ◌==◌, inl, inr, Option, Some, None}
use Rattle.std.proofs.Common.{is_some, option_map, refl, subst, eqb-true, arith}
use Rattle.std.proofs.lemmas.Bool.{or_right}
use Rattle.vm_state.specs.declared.value.Maker.{Maker}
use Rattle.vm_state.specs.declared.value.Maker.TheVariants.{Class, Thread}
use Rattle.vm_state.specs.SharedState.{Region}
use Rattle.semantics.specs.Rows.{Named}
use Rattle.semantics.specs.Quiet.{Environment, pool_seen, Refusal, Stop, Refused, Barred}
use Rattle.semantics.specs.Settling.{Settles, StoppedBy}
use Rattle.semantics.specs.Soundness.{is_made_at_hand, names_at_hand, IsClosed}
use Rattle.semantics.proofs.EnvironmentsLemmas.{settles-wider}
use Rattle.semantics.proofs.KnownNamesLemmas.{Fewer, Knows-mono, KnowsSlots-mono}
use Rattle.semantics.proofs.OneRunLemmas.{settles_once}
use Rattle.semantics.proofs.PoolsLemmas.{fixed_at-holds}
use Rattle.semantics.proofs.RefusalsLemmas.{stop_excludes_lem, one_stop_lem, settles_or_stops_lem}
use Rattle.program.specs.Tables.{Tables}
use Rattle.machine.specs.Linked.{program_of}
use Rattle.region_shape.specs.Counts.{is_held, is_there}
use Rattle.region_shape.specs.Laws.{IsLinked, IsFromFile}
use Rattle.region_shape.proofs.LawsLemmas.{settled_have_shape_lem, settled_are_within_lem, settled_name_objects_lem}
use Rattle.region_shape.proofs.LawsLemmas.{settled_hold_all_lem}
use Rattle.region_shape.proofs.NamesLemmas.{names_wider}
use Rattle.region_shape.proofs.TextsLemmas.{settled_have_texts_lem}
use Rattle.use_graph.specs.Uses.{IsUse}
use Rattle.use_graph.proofs.LawsLemmas.{stops_by_code_lem}
use Rattle.evaluator.specs.Settleable.{IsSettleable, IsWhole, SettleableAreUnbarred}
use Rattle.evaluator.proofs.WiderStopsLemmas.{stopped-wider}

-- where there are objects, a region is at hand
some_holds : (o : Option Region) (n : ℕ) → is_held (option_map (λ (r : Region). r.pool) o) n ≡ true
    → is_some o ≡ true
some_holds None n h = cc
some_holds (Some r) n h = refl

module _ (P : Tables) (linked : IsLinked P) (env : Environment) (c : ℕ) (can : IsSettleable P env c) where
  -- an object that there is was made by a class at hand
  there_at_hand : (d : ℕ) (r : Region) → can.lent d ≡ Some r
      → Fewer (is_there can.lent d r) (names_at_hand can.lent c)
  there_at_hand d r at x h = by x.maker h
    where
      by_class : (b : Bool) (e : ℕ) → (e == d) ≡ b
          → is_held (cond b (Some r.pool) (option_map (λ (q : Region). q.pool) (can.lent e))) x.number ≡ true
          → is_some (can.lent e) ≡ true
      by_class true e same h = rw (eqb-true e d same, at) refl
      by_class false e same h = some_holds (can.lent e) x.number h

      by : (maker : Maker) → is_held (pool_seen can.lent d r maker) x.number ≡ true
          → is_made_at_hand can.lent c maker ≡ true
      by (Thread t) h = cc
      by (Class e) h = or_right (e == c) (is_some (can.lent e)) (by_class (e == d) e refl h)

  closed : IsClosed (program_of P) (IsUse P c) can.lent c
  closed = record {
    finals = λ d f r used at final.
        Knows-mono (is_there can.lent d r) (names_at_hand can.lent c) (there_at_hand d r at) (r.fields f)
        ((can.whole.closed d r at).statics f);
    named = λ d n r at.
        KnowsSlots-mono (is_there can.lent d r) (names_at_hand can.lent c) (there_at_hand d r at) _
        (fixed_at-holds (is_there can.lent d r) (program_of P) Named r.pool n (can.whole.closed d r at).slots);
  }

  -- what stops it with the regions that it is lent is a refusal, and with more it is refused for the same reason
  refused_so : (budget : ℕ) (stop : Stop) → StoppedBy (program_of P) can.lent c budget stop
      → (why : Refusal) × StoppedBy (program_of P) env c budget (Refused why)
  refused_so budget stop stops =
      let (why, same) =
      stops_by_code_lem P linked.program linked.family linked.within can.lent c can.given
      (λ mark barring has. can.unmarked mark has) can.uses closed budget stop stops in (
        why,
        stopped-wider (program_of P) can.lent env can.at_hand c budget why
            (subst (StoppedBy (program_of P) can.lent c budget) same stops),
      )

  settles_lent : (n : ℕ) (region : Region) → Settles (program_of P) env c n region
      → Settles (program_of P) can.lent c n region
  settles_lent n region settles = elim (settles_or_stops_lem (program_of P) can.lent c n) [
    | inl (price, other, also, few) ↦
        let there = settles-wider (program_of P) can.lent env can.at_hand c price other also in
        let same = settles_once (program_of P) env c price n other region there settles in
        subst (λ (r : Region). Settles (program_of P) can.lent c n r) same.1
        (subst (λ (k : ℕ). Settles (program_of P) can.lent c k other) same.0 also)
    | inr (stop, stops) ↦
        let (why, also) = refused_so n stop stops in
        absurd (stop_excludes_lem (program_of P) env c n n region (Refused why) settles (omega arith) also)
  ]

  pub unbarred : (budget : ℕ) → StoppedBy (program_of P) env c budget Barred → ⊥
  unbarred budget stopped = elim (settles_or_stops_lem (program_of P) can.lent c budget) [
    | inl (price, other, also, few) ↦
        stop_excludes_lem (program_of P) env c price budget other Barred
        (settles-wider (program_of P) can.lent env can.at_hand c price other also) few stopped
    | inr (stop, stops) ↦
        let (why, also) = refused_so budget stop stops in
        let clash : Barred ≡ Refused why =
        one_stop_lem (program_of P) env c budget Barred (Refused why) stopped also in
        cc
  ]

  pub leaves_whole : IsFromFile P c → (budget n : ℕ) (region : Region) → Settles (program_of P) env c n region
      → n ≤ budget → IsWhole P env c budget region
  leaves_whole from budget n region settles within =
      let there = settles_lent n region settles in
      let size = settled_are_within_lem P linked can.lent can.whole.shape c n region from there in
      record {
        shape = settled_have_shape_lem P linked can.lent can.whole.shape c n region from there;
        names = names_wider can.lent env c region can.at_hand
            (settled_name_objects_lem P linked.program can.lent can.whole.closed c n region can.apart there);
        all = settled_hold_all_lem P can.lent c n region there;
        texts = settled_have_texts_lem P linked.program can.lent can.whole.texts c n region there;
        size = record {
          count = omega (arith, size.count, within);
          arrays = λ k o at. omega (arith, size.arrays k o at, within);
        };
      }

pub settleable_are_unbarred_lem : SettleableAreUnbarred
settleable_are_unbarred_lem P linked env c budget can = unbarred P linked env c can budget
