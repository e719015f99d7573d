-- Options have one fault, and none where all classes are settled by them.
use Rattle.std.proofs.Common.{◌≡◌, ℕ, ◌<◌, Bool, List, [], Option, Some, None, slice_get, take, string_bytes}
use Rattle.std.proofs.Common.{inl, inr, refl, sym, ap, subst, ◌∙◌, arith}
use Rattle.std.specs.List.{All}
use Rattle.std.specs.Option.{option_map}
use Rattle.std.proofs.lemmas.Bool.{cases_lt}
use Rattle.std.proofs.lemmas.List.Elements.{All-contains}
use Rattle.std.proofs.lemmas.Option.{slice_get_within, get_or_from_slice_get}
use Rattle.semantics.specs.Quiet as quiet
use Rattle.semantics.proofs.TestsLemmas.{from_some}
use Rattle.classfile.specs.Units.{units_text}
use Rattle.loading.specs.Families.{Family, name_in}
use Rattle.loading.proofs.UnitsLemmas.{same_units}
use Rattle.program.specs.Tables.{Tables}
use Rattle.initializer_analysis.specs.declared.verdict.Reason.{Reason}
use Rattle.initializer_analysis.specs.declared.verdict.Reason.TheVariants as reasons
use Rattle.initializer_analysis.specs.declared.verdict.Verdict.TheVariants as verdicts
use Rattle.wave_scheduler.specs.Settled.{Outcome, Wave, Refused, Stopped, Settled, AreSettled}
use Rattle.wave_scheduler.specs.Outcomes.{outcome_of}
use Rattle.options.proofs.ListLemmas.{into_among}
use Rattle.options.specs.Lists.{items_of, IsNonEmpty, empty}
use Rattle.options.specs.Classes.{AreClasses, IsDemanded, IsForced}
use Rattle.options.specs.Demands.{AreMet, IsUnaccepted, IsUnmet, used_name}
use Rattle.options.specs.Demands as demands
use Rattle.options.specs.Faults.{AreApart, IsBoth, IsKnown, IsOfBoth, PatternsFail, DemandFails}
use Rattle.options.specs.Faults as wrong
use Rattle.options.specs.declared.fault.OptionFault.{OptionFault}
use Rattle.options.specs.declared.fault.OptionFault.TheVariants.{Empty, Both, Demanded}
use Rattle.building.specs.Builds.{IsRead, patterns_in, AreDemandsMet}
use Rattle.building.specs.Refusals.{IsListFault, ListsFail, DemandsFail, ForcingFails, OptionsFail}
use Rattle.building.specs.Refusals as fails
use Rattle.building.specs.Laws.{OneFault, SaysTheSame, SettledHaveNoFault}
use Rattle.building.proofs.OneSettledLemmas.{IsWithin, same_classes, same_settled}

-- ---- the first of a list

pub at_all : {A : Type 0} (P : A → Type 0) (xs : List A) (k : ℕ) (x : A) → slice_get xs k ≡ Some x → All P xs → P x
at_all P xs k x at all =
    All-contains P xs x all (k, slice_get_within xs k x at, get_or_from_slice_get xs k x x at)

at_before : {A : Type 0} (P : A → Type 0) (xs : List A) (k n : ℕ) (x : A) → k < n → slice_get xs k ≡ Some x
    → All P (take n xs) → P x
at_before P xs k n x less at all = All-contains P (take n xs) x all (into_among xs n k x less at)

one_place : {A : Type 0} (P : A → Type 0) (xs : List A) (i j : ℕ) (x y : A) → slice_get xs i ≡ Some x
    → slice_get xs j ≡ Some y → (P x → ⊥) → (P y → ⊥) → All P (take i xs) → All P (take j xs) → i ≡ j
one_place P xs i j x y at_i at_j bad_x bad_y before_i before_j =
    elim (cases_lt i j) [
      | inl less ↦ absurd (bad_x (at_before P xs i j x less at_i before_j))
      | inr past ↦ elim (cases_lt j i) [
        | inl less ↦ absurd (bad_y (at_before P xs j i y less at_j before_i))
        | inr back ↦ omega arith
      ]
    ]

one_number : (P Q : ℕ → Type 0) (i j : ℕ) → P i → Q j → ((n : ℕ) → P n → Q n) → ((n : ℕ) → Q n → P n)
    → ((n : ℕ) → n < i → P n → ⊥) → ((n : ℕ) → n < j → Q n → ⊥) → i ≡ j
one_number P Q i j p q there back before_i before_j =
    elim (cases_lt i j) [
      | inl less ↦ absurd (before_j i less (there i p))
      | inr past ↦ elim (cases_lt j i) [
        | inl less ↦ absurd (before_i j less (back j q))
        | inr up ↦ omega arith
      ]
    ]

-- ---- lists

no_list_fault : (list : Option (List ℕ)) (fault : OptionFault) → IsRead list → IsListFault list fault → ⊥
no_list_fault None fault read bad = bad
no_list_fault (Some text) fault read (empty {place} at) =
    at_all IsNonEmpty (items_of text) place [] at.here read refl

one_list_fault : (list : Option (List ℕ)) (x y : OptionFault) → IsListFault list x → IsListFault list y
    → SaysTheSame x y
one_list_fault None x y bad other = absurd bad
one_list_fault (Some text) x y (empty {place = i} one) (empty {place = j} other) =
    ap (λ (place : ℕ). Empty place)
    (one_place IsNonEmpty (items_of text) i j [] [] one.here other.here (λ full. full refl) (λ full. full refl)
    one.before other.before)

no_lists_fault : (run build : Option (List ℕ)) (fault : OptionFault) → IsRead run → IsRead build
    → ListsFail run build fault → ⊥
no_lists_fault run build fault read also (fails.first bad) = no_list_fault run fault read bad
no_lists_fault run build fault read also (fails.second well bad) = no_list_fault build fault also bad

one_lists_fault : (run build : Option (List ℕ)) (x y : OptionFault) → ListsFail run build x → ListsFail run build y
    → SaysTheSame x y
one_lists_fault run build x y (fails.first bad) (fails.first other) = one_list_fault run x y bad other
one_lists_fault run build x y (fails.first bad) (fails.second well other) = absurd (no_list_fault run x well bad)
one_lists_fault run build x y (fails.second well bad) (fails.first other) = absurd (no_list_fault run y well other)
one_lists_fault run build x y (fails.second well bad) (fails.second also other) = one_list_fault build x y bad other

-- ---- patterns

no_unknown : (family : Family) (patterns : List (List ℕ)) (fault : OptionFault) → All (IsKnown family) patterns
    → PatternsFail family patterns fault → ⊥
no_unknown family patterns fault known (wrong.unknown {text} at) =
    at.unknown (at_all (IsKnown family) patterns at.place (string_bytes text) at.here known)

one_unknown : (family : Family) (patterns : List (List ℕ)) (x y : OptionFault) → PatternsFail family patterns x
    → PatternsFail family patterns y → SaysTheSame x y
one_unknown family patterns x y (wrong.unknown {text = a} one) (wrong.unknown {text = b} other) =
    let same : one.place ≡ other.place =
    one_place (IsKnown family) patterns one.place other.place (string_bytes a) (string_bytes b) one.here other.here
    one.unknown other.unknown one.before other.before in
    from_some (sym one.here ∙ ap (λ (k : ℕ). slice_get patterns k) same ∙ other.here)

-- ---- demands, by two sets of the same forced classes

one_both : (family : Family) (P : ℕ → Type 0) (f g : List Bool) (x y : OptionFault) → IsWithin f g → IsWithin g f
    → IsOfBoth family P f x → IsOfBoth family P g y → SaysTheSame x y
one_both family P f g x y there back (wrong.both {class = c} {name = a} one named)
    (wrong.both {class = d} {name = b} other also) =
    let same : c ≡ d =
    one_number (IsBoth P f) (IsBoth P g) c d one.here other.here (λ n held. (held.0, there n held.1))
    (λ n held. (held.0, back n held.1)) one.before other.before in
    ap (λ (name : List ℕ). Both name)
    (same_units a b (from_some (sym named ∙ ap (λ (k : ℕ). name_in family k) same ∙ also)))

no_both : (family : Family) (P : ℕ → Type 0) (f g : List Bool) (fault : OptionFault) → IsWithin g f → AreApart P f
    → IsOfBoth family P g fault → ⊥
no_both family P f g fault back apart (wrong.both {class = c} one named) =
    apart c (one.here.0, back c one.here.1)

no_demand_fault : (family : Family) (patterns : List (List ℕ)) (f g : List Bool) (fault : OptionFault)
    → IsWithin g f → All (IsKnown family) patterns → AreApart (IsDemanded family patterns) f
    → DemandFails family patterns g fault → ⊥
no_demand_fault family patterns f g fault back known apart (wrong.unmatched bad) =
    no_unknown family patterns fault known bad
no_demand_fault family patterns f g fault back known apart (wrong.overlapping also bad) =
    no_both family (IsDemanded family patterns) f g fault back apart bad

one_demand_fault : (family : Family) (patterns : List (List ℕ)) (f g : List Bool) (x y : OptionFault) → IsWithin f g
    → IsWithin g f → DemandFails family patterns f x → DemandFails family patterns g y → SaysTheSame x y
one_demand_fault family patterns f g x y there back (wrong.unmatched bad) (wrong.unmatched other) =
    one_unknown family patterns x y bad other
one_demand_fault family patterns f g x y there back (wrong.unmatched bad) (wrong.overlapping known other) =
    absurd (no_unknown family patterns x known bad)
one_demand_fault family patterns f g x y there back (wrong.overlapping known bad) (wrong.unmatched other) =
    absurd (no_unknown family patterns y known other)
one_demand_fault family patterns f g x y there back (wrong.overlapping known bad) (wrong.overlapping also other) =
    one_both family (IsDemanded family patterns) f g x y there back bad other

-- ---- classes that are not accepted, by two sets of the same demanded classes

-- the reason of an outcome
abbrev reason_of : Outcome → Reason
reason_of (Wave n) = reasons.Forced
reason_of (Refused reason) = reason
reason_of (Stopped quiet.Raised) = reasons.Raised
reason_of (Stopped quiet.ForeignObject) = reasons.ForeignObject
reason_of (Stopped quiet.OverBudget) = reasons.Budget
reason_of (Stopped quiet.Faulted) = reasons.Faulted

told_back : (reason : Reason) → reason_of (outcome_of (verdicts.Refused reason)) ≡ reason
told_back reasons.Raised = refl
told_back reasons.ForeignObject = refl
told_back reasons.Budget = refl
told_back reasons.Faulted = refl
told_back reason = refl

same_reason : (a b : Reason) → outcome_of (verdicts.Refused a) ≡ outcome_of (verdicts.Refused b) → a ≡ b
same_reason a b same = sym (told_back a) ∙ ap (λ (o : Outcome). reason_of o) same ∙ told_back b

same_used : (a b : Option (List ℕ)) → option_map units_text a ≡ option_map units_text b → a ≡ b
same_used None None same = refl
same_used None (Some n) same = absurd cc
same_used (Some m) None same = absurd cc
same_used (Some m) (Some n) same = ap Some (same_units m n (from_some same))

no_unmet : (P : Tables) (demand made : List Bool) (S : Settled) (fault : OptionFault) → IsWithin made demand
    → AreMet P demand S → IsUnmet P made S fault → ⊥
no_unmet P demand made S fault there met (demands.unmet {class = c} one at named by) =
    one.here.1 (met c one.low (there c one.here.0))

one_unmet : (P : Tables) (a b : List Bool) (S : Settled) (x y : OptionFault) → IsWithin a b → IsWithin b a
    → IsUnmet P a S x → IsUnmet P b S y → SaysTheSame x y
one_unmet P a b S x y there back (demands.unmet {class = c} {name = m} {reason = r} {used = u} one at named by)
    (demands.unmet {class = d} {name = n} {reason = q} {used = v} other there_at also too) =
    let same : c ≡ d =
    one_number (IsUnaccepted a S) (IsUnaccepted b S) c d one.here other.here (λ k held. (there k held.0, held.1))
    (λ k held. (back k held.0, held.1)) one.before other.before in
    let names : m ≡ n = same_units m n (from_some (sym named ∙ ap (λ (k : ℕ). name_in P.family k) same ∙ also)) in
    let reasons_same : r ≡ q =
    same_reason r q (from_some (sym at ∙ ap (λ (k : ℕ). slice_get S.outcomes k) same ∙ there_at)) in
    let used_same : u ≡ v =
    same_used u v (sym by ∙ ap (λ (reason : Reason). used_name P.family reason) reasons_same ∙ too) in
    ap (λ (name : List ℕ). Demanded name (record { reason = r; used = u })) names
    ∙ ap (λ (reason : Reason). Demanded n (record { reason = reason; used = u })) reasons_same
    ∙ ap (λ (used : Option (List ℕ)). Demanded n (record { reason = q; used = used })) used_same

-- ---- stage by stage

module _ (P : Tables) (run build : List (List ℕ)) (budget : ℕ) (f g : List Bool)
    (is : AreClasses f (IsForced P.family run)) (also : AreClasses g (IsForced P.family run)) where
  there : IsWithin f g
  there = same_classes (IsForced P.family run) f g is also

  back : IsWithin g f
  back = same_classes (IsForced P.family run) g f also is

  no_demands_fault : (S : Settled) (fault : OptionFault) → AreSettled P f budget S → AreDemandsMet P build f S
      → DemandsFail P build g budget fault → ⊥
  no_demands_fault S fault settled by (fails.wrong bad) =
      no_demand_fault P.family build f g fault back by.known by.apart bad
  no_demands_fault S fault settled by (fails.unmet demand known are apart left) =
      let same : left.last ≡ S = same_settled P run budget left.last S g f also is left.settled settled in
      no_unmet P by.demand demand S fault (same_classes (IsDemanded P.family build) demand by.demand are by.are) by.met
      (subst (λ (R : Settled). IsUnmet P demand R fault) same left.unmet)

  one_demands_fault : (x y : OptionFault) → DemandsFail P build f budget x → DemandsFail P build g budget y
      → SaysTheSame x y
  one_demands_fault x y (fails.wrong bad) (fails.wrong other) =
      one_demand_fault P.family build f g x y there back bad other
  one_demands_fault x y (fails.wrong bad) (fails.unmet demand known are apart left) =
      absurd (no_demand_fault P.family build g f x there known apart bad)
  one_demands_fault x y (fails.unmet demand known are apart left) (fails.wrong other) =
      absurd (no_demand_fault P.family build f g y back known apart other)
  one_demands_fault x y (fails.unmet demand known are apart left) (fails.unmet made knew be overlapping gone) =
      let same : left.last ≡ gone.last =
      same_settled P run budget left.last gone.last f g is also left.settled gone.settled in
      one_unmet P demand made gone.last x y (same_classes (IsDemanded P.family build) demand made are be)
      (same_classes (IsDemanded P.family build) made demand be are)
      (subst (λ (R : Settled). IsUnmet P demand R x) same left.unmet) gone.unmet

one_forcing_fault : (P : Tables) (run build : List (List ℕ)) (budget : ℕ) (x y : OptionFault)
    → ForcingFails P run build budget x → ForcingFails P run build budget y → SaysTheSame x y
one_forcing_fault P run build budget x y (fails.unmatched bad) (fails.unmatched other) =
    one_unknown P.family run x y bad other
one_forcing_fault P run build budget x y (fails.unmatched bad) (fails.demands forced known are other) =
    absurd (no_unknown P.family run x known bad)
one_forcing_fault P run build budget x y (fails.demands forced known are bad) (fails.unmatched other) =
    absurd (no_unknown P.family run y known other)
one_forcing_fault P run build budget x y (fails.demands f known is bad) (fails.demands g knew also other) =
    one_demands_fault P run build budget f g is also x y bad other

-- ---- the laws

pub settled_have_no_fault_lem : SettledHaveNoFault
settled_have_no_fault_lem P run build budget S fault by = no
  where
    no : OptionsFail P run build budget fault → ⊥
    no (fails.lists bad) = no_lists_fault run build fault by.run_list by.build_list bad
    no (fails.patterns read well (fails.unmatched bad)) =
        no_unknown P.family (patterns_in run) fault by.patterns.known bad
    no (fails.patterns read well (fails.demands forced known are bad)) =
        no_demands_fault P (patterns_in run) (patterns_in build) budget by.patterns.forced forced by.patterns.are are S
        fault by.patterns.settled by.patterns.demands bad

pub one_fault_lem : OneFault
one_fault_lem P run build budget x y = one
  where
    one : OptionsFail P run build budget x → OptionsFail P run build budget y → SaysTheSame x y
    one (fails.lists bad) (fails.lists other) = one_lists_fault run build x y bad other
    one (fails.lists bad) (fails.patterns read well other) = absurd (no_lists_fault run build x read well bad)
    one (fails.patterns read well bad) (fails.lists other) = absurd (no_lists_fault run build y read well other)
    one (fails.patterns read well bad) (fails.patterns also fine other) =
        one_forcing_fault P (patterns_in run) (patterns_in build) budget x y bad other
