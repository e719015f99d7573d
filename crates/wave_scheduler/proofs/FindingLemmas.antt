-- What is found of one class after another in a wave.
use Rattle.std.proofs.Common.{◌≡◌, ◌≢◌, ◌⊎◌, inl, inr, ℕ, zero, suc, ◌+◌, ◌<◌, Bool, List, [], ◌∷◌, length, map}
use Rattle.std.proofs.Common.{Option, Some, None, option_map, slice_get, slice_set, slice_index_or}
use Rattle.std.proofs.Common.{true, false, ◌↔◌, replicate, refl, sym, ap, subst, ◌∙◌, arith}
use Rattle.std.proofs.lemmas.List.{length-set, length-map, length-replicate, get_or-set_same, map-set}
use Rattle.std.proofs.lemmas.Option.{slice_get-get_or, slice_get-map, get_or_from_slice_get}
use Rattle.vm_state.specs.SharedState.{Region}
use Rattle.semantics.proofs.TestsLemmas.{from_some}
use Rattle.program.specs.Tables.{Tables}
use Rattle.initializer_analysis.specs.declared.verdict.Reason.{Reason}
use Rattle.initializer_analysis.specs.declared.verdict.Reason.TheVariants as reasons
use Rattle.initializer_analysis.specs.declared.verdict.Verdict.{Verdict}
use Rattle.initializer_analysis.specs.declared.verdict.Verdict.TheVariants as verdicts
use Rattle.region_shape.specs.declared.regions.Region.{Region as Held}
use Rattle.region_shape.specs.Regions.{region_of, environment_of}
use Rattle.wave_scheduler.specs.Settled.{Outcome, Wave, Refused, Stopped, Settled, IsAccepted}
use Rattle.wave_scheduler.specs.Outcomes.{outcome_of}
use Rattle.wave_scheduler.specs.steps.Waves.{StartsFrom}
use Rattle.wave_scheduler.specs.steps.Waves.{AreRefusedIn, dependent}
use Rattle.wave_scheduler.specs.steps.Finding.{SetsClass}
use Rattle.wave_scheduler.specs.steps.Finding.{is_refused, GivesFirstBelow}
use Rattle.initializer_analysis.proofs.ReachesLemmas.{one_of}
use Rattle.wave_scheduler.proofs.SpreadingLemmas.{less_or_same}

-- ---- a place of a list

set_at : {X : Type 0} (xs : List X) (i : ℕ) (x : X) → i < length xs → slice_get (slice_set xs i x) i ≡ Some x
set_at xs i x low =
    slice_get-get_or (slice_set xs i x) i x (omega (arith, length-set xs i x)) ∙ ap Some (get_or-set_same xs i x x low)

set_other : {X : Type 0} (xs : List X) (i j : ℕ) (x : X) → j ≢ i → slice_get (slice_set xs i x) j ≡ slice_get xs j
set_other [] i j x apart = refl
set_other (y ∷ ys) zero zero x apart = absurd (apart refl)
set_other (y ∷ ys) zero (suc j) x apart = refl
set_other (y ∷ ys) (suc i) zero x apart = refl
set_other (y ∷ ys) (suc i) (suc j) x apart = set_other ys i j x (λ e. apart (ap suc e))

index_set_other : {X : Type 0} (xs : List X) (i j : ℕ) (x d : X) → j ≢ i
    → slice_index_or (slice_set xs i x) j d ≡ slice_index_or xs j d
index_set_other [] i j x d apart = refl
index_set_other (y ∷ ys) zero zero x d apart = absurd (apart refl)
index_set_other (y ∷ ys) zero (suc j) x d apart = refl
index_set_other (y ∷ ys) (suc i) zero x d apart = refl
index_set_other (y ∷ ys) (suc i) (suc j) x d apart = index_set_other ys i j x d (λ e. apart (ap suc e))

-- ---- what is answered

abbrev seen : Option Held → Option Region
seen = option_map region_of

-- the region of a class, as definitions see it
pub region_seen : (rs : List (Option Held)) (c : ℕ) → environment_of rs c ≡ slice_index_or (map seen rs) c None
region_seen [] c = refl
region_seen (r ∷ rs) zero = refl
region_seen (r ∷ rs) (suc c) = region_seen rs c

pub none_seen : (r : Option Held) → seen r ≡ None → r ≡ None
none_seen None is = refl
none_seen (Some r) is = cc

abbrev answer : List Verdict → List (Option Held) → Settled
answer outs rs = record { outcomes = map outcome_of outs; regions = map seen rs }

pub sets_class : (outs more : List Verdict) (rs held : List (Option Held)) (c : ℕ) (o : Verdict) (r : Option Held)
    → c < length outs → c < length rs → more ≡ slice_set outs c o → held ≡ slice_set rs c r
    → SetsClass c (outcome_of o) (seen r) (answer outs rs) (answer more held)
sets_class outs more rs held c o r low less out_is region_is =
    rw (out_is, region_is, map-set outcome_of outs c o, map-set seen rs c r) record {
      count = length-set (map outcome_of outs) c (outcome_of o);
      regions = length-set (map seen rs) c (seen r);
      here = set_at (map outcome_of outs) c (outcome_of o) (omega (arith, length-map outs outcome_of));
      region = get_or-set_same (map seen rs) c (seen r) None (omega (arith, length-map rs seen));
      others = λ d apart. (
        set_other (map outcome_of outs) c d (outcome_of o) apart,
        index_set_other (map seen rs) c d (seen r) None apart,
      );
    }

-- ---- classes of a wave

pub accepted_or : (S : Settled) (e : ℕ) → IsAccepted S e ⊎ (¬ IsAccepted S e)
accepted_or S e = by (slice_get S.outcomes e) refl
  where
    by : (o : Option Outcome) → slice_get S.outcomes e ≡ o → IsAccepted S e ⊎ (¬ IsAccepted S e)
    by None at = inr (λ (k, here). let clash : None ≡ Some (Wave k) = sym at ∙ here in cc)
    by (Some (Wave k)) at = inl (k, at)
    by (Some (Refused r)) at = inr (λ (k, here). let clash : Some (Refused r) ≡ Some (Wave k) = sym at ∙ here in cc)
    by (Some (Stopped w)) at = inr (λ (k, here). let clash : Some (Stopped w) ≡ Some (Wave k) = sym at ∙ here in cc)

-- ---- which classes are not accepted

pub no_wave : (reason : Reason) (k : ℕ) → outcome_of (verdicts.Refused reason) ≡ Wave k → ⊥
no_wave reasons.Raised k is = absurd cc
no_wave _ k is = absurd cc

pub refused_or : (S : Settled) (c : ℕ) (v : Verdict) → slice_get S.outcomes c ≡ Some (outcome_of v)
    → (is_refused v ≡ true) ↔ (¬ IsAccepted S c)
refused_or S c (verdicts.Wave k) at = (λ held. absurd cc, λ never. absurd (never (k, at)))
refused_or S c (verdicts.Refused r) at = (λ held (k, here). no_wave r k (from_some (sym at ∙ here)), λ never. refl)

index_map : {A B : Type 0} (f : A → B) (xs : List A) (c : ℕ) (d : B) (x : A) → slice_get xs c ≡ Some x
    → slice_index_or (map f xs) c d ≡ f x
index_map f xs c d x at =
    get_or_from_slice_get (map f xs) c (f x) d (slice_get-map f xs c ∙ ap (option_map f) at)

pub flags_are : (P : Tables) (outs : List Verdict) (rs : List (Option Held)) (flags : List Bool)
    → length outs ≡ length P.classes → flags ≡ map is_refused outs
    → AreRefusedIn P (answer outs rs) flags
flags_are P outs rs flags count are = rw are record {
  count = length-map outs is_refused ∙ count;
  each = λ c low.
      let (o, at) = one_of outs c (omega (arith, count)) in
      let same = index_map is_refused outs c false o at in
      let there : slice_get (map outcome_of outs) c ≡ Some (outcome_of o) =
      slice_get-map outcome_of outs c ∙ ap (option_map outcome_of) at in
      rw same (refused_or (answer outs rs) c o there);
}

-- ---- at the end

pub tells_more : (first : List (Option ℕ)) (limit : ℕ) (old : List Outcome) (cur more : List Verdict) (o x d : Verdict)
    → limit < length cur → x ≡ slice_index_or cur limit d → GivesFirstBelow first limit old (map outcome_of cur)
    → outcome_of o ≡ dependent (slice_index_or first limit None) (outcome_of x) → more ≡ slice_set cur limit o
    → GivesFirstBelow first (limit + 1) old (map outcome_of more)
tells_more first limit old cur more o x d low was tells told is = rw (is, map-set outcome_of cur limit o) record {
  count = length-set (map outcome_of cur) limit (outcome_of o) ∙ tells.count;
  each = λ c y small at. elim (less_or_same c limit small) [
    | inl less ↦
        set_other (map outcome_of cur) limit c (outcome_of o) (omega arith) ∙ tells.each c y less at
    | inr last ↦
        let here : slice_get cur limit ≡ Some x = slice_get-get_or cur limit d low ∙ ap Some (sym was) in
        let seen : slice_get (map outcome_of cur) limit ≡ Some (outcome_of x) =
        slice_get-map outcome_of cur limit ∙ ap (option_map outcome_of) here in
        let before : slice_get old limit ≡ Some y = subst (λ (k : ℕ). slice_get old k ≡ Some y) last at in
        let one : outcome_of x ≡ y = from_some (sym seen ∙ (tells.rest limit (omega arith) ∙ before)) in
        subst (λ (k : ℕ). slice_get (slice_set (map outcome_of cur) limit (outcome_of o)) k
        ≡ Some (dependent (slice_index_or first k None) y)) (sym last)
        (set_at (map outcome_of cur) limit (outcome_of o) (omega (arith, length-map cur outcome_of))
        ∙ ap Some (told ∙ ap (dependent (slice_index_or first limit None)) one))
  ];
  rest = λ c high.
      set_other (map outcome_of cur) limit c (outcome_of o) (omega arith) ∙ tells.rest c (omega arith);
}

-- ---- at the start

region_none : (n c : ℕ) → slice_index_or (map seen (replicate n None)) c None ≡ None
region_none zero c = refl
region_none (suc n) zero = refl
region_none (suc n) (suc c) = region_none n c

pub starts_from : (judged outs : List Verdict) (rs : List (Option Held)) → outs ≡ judged
    → rs ≡ replicate (length judged) None → StartsFrom judged (answer outs rs)
starts_from judged outs rs are none = record {
  count = length-map outs outcome_of ∙ ap length are;
  each = λ c v at. slice_get-map outcome_of outs c
      ∙ ap (option_map outcome_of) (ap (λ (vs : List Verdict). slice_get vs c) are ∙ at);
  regions = length-map rs seen ∙ ap length none ∙ length-replicate (length judged) None;
  none = λ c. ap (λ (x : List (Option Held)). slice_index_or (map seen x) c None) none
      ∙ region_none (length judged) c;
}
