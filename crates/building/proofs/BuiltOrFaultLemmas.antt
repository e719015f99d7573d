-- By options an image is built of a linked program, or one thing is wrong with the options.
use Rattle.std.proofs.Common.{◌≡◌, ◌⊎◌, ◌^◌, inl, inr, ℕ, suc, ◌<◌, Bool, true, false, List, [], ◌∷◌, ◌++◌, length}
use Rattle.std.proofs.Common.{Option, Some, None, IsTrue, ◌↔◌, slice_get, take, string_bytes, refl, sym}
use Rattle.std.proofs.Common.{ap, subst, ◌∙◌, arith, option_map, map}
use Rattle.std.specs.Global.{Global}
use Rattle.std.specs.declared.string.String.{String}
use Rattle.std.specs.List.{All, Contains}
use Rattle.std.specs.Str.{IsUtf8, bytes_eq}
use denote.RawPtr.{null_ptr}
use Rattle.std.proofs.lemmas.Bool.{cases_lt}
use Rattle.std.proofs.lemmas.List.Elements.{All-nil, All-cons, All-contains, Contains-append_right}
use Rattle.std.proofs.lemmas.Option.{slice_get_within, get_or_from_slice_get}
use Rattle.std.proofs.lemmas.Slice.Eq.{bytes_eq-Decides}
use Rattle.semantics.specs.Quiet as quiet
use Rattle.classfile.specs.Printing.{units_of}
use Rattle.classfile.specs.Units.{units_text}
use Rattle.classfile.proofs.PrintingLemmas.{units_text-units_of}
use Rattle.loading.specs.declared.given.GivenClass.{GivenClass}
use Rattle.loading.specs.Families.{Family, AreParentsWithin, file_of, interfaces_in, name_in, superclasses_in}
use Rattle.loading.specs.Names.{name_of}
use Rattle.loading.proofs.FamiliesParentLemmas.{no_superclasses}
use Rattle.hierarchy.proofs.TopsLemmas.{there_is}
use Rattle.options.proofs.UnmetLemmas.{as_many}
use Rattle.image_format.proofs.NamesLemmas.{name_fits}
use Rattle.program.specs.Tables.{Tables}
use Rattle.region_shape.specs.Laws.{IsFromFile, IsLinked}
use Rattle.initializer_analysis.specs.Forced.{has_class}
use Rattle.initializer_analysis.specs.declared.verdict.Reason.{Reason}
use Rattle.initializer_analysis.specs.declared.verdict.Reason.TheVariants as reasons
use Rattle.initializer_analysis.specs.declared.verdict.Verdict.{Verdict}
use Rattle.initializer_analysis.specs.declared.verdict.Verdict.TheVariants as verdicts
use Rattle.vm_state.specs.SharedState.{Region}
use Rattle.wave_scheduler.proofs.WholesLemmas.{settled_are_whole_lem}
use Rattle.building.proofs.HasCutLemmas.{has_cut}
use Rattle.wave_scheduler.specs.Outcomes.{outcome_of}
use Rattle.wave_scheduler.specs.Settled.{Outcome, Wave, Refused, Stopped, Settled, AreSettled, IsAccepted, IsOutcome}
use Rattle.wave_scheduler.specs.Settled.{region_in}
use Rattle.wave_scheduler.proofs.FindingLemmas.{accepted_or}
use Rattle.wave_scheduler.proofs.FollowerLemmas.{has_settled_lem}
use Rattle.options.specs.Classes.{AreClasses, IsDemanded, IsForced, IsMatched}
use Rattle.options.specs.Classes.{IsOnChain, itself, up, MatchesClass}
use Rattle.options.specs.Demands.{AreMet, IsUnaccepted, IsUnmet, used_name}
use Rattle.options.specs.Demands as demands
use Rattle.options.specs.Faults.{AreApart, IsBoth, IsKnown, PatternsFail}
use Rattle.options.specs.Faults as wrong
use Rattle.options.specs.Lists.{IsNonEmpty, empty, items_of}
use Rattle.options.specs.Patterns.{IsIn, dotted, spelled, whole, within}
use Rattle.options.specs.declared.fault.OptionFault.{OptionFault}
use Rattle.options.specs.declared.fault.OptionFault.TheVariants.{Both, Demanded, Empty, Unknown}
use Rattle.building.specs.Builds.{AreDemandsMet, IsRead, IsSettledAs, IsSettledBy, patterns_in}
use Rattle.building.specs.Laws.{AreTexts, BuiltOrFault, HasImage}
use Rattle.building.specs.Refusals.{DemandsFail, ForcingFails, IsListFault, OptionsFail}
use Rattle.building.specs.Refusals as fails
use Rattle.initializer_analysis.proofs.ReachesLemmas.{Decided, Through, decided_among, decided_as, decided_below}
use Rattle.initializer_analysis.proofs.ReachesLemmas.{decided_both}
use Rattle.initializer_analysis.proofs.ReachesLemmas.{decided_either, decided_not, decided_same, decided_true, in_none}
use Rattle.initializer_analysis.proofs.ReachesLemmas.{decided_in, least_below, or_table, past_table, table}
use Rattle.initializer_analysis.proofs.AcyclicLemmas.{Along, along_edge, along_joined, decided_along, numbers}

-- ---- the first of a list that fails

-- one that lacks a property, behind others that have it
record IsFirstWithout {A : Type 0} (Q : A → Type 0) (xs : List A) : Type 0 where
  place : ℕ
  value : A
  here : slice_get xs place ≡ Some value
  lacks : Q value → ⊥
  before : All Q (take place xs)

all_or_first : {A : Type 0} (Q : A → Type 0) → ((a : A) → Decided (Q a)) → (xs : List A)
    → All Q xs ⊎ IsFirstWithout Q xs
all_or_first Q each [] = inl (All-nil Q)
all_or_first {A} Q each (x ∷ xs) = by (each x) (all_or_first Q each xs)
  where
    by : Decided (Q x) → All Q xs ⊎ IsFirstWithout Q xs → All Q (x ∷ xs) ⊎ IsFirstWithout Q (x ∷ xs)
    by (inr never) rest =
        inr (record { place = 0; value = x; here = refl; lacks = never; before = All-nil Q })
    by (inl q) (inl all) = inl (All-cons Q x xs q all)
    by (inl q) (inr first) = inr (record {
      place = suc first.place;
      value = first.value;
      here = first.here;
      lacks = first.lacks;
      before = All-cons Q x (take first.place xs) q first.before;
    })

pub same_bytes : (a b : List ℕ) → Decided (a ≡ b)
same_bytes a b = by (bytes_eq a b) refl
  where
    by : (t : Bool) → bytes_eq a b ≡ t → Decided (a ≡ b)
    by true e = inl ((bytes_eq-Decides a b).0 e)
    by false e = inr (λ is. let on = (bytes_eq-Decides a b).1 is in cc)

-- ---- lists

decided_full : (item : List ℕ) → Decided (IsNonEmpty item)
decided_full [] = inr (λ full. full refl)
decided_full (b ∷ item) = inl (λ is. cc)

is_empty : (item : List ℕ) → (IsNonEmpty item → ⊥) → item ≡ []
is_empty [] never = refl
is_empty (b ∷ item) never = absurd (never (λ is. cc))

read_or_fault : (list : Option (List ℕ)) → IsRead list ⊎ ((fault : OptionFault) × IsListFault list fault)
read_or_fault None = inl (All-nil IsNonEmpty)
read_or_fault (Some text) = elim (all_or_first IsNonEmpty decided_full (items_of text)) [
  | inl all ↦ inl all
  | inr first ↦ inr (
    Empty first.place,
    empty (record {
      here = first.here ∙ ap (λ (item : List ℕ). Some item) (is_empty first.value first.lacks);
      before = first.before;
    }),
  )
]

-- ---- patterns

abbrev IsText : List ℕ → Type 0
IsText item = IsUtf8 item × (length item < 2 ^ 63)

-- there is a string of each text
text_of : (item : List ℕ) → IsText item → (text : String Global) × (string_bytes text ≡ item)
text_of item (is, few) = (
  record {
    bytes = record {
      ptr = null_ptr;
      len = length item;
      cap = length item;
      alloc = record { memory = record { seal = tt } };
      items = item;
      ok = (refl, omega arith);
      small = few;
    };
    ok = ∣ is ∣₁;
  },
  refl,
)

-- what follows a text that another one begins with
begins_with : (outer name : List ℕ) → Decided ((rest : List ℕ) × (name ≡ outer ++ 46 ∷ rest))
begins_with [] [] = inr (λ (rest, is). cc)
begins_with [] (b ∷ name) = elim (decided_same b 46) [
  | inl same ↦ inl (name, ap (λ (x : ℕ). x ∷ name) same)
  | inr other ↦ inr (λ (rest, is). other (let same : b ≡ 46 = cc in same))
]
begins_with (a ∷ outer) [] = inr (λ (rest, is). cc)
begins_with (a ∷ outer) (b ∷ name) = by (decided_same b a) (begins_with outer name)
  where
    by : Decided (b ≡ a) → Decided ((rest : List ℕ) × (name ≡ outer ++ 46 ∷ rest))
        → Decided ((rest : List ℕ) × (b ∷ name ≡ a ∷ outer ++ 46 ∷ rest))
    by (inr other) after = inr (λ (rest, is). other (let same : b ≡ a = cc in same))
    by (inl same) (inl (rest, is)) =
        inl (rest, ap (λ (x : ℕ). x ∷ name) same ∙ ap (λ (xs : List ℕ). a ∷ xs) is)
    by (inl same) (inr never) = inr (λ (rest, is). never (rest, let tail : name ≡ outer ++ 46 ∷ rest = cc in tail))

decided_inside : (outer name : List ℕ) → Decided (IsIn outer name)
decided_inside outer name = decided_as there back (decided_either (same_bytes name outer) (begins_with outer name))
  where
    there : (name ≡ outer) ⊎ ((rest : List ℕ) × (name ≡ outer ++ 46 ∷ rest)) → IsIn outer name
    there (inl same) = whole same
    there (inr (rest, is)) = within rest is

    back : IsIn outer name → (name ≡ outer) ⊎ ((rest : List ℕ) × (name ≡ outer ++ 46 ∷ rest))
    back (whole same) = inl same
    back (within rest is) = inr (rest, is)

module _ (family : Family) (parents : AreParentsWithin family) where
  named_within : (c : ℕ) (name : List ℕ) → name_in family c ≡ Some name → c < length family
  named_within c name = by (slice_get family c) refl
    where
      by : (o : Option GivenClass) → slice_get family c ≡ o → option_map name_of (file_of o) ≡ Some name
          → c < length family
      by None at named = cc
      by (Some given) at named = slice_get_within family c given at

  decided_match : (pattern : List ℕ) (c : ℕ) → Decided (MatchesClass family pattern c)
  decided_match pattern c = by (name_in family c) refl
    where
      by : (o : Option (List ℕ)) → name_in family c ≡ o → Decided (MatchesClass family pattern c)
      by None at = inr (λ is. let clash = sym at ∙ is.named in cc)
      by (Some name) at =
          decided_as (λ inside. record { name = name; named = at; inside = inside })
          (λ is. subst (λ (n : List ℕ). IsIn (spelled pattern) (dotted n))
          (let two : Some is.name ≡ Some name = sym is.named ∙ at in cc) is.inside)
          (decided_inside (spelled pattern) (dotted name))

  decided_known : (pattern : List ℕ) → Decided (IsKnown family pattern)
  decided_known pattern =
      decided_as (λ (c, low, is). (c, is)) (λ (c, is). (c, named_within c is.name is.named, is))
      (decided_below (length family) (MatchesClass family pattern) (λ c low. decided_match pattern c))

  -- each pattern matches a class, or one is told that does not
  known_or_fault : (patterns : List (List ℕ)) → AreTexts patterns
      → All (IsKnown family) patterns ⊎ ((fault : OptionFault) × PatternsFail family patterns fault)
  known_or_fault patterns texts = elim (all_or_first (IsKnown family) decided_known patterns) [
    | inl all ↦ inl all
    | inr first ↦
        let (text, is) = text_of first.value (All-contains IsText patterns first.value texts (
          first.place,
          slice_get_within patterns first.place first.value first.here,
          get_or_from_slice_get patterns first.place first.value first.value first.here,
        )) in
        inr (
          Unknown text,
          wrong.unknown (record {
            place = first.place;
            here = first.here ∙ ap (λ (p : List ℕ). Some p) (sym is);
            unknown = λ known. first.lacks (subst (IsKnown family) is known);
            before = first.before;
          }),
        )
  ]

  -- ---- classes

  module _ (patterns : List (List ℕ)) where
    decided_matched : (c : ℕ) → Decided (IsMatched family patterns c)
    decided_matched c =
        decided_as (λ (pattern, at, is). record { pattern = pattern; listed = at; matches = is })
        (λ is. (is.pattern, is.listed, is.matches))
        (decided_among patterns (λ pattern. MatchesClass family pattern c) (λ pattern. decided_match pattern c))

    matched_within : (c : ℕ) → IsMatched family patterns c → c < length family
    matched_within c is = named_within c is.matches.name is.matches.named

  -- an edge leads up
  abbrev IsBelow : ℕ → ℕ → Type 0
  IsBelow c d = Contains (superclasses_in family c) d

  above_within : (c d : ℕ) → IsBelow c d → d < length family
  above_within c d at = parents c d (Contains-append_right (interfaces_in family c) (superclasses_in family c) d at)

  decided_edge : (c d : ℕ) → Decided (IsBelow c d)
  decided_edge c d = decided_in (superclasses_in family c) d

  below_within : (c d : ℕ) → IsBelow c d → c < length family
  below_within c d at = elim (cases_lt c (length family)) [
    | inl low ↦ low
    | inr high ↦ absurd (in_none d (subst (λ (xs : List ℕ). Contains xs d) (no_superclasses family c high) at))
  ]

  chain_joined : {a b c : ℕ} → IsOnChain family b c → IsOnChain family a b → IsOnChain family a c
  chain_joined itself rest = rest
  chain_joined (up at first) rest = up at (chain_joined first rest)

  from_way : (vs : List ℕ) (c d : ℕ) → Through IsBelow vs c d → IsOnChain family d c
  from_way [] c d at = up at itself
  from_way (v ∷ vs) c d (inl way) = from_way vs c d way
  from_way (v ∷ vs) c d (inr ways) = chain_joined (from_way vs c v ways.0) (from_way vs v d ways.1)

  abbrev Rises : ℕ → ℕ → Type 0
  Rises c d = Along (length family) IsBelow decided_edge above_within c d

  to_way : {d c : ℕ} → IsOnChain family d c → (d ≡ c) ⊎ Rises c d
  to_way itself = inl refl
  to_way {d = d} {c = c} (up {parent = p} at rest) = by (to_way rest)
    where
      by : (d ≡ p) ⊎ Rises p d → (d ≡ c) ⊎ Rises c d
      by (inl same) =
          inr (along_edge (length family) IsBelow decided_edge above_within (subst (IsBelow c) (sym same) at))
      by (inr way) = inr (along_joined (length family) IsBelow decided_edge above_within c p d
          (along_edge (length family) IsBelow decided_edge above_within at) way)

  decided_chain : (d c : ℕ) → Decided (IsOnChain family d c)
  decided_chain d c =
      decided_as there to_way
      (decided_either (decided_same d c) (decided_along (length family) IsBelow decided_edge above_within c d))
    where
      there : (d ≡ c) ⊎ Rises c d → IsOnChain family d c
      there (inl same) = subst (λ (x : ℕ). IsOnChain family x c) (sym same) itself
      there (inr way) = from_way (numbers (length family)) c d way

  -- both ends of a chain are classes of the family, where one is
  lower_within : {d c : ℕ} → IsOnChain family d c → d < length family → c < length family
  lower_within itself low = low
  lower_within {c = c} (up {parent = p} at rest) low = below_within c p at

  upper_within : {d c : ℕ} → IsOnChain family d c → c < length family → d < length family
  upper_within itself low = low
  upper_within {c = c} (up {parent = p} at rest) low = upper_within rest (above_within c p at)

  decided_forced : (patterns : List (List ℕ)) (c : ℕ) → Decided (IsForced family patterns c)
  decided_forced patterns c =
      decided_as (λ (d, low, (on, one)). record { above = d; on = on; one = one })
      (λ is. (is.above, matched_within patterns is.above is.one, (is.on, is.one)))
      (decided_below (length family) (λ d. IsOnChain family d c × IsMatched family patterns d) (λ d low.
      decided_both (decided_chain d c) (decided_matched patterns d)))

  forced_within : (patterns : List (List ℕ)) (c : ℕ) → IsForced family patterns c → c < length family
  forced_within patterns c is = lower_within is.on (matched_within patterns is.above is.one)

  decided_demanded : (patterns : List (List ℕ)) (c : ℕ) → Decided (IsDemanded family patterns c)
  decided_demanded patterns c =
      decided_as (λ (d, low, (on, one)). record { below = d; on = on; one = one })
      (λ is. (is.below, matched_within patterns is.below is.one, (is.on, is.one)))
      (decided_below (length family) (λ d. IsOnChain family c d × IsMatched family patterns d) (λ d low.
      decided_both (decided_chain c d) (decided_matched patterns d)))

  demanded_within : (patterns : List (List ℕ)) (c : ℕ) → IsDemanded family patterns c → c < length family
  demanded_within patterns c is = upper_within is.on (matched_within patterns is.below is.one)

  -- ---- sets of classes

  tell : {Q : Type 0} → Decided Q → Bool
  tell (inl q) = true
  tell (inr never) = false

  tell-is : {Q : Type 0} (d : Decided Q) → IsTrue (tell d) ↔ Q
  unfolding tell
  tell-is (inl q) = (λ is. q, λ q. refl)
  tell-is (inr never) = (λ is. absurd cc, λ q. absurd (never q))

  classes_of : (Q : ℕ → Type 0) → ((c : ℕ) → Decided (Q c)) → ((c : ℕ) → Q c → c < length family)
      → (marks : List Bool) × AreClasses marks Q
  classes_of Q each small = (table (length family) (λ c. tell (each c)), marked)
    where
      marked : (c : ℕ) → IsTrue (has_class (table (length family) (λ c. tell (each c))) c) ↔ Q c
      marked c = elim (cases_lt c (length family)) [
        | inl low ↦
            let here = or_table (length family) (λ c. tell (each c)) c false low in (
              λ is. (tell-is (each c)).0 (subst IsTrue here is),
              λ q. subst IsTrue (sym here) ((tell-is (each c)).1 q),
            )
        | inr high ↦
            let none = past_table (length family) (λ c. tell (each c)) c false high in (
              λ is. absurd (let clash : IsTrue false = subst IsTrue none is in cc),
              λ q. absurd (let low = small c q in omega arith),
            )
      ]

module _ (P : Tables) (budget : ℕ) (linked : IsLinked P) (files : (c : ℕ) → IsFromFile P c)
  where
    -- the name of a class, by its units
    named_units : (c : ℕ) → c < length P.family → (name : List ℕ) × (name_in P.family c ≡ Some (units_text name))
    named_units c low =
        let given = there_is P.family c low in
        let file : file_of (slice_get P.family c) ≡ Some given.0.file = ap file_of given.1 in
        let fit = name_fits given.0.file (files c given.0.file file) in
        let own : units_text (units_of (name_of given.0.file)) ≡ name_of given.0.file =
        units_text-units_of (name_of given.0.file) fit.1 in
        (units_of (name_of given.0.file), ap (option_map name_of) file ∙ ap (λ (n : List ℕ). Some n) (sym own))

    used_at : (e : ℕ) (given : Option GivenClass) → slice_get P.family e ≡ given
        → (used : Option (List ℕ)) × (name_in P.family e ≡ option_map units_text used)
    used_at e None none = (None, ap (λ (given : Option GivenClass). option_map name_of (file_of given)) none)
    used_at e (Some given) at =
        let (name, named) = named_units e (slice_get_within P.family e given at) in (Some name, named)

    used_units : (reason : Reason)
        → (used : Option (List ℕ)) × (used_name P.family reason ≡ option_map units_text used)
    used_units (reasons.DependsOn e) = used_at e (slice_get P.family e) refl
    used_units reason = (None, refl)

    -- ---- verdicts

    verdict_of : Outcome → Verdict
    verdict_of (Wave n) = verdicts.Wave n
    verdict_of (Refused reason) = verdicts.Refused reason
    verdict_of (Stopped quiet.Raised) = verdicts.Refused reasons.Raised
    verdict_of (Stopped quiet.ForeignObject) = verdicts.Refused reasons.ForeignObject
    verdict_of (Stopped quiet.OverBudget) = verdicts.Refused reasons.Budget
    verdict_of (Stopped quiet.Faulted) = verdicts.Refused reasons.Faulted

    -- what becomes of a class is that of its verdict
    is_told : (S : Settled) (forced : List Bool) (c : ℕ) (o : Outcome) → IsOutcome P forced budget S c o
        → outcome_of (verdict_of o) ≡ o
    unfolding verdict_of
    is_told S forced c (Wave n) is = refl
    is_told S forced c (Stopped quiet.Raised) is = refl
    is_told S forced c (Stopped quiet.ForeignObject) is = refl
    is_told S forced c (Stopped quiet.OverBudget) is = refl
    is_told S forced c (Stopped quiet.Faulted) is = refl
    is_told S forced c (Refused reasons.Forced) is = refl
    is_told S forced c (Refused (reasons.Marked mark)) is = refl
    is_told S forced c (Refused reasons.Cycle) is = refl
    is_told S forced c (Refused (reasons.DependsOn e)) is = refl
    is_told S forced c (Refused reason) is = absurd is.0

    all_told : (os : List Outcome) → ((i : ℕ) (o : Outcome) → slice_get os i ≡ Some o → outcome_of (verdict_of o) ≡ o)
        → map outcome_of (map verdict_of os) ≡ os
    all_told [] each = refl
    all_told (o ∷ os) each =
        let head = each 0 o refl in
        let tail = all_told os (λ i x at. each (suc i) x at) in
        ap (λ (x : Outcome). x ∷ map outcome_of (map verdict_of os)) head ∙ ap (λ (xs : List Outcome). o ∷ xs) tail

    -- ---- what is demanded

    -- why a class that is not accepted is refused, as faults tell it
    refused_for : (S : Settled) (forced : List Bool) → AreSettled P forced budget S → (c : ℕ) → c < length P.classes
        → (IsAccepted S c → ⊥)
        → (reason : Reason) × (slice_get S.outcomes c ≡ Some (outcome_of (verdicts.Refused reason)))
    unfolding verdict_of
    refused_for S forced are c low never =
        let (o, at) = there_is S.outcomes c (omega (arith, are.count)) in
        by o at (verdict_of o) refl (is_told S forced c o (are.each c o at))
      where
        by : (o : Outcome) → slice_get S.outcomes c ≡ Some o → (v : Verdict) → verdict_of o ≡ v
            → outcome_of (verdict_of o) ≡ o
            → (reason : Reason) × (slice_get S.outcomes c ≡ Some (outcome_of (verdicts.Refused reason)))
        by o at (verdicts.Refused reason) is told =
            (reason, at ∙ ap (λ (x : Outcome). Some x) (sym told ∙ ap outcome_of is))
        by o at (verdicts.Wave n) is told =
            absurd (never (n, at ∙ ap (λ (x : Outcome). Some x) (sym told ∙ ap outcome_of is)))

    met_or_fault : (demand forced : List Bool) (S : Settled) → AreSettled P forced budget S
        → AreMet P demand S ⊎ ((fault : OptionFault) × IsUnmet P demand S fault)
    met_or_fault demand forced S are = elim (least_below (length P.classes) (IsUnaccepted demand S) (λ c.
        decided_both (decided_true (has_class demand c)) (decided_not (decided_accepted c)))) [
          | inr none ↦ inl (λ c low held. elim (accepted_or S c) [
            | inl accepted ↦ accepted
            | inr never ↦ absurd (none c low (held, never))
          ])
          | inl (c, (off, least)) ↦ elim (cases_lt c (length P.classes)) [
            | inl low ↦
                let (reason, at) = refused_for S forced are c low off.1 in
                let (name, named) = named_units c (omega (arith, as_many P linked.program)) in
                let (used, by) = used_units reason in
                inr (
                  Demanded name (record { reason = reason; used = used }),
                  demands.unmet (record {
                    low = low;
                    here = off;
                    before = λ d less also. (let most = least d also in omega arith);
                  }) at named by,
                )
            | inr high ↦ inl (λ d low held. elim (accepted_or S d) [
              | inl accepted ↦ accepted
              | inr never ↦ absurd (let most = least d (held, never) in omega arith)
            ])
          ]
        ]
      where
        decided_accepted : (c : ℕ) → Decided (IsAccepted S c)
        decided_accepted c = accepted_or S c

    -- the options for build time, where it is known what is forced
    demands_or_fault : (patterns : List (List ℕ)) (forced : List Bool) → AreTexts patterns
        → ((S : Settled) × AreSettled P forced budget S × AreDemandsMet P patterns forced S)
        ⊎ ((fault : OptionFault) × DemandsFail P patterns forced budget fault)
    demands_or_fault patterns forced texts =
        elim (known_or_fault P.family linked.within patterns texts) [
          | inr (fault, unmatched) ↦ inr (fault, fails.wrong (wrong.unmatched unmatched))
          | inl known ↦ elim (least_below (length P.family) (IsBoth (IsDemanded P.family patterns) forced) (λ c.
              decided_both (decided_demanded P.family linked.within patterns c)
              (decided_true (has_class forced c)))) [
                | inl (c, (both, least)) ↦
                    let (name, named) = named_units c (demanded_within P.family linked.within patterns c both.0) in
                    inr (
                      Both name,
                      fails.wrong (wrong.overlapping known (wrong.both (record {
                        here = both;
                        before = λ d less also. (let most = least d also in omega arith);
                      }) named)),
                    )
                | inr none ↦ settled known (λ c both.
                    none c (demanded_within P.family linked.within patterns c both.0) both)
              ]
        ]
      where
        settled : All (IsKnown P.family) patterns → AreApart (IsDemanded P.family patterns) forced
            → ((S : Settled) × AreSettled P forced budget S × AreDemandsMet P patterns forced S)
            ⊎ ((fault : OptionFault) × DemandsFail P patterns forced budget fault)
        settled known apart =
            let (demand, are_demanded) = classes_of P.family linked.within (IsDemanded P.family patterns)
            (decided_demanded P.family linked.within patterns) (demanded_within P.family linked.within patterns) in
            let (S, are) = has_settled_lem P forced budget linked.program linked.family linked.within in
            elim (met_or_fault demand forced S are) [
              | inl met ↦ inl (
                S,
                are,
                record {
                  known = known;
                  demand = demand;
                  are = are_demanded;
                  apart = apart;
                  met = met;
                },
              )
              | inr (fault, off) ↦ inr (
                fault,
                fails.unmet demand known are_demanded apart (record {
                  last = S;
                  settled = are;
                  unmet = off;
                }),
              )
            ]

    patterns_or_fault : (run build : List (List ℕ)) → AreTexts run → AreTexts build
        → ((S : Settled) × IsSettledBy P run build budget S)
        ⊎ ((fault : OptionFault) × ForcingFails P run build budget fault)
    patterns_or_fault run build texts also =
        elim (known_or_fault P.family linked.within run texts) [
          | inr (fault, unmatched) ↦ inr (fault, fails.unmatched unmatched)
          | inl known ↦
              let (forced, are_forced) = classes_of P.family linked.within (IsForced P.family run)
              (decided_forced P.family linked.within run) (forced_within P.family linked.within run) in
              elim (demands_or_fault build forced also) [
                | inl (S, are, met) ↦ inl (
                  S,
                  record {
                    known = known;
                    forced = forced;
                    are = are_forced;
                    settled = are;
                    demands = met;
                  },
                )
                | inr (fault, failed) ↦ inr (fault, fails.demands forced known are_forced failed)
              ]
        ]

    options_or_fault : (run build : Option (List ℕ)) → AreTexts (patterns_in run) → AreTexts (patterns_in build)
        → ((S : Settled) × IsSettledAs P run build budget S)
        ⊎ ((fault : OptionFault) × OptionsFail P run build budget fault)
    options_or_fault run build texts also = elim (read_or_fault run) [
      | inr (fault, bad) ↦ inr (fault, fails.lists (fails.first bad))
      | inl read ↦ elim (read_or_fault build) [
        | inr (fault, bad) ↦ inr (fault, fails.lists (fails.second read bad))
        | inl read_too ↦ elim (patterns_or_fault (patterns_in run) (patterns_in build) texts also) [
          | inl (S, by) ↦ inl (S, record { run_list = read; build_list = read_too; patterns = by })
          | inr (fault, failed) ↦ inr (fault, fails.patterns read read_too failed)
        ]
      ]
    ]

    -- ---- what is built

    image_of : (run build : Option (List ℕ)) (S : Settled) → IsSettledAs P run build budget S
        → HasImage P run build budget
    image_of run build S by =
        let whole = settled_are_whole_lem P by.patterns.forced budget S linked files by.patterns.settled in
        let (regions, cut) = has_cut P (region_in S) (length P.classes) small whole.shape in record {
          image = record { program = P; regions = regions };
          verdicts = map verdict_of S.outcomes;
          program = refl;
          built = record {
            settled = S;
            by = by;
            cut = cut;
            told = sym (all_told S.outcomes (λ c o at.
                is_told S by.patterns.forced c o (by.patterns.settled.each c o at)));
          };
        }
      where
        small : (c : ℕ) (region : Region) → region_in S c ≡ Some region → c < length P.classes
        small c region has =
            let (n, at) = by.patterns.settled.only c region has in
            let low = slice_get_within S.outcomes c (Wave n) at in
            omega (arith, by.patterns.settled.count)

    pub built_or_fault : (run build : Option (List ℕ)) → AreTexts (patterns_in run) → AreTexts (patterns_in build)
        → HasImage P run build budget ⊎ ((fault : OptionFault) × OptionsFail P run build budget fault)
    built_or_fault run build texts also = elim (options_or_fault run build texts also) [
      | inl (S, by) ↦ inl (image_of run build S by)
      | inr failed ↦ inr failed
    ]

pub built_or_fault_lem : BuiltOrFault
built_or_fault_lem P run build budget linked files texts also =
    built_or_fault P budget linked files run build texts also
