-- Labels, flags and verdicts of classes, one after another.
use Rattle.std.proofs.Common.{◌≡◌, ◌⊎◌, ℕ, ◌+◌, ◌-◌, ◌<◌, ◌≤◌, Bool, true}
use Rattle.std.proofs.Common.{false, IsTrue, List, [], ◌∷◌, ◌++◌, length, Option}
use Rattle.std.proofs.Common.{Some, None, IsSome, is_some, replicate}
use Rattle.std.proofs.Common.{slice_index, slice_index_or, refl, sym, ap}
use Rattle.std.proofs.Common.{subst, ◌∙◌, inl, inr, arith}
use Rattle.std.proofs.lemmas.Grind.{common_steps}
use Rattle.std.proofs.lemmas.List.{length_push}
use Rattle.std.proofs.lemmas.Option.{slice_get-get_or}
use Rattle.use_graph.specs.declared.whole_program.UseGraph.{UseGraph}
use Rattle.initializer_analysis.specs.declared.labels.Least.{Least}
use Rattle.initializer_analysis.specs.declared.verdict.Reason.{Reason}
use Rattle.initializer_analysis.specs.declared.verdict.Verdict.{Verdict}
use Rattle.initializer_analysis.specs.declared.verdict.Verdict.TheVariants.{Wave}
use Rattle.initializer_analysis.specs.Least.{IsOf}
use Rattle.initializer_analysis.specs.steps.LeastReached.{no_labels, IsOwn}
use Rattle.initializer_analysis.specs.steps.Dependence.{vertex_of}
use Rattle.initializer_analysis.specs.steps.Judging.{label_by, own_reason, Labelled, AreOwnLabels, AreFlaggedFrom}
use Rattle.initializer_analysis.specs.steps.Judging.{AreClassFlags, verdict_by, AreVerdictsBy, AreFirstThere}
use Rattle.initializer_analysis.proofs.OthersLemmas.{HoldsBelow, pushed_before, pushed_at, below_or_last}

less_or : (k n : ℕ) → (k < n) ⊎ (n ≤ k)
less_or k n = grind arith

-- ---- labels

abbrev pub label : List (Option Reason) → ℕ → Least
label own c = record { first = label_by (own_reason own c) c; second = None }

pub labelled_none : (own : List (Option Reason)) (old : List Least) → Labelled own 0 old old
labelled_none own old = record {
  len = omega arith;
  kept = λ v low. refl;
  here = λ c low. absurd (omega arith);
}

pub labelled_more : (own : List (Option Reason)) (c : ℕ) (old mid new : List Least) → Labelled own c old mid
    → new ≡ mid ++ label own c ∷ [] → Labelled own (c + 1) old new
labelled_more own c old mid new l is = subst (λ (xs : List Least). Labelled own (c + 1) old xs) (sym is) (record {
  len = (let n = length_push mid (label own c) in omega (arith, l.len));
  kept = λ v low. pushed_before mid (label own c) no_labels v (omega (arith, l.len)) ∙ l.kept v low;
  here = λ k low. elim (below_or_last mid (label own c) no_labels k c low) [
    | inl less ↦ pushed_before mid (label own c) no_labels (length old + k) (omega (arith, l.len)) ∙ l.here k less
    | inr last ↦ pushed_at mid (label own c) no_labels (length old + k) (omega (arith, l.len, last))
        ∙ ap (label own) (sym last)
  ];
})

-- it is the label of a class that is refused
label_is : (reason : Option Reason) (c l : ℕ) → label_by reason c ≡ Some l → (c ≡ l) × IsSome reason
label_is None c l e = absurd (let clash : None ≡ Some l = e in cc)
label_is (Some reason) c l e = (cc, refl)

there_is : (reason : Option Reason) (c : ℕ) → IsSome reason → label_by reason c ≡ Some c
there_is None c some = absurd (let denied : false ≡ true = some in cc)
there_is (Some reason) c some = refl

pub own_labels_are : (uses : UseGraph) (own : List (Option Reason)) (limit : ℕ) (none labels : List Least)
    → none ≡ replicate (length uses.calls) no_labels → Labelled own limit none labels
    → AreOwnLabels uses own limit labels
own_labels_are uses own limit none labels is l = record {
  len = omega (arith, l.len, count);
  only = λ v x o. by v x o (less_or v (length uses.calls));
  there = λ c low some. inl (ap (λ (y : Least). y.first) (at c low) ∙ there_is (own_reason own c) c some);
}
  where
    many : length (replicate (length uses.calls) no_labels) ≡ length uses.calls
    many = grind (arith, common_steps)

    count : length none ≡ length uses.calls
    count = ap length is ∙ many

    at : (c : ℕ) → c < limit → slice_index_or labels (vertex_of uses c) no_labels ≡ label own c
    at c low = ap (λ (n : ℕ). slice_index_or labels (n + c) no_labels) (sym count) ∙ l.here c low

    blank : (v : ℕ) → slice_index_or (replicate (length uses.calls) no_labels) v no_labels ≡ no_labels
    blank v = grind (arith, common_steps)

    past : (v : ℕ) → length labels ≤ v → slice_index_or labels v no_labels ≡ no_labels
    past v high = grind (arith, common_steps)

    nothing : (x : ℕ) → IsOf no_labels x → ⊥
    nothing x (inl e) = (let clash : None ≡ Some x = e in cc)
    nothing x (inr e) = (let clash : None ≡ Some x = e in cc)

    of_class : (c x : ℕ) → IsOf (label own c) x → (c ≡ x) × IsSome (own_reason own c)
    of_class c x (inl e) = label_is (own_reason own c) c x e
    of_class c x (inr e) = absurd (let clash : None ≡ Some x = e in cc)

    beyond : (v x : ℕ) → IsOwn labels v x → length uses.calls ≤ v → (v < length labels) ⊎ (length labels ≤ v)
        → (v ≡ vertex_of uses x) × IsSome (own_reason own x)
    beyond v x o high (inr over) = absurd (nothing x (subst (λ (y : Least). IsOf y x) (past v over) o))
    beyond v x o high (inl under) =
        let c = v - length uses.calls in
        let same : v ≡ length uses.calls + c = omega arith in
        let low : c < limit = omega (arith, l.len, count, under) in
        let found = of_class c x (subst (λ (y : Least). IsOf y x) (at c low)
        (subst (λ (n : ℕ). IsOwn labels n x) same o)) in
        (omega (arith, same, found.0), subst (λ (n : ℕ). IsSome (own_reason own n)) found.0 found.1)

    by : (v x : ℕ) → IsOwn labels v x → (v < length uses.calls) ⊎ (length uses.calls ≤ v)
        → (v ≡ vertex_of uses x) × IsSome (own_reason own x)
    by v x o (inl low) = absurd (nothing x (subst (λ (y : Least). IsOf y x)
        (l.kept v (omega (arith, count)) ∙ ap (λ (xs : List Least). slice_index_or xs v no_labels) is ∙ blank v) o))
    by v x o (inr high) = beyond v x o high (less_or v (length labels))

-- ---- flags

pub flagged_none : (old : List Bool) → AreFlaggedFrom 0 old old
flagged_none old = record { len = omega arith; kept = λ v low. refl; here = λ v high low. absurd (omega arith) }

pub flagged_more : (c : ℕ) (old mid new : List Bool) → AreFlaggedFrom c old mid → new ≡ mid ++ true ∷ []
    → AreFlaggedFrom (c + 1) old new
flagged_more c old mid new m is = subst (λ (xs : List Bool). AreFlaggedFrom (c + 1) old xs) (sym is) (record {
  len = (let n = length_push mid true in omega (arith, m.len));
  kept = λ v low. pushed_before mid true false v (omega (arith, m.len)) ∙ m.kept v low;
  here = λ v high low. elim (less_or v (length mid)) [
    | inl less ↦ pushed_before mid true false v less ∙ m.here v high (omega (arith, m.len))
    | inr more ↦ pushed_at mid true false v (omega (arith, m.len))
  ];
})

pub class_flags_are : (uses : UseGraph) (limit : ℕ) (none flags : List Bool)
    → none ≡ replicate (length uses.calls) false → AreFlaggedFrom limit none flags → AreClassFlags uses limit flags
class_flags_are uses limit none flags is m = record {
  len = omega (arith, m.len, count);
  classes = λ c low. m.here (vertex_of uses c) (omega (arith, count)) (omega (arith, count));
  only = λ v held. by v held (less_or v (length uses.calls)) (less_or v (length flags));
}
  where
    many : length (replicate (length uses.calls) false) ≡ length uses.calls
    many = grind (arith, common_steps)

    count : length none ≡ length uses.calls
    count = ap length is ∙ many

    blank : (v : ℕ) → slice_index_or (replicate (length uses.calls) false) v false ≡ false
    blank v = grind (arith, common_steps)

    past : (v : ℕ) → length flags ≤ v → slice_index_or flags v false ≡ false
    past v high = grind (arith, common_steps)

    by : (v : ℕ) → IsTrue (slice_index_or flags v false) → (v < length uses.calls) ⊎ (length uses.calls ≤ v)
        → (v < length flags) ⊎ (length flags ≤ v) → (c : ℕ) × (c < limit) × (v ≡ vertex_of uses c)
    by v held (inl low) under =
        absurd (let denied : slice_index_or flags v false ≡ false =
        m.kept v (omega (arith, count)) ∙ ap (λ (xs : List Bool). slice_index_or xs v false) is ∙ blank v in cc)
    by v held (inr high) (inr over) = absurd (let denied = past v over in cc)
    by v held (inr high) (inl under) =
        (v - length uses.calls, omega (arith, m.len, count), omega arith)

-- ---- verdicts

abbrev pub IsVerdictBy : UseGraph → List (Option Reason) → List (Option ℕ) → List ℕ → ℕ → Verdict → Type 0
IsVerdictBy uses own first heights c x =
    x ≡ verdict_by (own_reason own c) (slice_index_or first c None) (slice_index heights (vertex_of uses c))

pub verdicts_are : (uses : UseGraph) (own : List (Option Reason)) (first : List (Option ℕ)) (heights : List ℕ)
    (limit : ℕ) (verdicts : List Verdict)
    → HoldsBelow (IsVerdictBy uses own first heights) (Wave 0) limit verdicts
    → AreVerdictsBy uses own first heights limit verdicts
verdicts_are uses own first heights limit verdicts h = record {
  count = h.count;
  each = λ c low. slice_get-get_or verdicts c (Wave 0) (omega (arith, h.count)) ∙ ap Some (h.each c low);
}

-- ---- first labels

abbrev pub TellsFirst : UseGraph → List Least → ℕ → Bool → Type 0
TellsFirst uses least c b = b ≡ is_some (slice_index_or least (vertex_of uses c) no_labels).first

pub first_there : (uses : UseGraph) (least : List Least) (limit : ℕ) (there : List Bool)
    → HoldsBelow (TellsFirst uses least) false limit there → AreFirstThere uses least limit there
first_there uses least limit there h = record { count = h.count; each = h.each }
