-- Verdicts from what is known of each class.
use Rattle.std.specs.Prelude.{◌≡◌, ◌↔◌, ℕ, ◌+◌, ◌<◌, ◌≤◌, Bool, true, false}
use Rattle.std.specs.Prelude.{IsTrue, List, length, Option, Some, None, IsSome}
use Rattle.std.specs.Prelude.{is_some, slice_get, slice_index, slice_index_or}
use Rattle.graph.specs.Rows.{Rows}
use Rattle.graph.specs.Reaches.{Reaches}
use Rattle.program.specs.Tables.{Tables}
use Rattle.use_graph.specs.declared.whole_program.UseGraph.{UseGraph}
use Rattle.initializer_analysis.specs.declared.labels.Least.{Least}
use Rattle.initializer_analysis.specs.declared.verdict.Reason.{Reason}
use Rattle.initializer_analysis.specs.declared.verdict.Reason.TheVariants as reasons
use Rattle.initializer_analysis.specs.declared.verdict.Verdict.{Verdict}
use Rattle.initializer_analysis.specs.declared.verdict.Verdict.TheVariants.{Wave, Refused}
use Rattle.initializer_analysis.specs.steps.Heights.{AreHeights}
use Rattle.initializer_analysis.specs.steps.LeastReached.{no_labels, IsOwn}
use Rattle.initializer_analysis.specs.RefusedUses.{AreFirstRefused}
use Rattle.initializer_analysis.specs.steps.Dependence.{vertex_of}

-- ---- classes that depend on one that is refused

abbrev pub label_by : Option Reason → ℕ → Option ℕ
label_by None c = None
label_by (Some reason) c = Some c

abbrev pub own_reason : List (Option Reason) → ℕ → Option Reason
own_reason own c = slice_index_or own c None

-- the labels of classes below a limit stand behind others
pub record Labelled (own : List (Option Reason)) (limit : ℕ) (old new : List Least) : Type 0 where
  pub len : length new ≡ length old + limit
  pub kept : (v : ℕ) → v < length old → slice_index_or new v no_labels ≡ slice_index_or old v no_labels
  pub here : (c : ℕ) → c < limit
      → slice_index_or new (length old + c) no_labels ≡ record { first = label_by (own_reason own c) c; second = None }

-- a class has its number as a label where it is refused for a reason of its own, and nothing else has one
pub record AreOwnLabels (uses : UseGraph) (own : List (Option Reason)) (limit : ℕ) (labels : List Least) : Type 0 where
  pub len : length labels ≡ length uses.calls + limit
  pub only : (v l : ℕ) → IsOwn labels v l → (v ≡ vertex_of uses l) × IsSome (own_reason own l)
  pub there : (l : ℕ) → l < limit → IsSome (own_reason own l) → IsOwn labels (vertex_of uses l) l

-- of each class whether its vertex has a first label
pub record AreFirstThere (uses : UseGraph) (least : List Least) (limit : ℕ) (there : List Bool) : Type 0 where
  pub count : length there ≡ limit
  pub each : (c : ℕ) → c < limit
      → slice_index_or there c false ≡ is_some (slice_index_or least (vertex_of uses c) no_labels).first

-- a class depends on one that is refused for a reason of its own
abbrev pub DependsOnRefused : UseGraph → Rows → List (Option Reason) → ℕ → Type 0
DependsOnRefused uses graph own c =
    (e : ℕ) × Reaches graph (vertex_of uses c) (vertex_of uses e) × IsSome (own_reason own e)

pub record AreRefused (P : Tables) (uses : UseGraph) (graph : Rows) (own : List (Option Reason)) (refused : List Bool) :
    Type 0 where
  pub count : length refused ≡ length P.classes
  pub each : (c : ℕ) → c < length P.classes
      → IsTrue (slice_index_or refused c false) ↔ DependsOnRefused uses graph own c

-- ---- waves

pub record AreFlaggedFrom (limit : ℕ) (old new : List Bool) : Type 0 where
  pub len : length new ≡ length old + limit
  pub kept : (v : ℕ) → v < length old → slice_index_or new v false ≡ slice_index_or old v false
  pub here : (v : ℕ) → length old ≤ v → v < length old + limit → slice_index_or new v false ≡ true

pub record AreClassFlags (uses : UseGraph) (limit : ℕ) (flags : List Bool) : Type 0 where
  pub len : length flags ≡ length uses.calls + limit
  pub classes : (c : ℕ) → c < limit → IsTrue (slice_index_or flags (vertex_of uses c) false)
  pub only : (v : ℕ) → IsTrue (slice_index_or flags v false) → (c : ℕ) × (c < limit) × (v ≡ vertex_of uses c)

-- heights over the vertices of classes
abbrev pub AreClassHeights : Tables → UseGraph → Rows → List ℕ → Type 0
AreClassHeights P uses graph heights =
    (flags : List Bool) × AreClassFlags uses (length P.classes) flags × AreHeights graph flags heights

-- ---- verdicts

abbrev pub verdict_by : Option Reason → Option ℕ → ℕ → Verdict
verdict_by (Some reason) first wave = Refused reason
verdict_by None (Some e) wave = Refused (reasons.DependsOn e)
verdict_by None None wave = Wave wave

pub record AreVerdictsBy (uses : UseGraph) (own : List (Option Reason)) (first : List (Option ℕ)) (heights : List ℕ)
    (limit : ℕ) (verdicts : List Verdict) : Type 0 where
  pub count : length verdicts ≡ limit
  pub each : (c : ℕ) → c < limit → slice_get verdicts c
      ≡ Some (verdict_by (own_reason own c) (slice_index_or first c None) (slice_index heights (vertex_of uses c)))

-- where these are the refused classes
abbrev pub IsJudged : Tables → UseGraph → Rows → List (Option Reason) → List Bool → List Verdict → Type 0
IsJudged P uses graph own refused verdicts = (first : List (Option ℕ)) × (heights : List ℕ)
    × AreFirstRefused P refused first × AreClassHeights P uses graph heights
    × AreVerdictsBy uses own first heights (length P.classes) verdicts

abbrev pub AreJudgedBy : Tables → UseGraph → Rows → List (Option Reason) → List Verdict → Type 0
AreJudgedBy P uses graph own verdicts =
    (refused : List Bool) × AreRefused P uses graph own refused × IsJudged P uses graph own refused verdicts
