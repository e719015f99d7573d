-- Marks as labels of vertices of the calls: those of fields by the class whose field it is, the others by 0.
use Rattle.std.specs.Prelude.{◌≡◌, ℕ, ◌<◌, List, Option, Some, None, length, slice_get, slice_index_or, unwrap_or}
use Rattle.graph.specs.Reaches.{Reaches}
use Rattle.use_graph.specs.declared.body.Told.{Told}
use Rattle.use_graph.specs.declared.body.BodyUses.{BodyUses}
use Rattle.use_graph.specs.declared.feature.Feature.{Feature}
use Rattle.use_graph.specs.declared.mark.Mark.{Mark}
use Rattle.use_graph.specs.declared.mark.Mark.TheVariants as marks
use Rattle.use_graph.specs.declared.whole_program.UseGraph.{UseGraph}
use Rattle.use_graph.specs.Uses.{mark_of, field_class}
use Rattle.use_graph.specs.steps.Deeds.{HoldsOfOne}
use Rattle.initializer_analysis.specs.declared.labels.Least.{Least}
use Rattle.initializer_analysis.specs.Least.{AreLeast}
use Rattle.initializer_analysis.specs.steps.LeastReached.{no_labels}

-- the label of what is told of an instruction, where it is this mark for some class
abbrev pub IsLabel : Feature → Mark → ℕ → Type 0
IsLabel feature mark l = (mark ≡ mark_of feature) × (l ≡ unwrap_or (field_class feature) 0)

-- the label that is no mark of a class: that of its own fields
abbrev pub ignored : Mark → ℕ → Option ℕ
ignored marks.Prints c = None
ignored marks.Throws c = None
ignored marks.Monitors c = None
ignored marks.ForeignWrite c = Some c
ignored marks.ForeignRead c = Some c
ignored marks.Unsupported c = None
ignored marks.Missing c = None

abbrev pub IsLabelOf : Mark → Told → ℕ → Type 0
IsLabelOf mark told l = IsLabel told.feature mark l

-- a label of what is told of the method of a vertex
abbrev pub IsMarkedBy : List BodyUses → Mark → ℕ → ℕ → Type 0
IsMarkedBy bodies mark v l =
    (b : BodyUses) × (slice_get bodies v ≡ Some b) × HoldsOfOne (IsLabelOf mark) b.told.items l

-- one of a method that a vertex of the calls reaches
abbrev pub ReachesMark : UseGraph → Mark → ℕ → ℕ → Type 0
ReachesMark uses mark v l = (u : ℕ) × Reaches uses.calls v u × IsMarkedBy uses.bodies.items mark u l

-- a table has the two least of some labels for each vertex
abbrev pub HasLeastOf : (ℕ → ℕ → Type 0) → List Least → Type 0
HasLeastOf Own table = (v : ℕ) → AreLeast (Own v) (slice_index_or table v no_labels)

-- a table has the two least labels of a mark that each vertex of the calls reaches
pub record AreMarks (uses : UseGraph) (mark : Mark) (table : List Least) : Type 0 where
  pub len : length table ≡ length uses.calls
  pub least : (v : ℕ) → v < length uses.calls
      → AreLeast (ReachesMark uses mark v) (slice_index_or table v no_labels)
