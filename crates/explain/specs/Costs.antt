-- What accepted classes cost, as values and as text.
use Rattle.std.specs.Prelude.{◌≡◌, ℕ, List, ◌++◌, length, Option, Some, None, MatchOption, slice_get}
use Rattle.std.specs.Prelude.{slice_index_or, codes, decimal}
use Rattle.std.specs.List.{flat_map}
use Rattle.std.specs.List.Sorted.{IsPermutation, IsSorted, IsStable}
use Rattle.std.specs.Ordering.{nat_cmp}
use Rattle.std.specs.declared.cmp.Ordering.{Ordering}
use Rattle.std.specs.Option.{option_to_list}
use Rattle.loading.specs.Families.{Family}
use Rattle.machine.specs.Linked.{program_of}
use Rattle.initializer_analysis.specs.declared.verdict.Verdict.{Verdict}
use Rattle.initializer_analysis.specs.declared.verdict.Verdict.TheVariants.{Wave, Refused}
use Rattle.region_shape.specs.Regions.{environment_of}
use Rattle.object_graph.specs.Images.{ImageTables, object_count}
use Rattle.explain.specs.Reruns.{IsLeast, without}
use Rattle.explain.specs.Texts.{line, made_count}
use Rattle.explain.specs.declared.costs.Cost.{Cost}

-- What the initializer of a class costs, with just those regions at hand that an image has of the other classes, and
-- how many objects it made and how many are kept; of the bytes nothing is said.
pub record IsCost (I : ImageTables) (greatest c : ℕ) (found : Cost) : Type 0 where
  pub class : found.class ≡ c
  pub least : IsLeast (program_of I.program) (without (environment_of I.regions) c) c greatest found.cost
  pub made : found.made ≡ made_count (environment_of I.regions c)
  pub kept : found.kept ≡ object_count (environment_of I.regions c)

-- of an accepted class; and nothing of another
abbrev pub IsCostOf : ImageTables → ℕ → ℕ → Verdict → Option Cost → Type 0
IsCostOf I greatest c (Wave n) found = MatchOption found ⊥ (IsCost I greatest c)
IsCostOf I greatest c (Refused reason) found = found ≡ None

-- by class
pub record AreCosts (I : ImageTables) (verdicts : List Verdict) (greatest : ℕ) (costs : List (Option Cost))
    : Type 0 where
  pub count : length costs ≡ length verdicts
  pub each : (c : ℕ) (verdict : Verdict) → slice_get verdicts c ≡ Some verdict
      → IsCostOf I greatest c verdict (slice_index_or costs c None)

-- the greater one first
abbrev pub by_cost : Cost → Cost → Ordering
by_cost one other = nat_cmp other.cost one.cost

-- those of the accepted classes, each once, the greatest first; equal ones stay in the order of their classes
pub record AreDearestFirst (costs : List (Option Cost)) (dearest : List Cost) : Type 0 where
  pub are : IsPermutation (flat_map option_to_list costs) dearest
  pub sorted : IsSorted by_cost dearest
  pub stable : IsStable by_cost (flat_map option_to_list costs) dearest

-- ---- text

-- the line of what a class costs
abbrev pub cost_text : Family → Cost → List ℕ
cost_text family found = line family found.class (codes "cost " ++ (decimal found.cost
    ++ (codes " made " ++ (decimal found.made
    ++ (codes " kept " ++ (decimal found.kept
    ++ (codes " bytes " ++ decimal found.bytes)))))))

-- those of all accepted classes, the dearest first
pub record IsCostsText (I : ImageTables) (verdicts : List Verdict) (greatest : ℕ) (text : List ℕ) : Type 0 where
  pub costs : List (Option Cost)
  pub are : AreCosts I verdicts greatest costs
  pub dearest : List Cost
  pub sorted : AreDearestFirst costs dearest
  pub is : text ≡ flat_map (λ found. cost_text I.program.family found) dearest
