-- What is known of all classes.
use Rattle.std.specs.Prelude.{◌≡◌, List, length}
use Rattle.program.specs.Tables.{Tables}
use Rattle.use_graph.specs.steps.Bodies.{IsUseGraph}
use Rattle.initializer_analysis.specs.declared.verdict.Verdict.{Verdict}
use Rattle.explain.specs.declared.explaining.Knowledge.{Knowledge}
use Rattle.explain.specs.declared.overview.Overview.{Overview}
use Rattle.explain.specs.Chains.{AreFirstUses}
use Rattle.explain.specs.Explanations.{AreCycles}
use Rattle.explain.specs.steps.Marking.{AreEvidences}
use Rattle.explain.specs.steps.Roots.{AreRoots}

-- the graph of calls is the program's, and the search is one over it
pub record IsKnown (P : Tables) (verdicts : List Verdict) (known : Knowledge) : Type 0 where
  pub uses : IsUseGraph P known.uses
  pub limit : known.search.seen.limit ≡ length known.uses.calls
  pub cycles : AreCycles P known.cycles.items
  pub first : AreFirstUses P verdicts known.first.items
  pub evidences : AreEvidences P known.evidences

-- with the ends of chains
pub record IsOverview (P : Tables) (verdicts : List Verdict) (overview : Overview) : Type 0 where
  pub known : IsKnown P verdicts overview.known
  pub roots : AreRoots verdicts overview.roots.items
