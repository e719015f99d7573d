-- What is said of the initialization of a class before it runs holds of whatever runs for it.
use Rattle.std.proofs.Common.{ℕ}
use Rattle.semantics.specs.Bounds as bounds
use Rattle.semantics.proofs.WithinRunsLemmas.{runs_within_lem}
use Rattle.semantics.proofs.WithinStopsLemmas.{stops_within_lem}
use Rattle.machine.proofs.LawsLemmas.{table_is_lawful_lem}
use Rattle.machine.specs.Linked.{program_of}
use Rattle.use_graph.specs.Scopes.{bounds_of}
use Rattle.use_graph.specs.Uses.{IsUse}
use Rattle.use_graph.specs.Soundness.{WorldsRunByCode, StopsByCode}
use Rattle.use_graph.proofs.ScopeTableLemmas.{table_is_bounded_lem}
use Rattle.use_graph.proofs.ScopeUsesLemmas.{run_is_by_code, use_is_by_code}
use Rattle.use_graph.proofs.ScopeMarksLemmas.{unmarked_is_clean}
use Rattle.use_graph.proofs.UsesWithinLemmas.{uses_are_within_lem}

pub worlds_run_by_code_lem : WorldsRunByCode
worlds_run_by_code_lem P first last schedule start run =
    let stays =
    runs_within_lem (program_of P) (bounds_of P) (table_is_bounded_lem P) first last schedule start run in
    record {
      frames = λ t fs ls at c f on. run_is_by_code (stays.frames t fs ls at c f on);
      begins = λ t fs ls at c d by. use_is_by_code P c d (stays.begins t fs ls at c d by);
      needs = λ t f fs l ls at d is.
          use_is_by_code P l.initialization.class d (stays.needs t f fs l ls at d is);
    }

pub stops_by_code_lem : StopsByCode
stops_by_code_lem P is fits within env c low none has closed budget stop stopped =
    stops_within_lem (program_of P) (bounds_of P) (table_is_lawful_lem P is) (table_is_bounded_lem P) env c
    (unmarked_is_clean P is c none) (λ d used. has d (given d used)) (record {
      finals = λ d f r used. closed.finals d f r (given d used);
      named = closed.named;
    })
    budget stop stopped
  where
    given : (d : ℕ) → bounds.IsUse (program_of P) (bounds_of P) c d → IsUse P c d
    given d used = uses_are_within_lem P is fits within c d low (use_is_by_code P c d used)
