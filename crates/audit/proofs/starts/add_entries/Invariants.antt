use Rattle.use_graph.proofs.CollectedLemmas.{Collected}
use Rattle.audit.specs.steps.Reaching.{IsFirstVertex}
use Rattle.audit.proofs.starts.add_entries.Given as goal

abbrev pub invariant-loop-entry : goal.invariant-loop-entry
invariant-loop-entry l =
    Collected (IsFirstVertex l.program l.uses) l.entries l.entry-index l.initial.from.items l.from.items
