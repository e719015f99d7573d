use Rattle.std.proofs.Common.{ℕ, List, Option, false, ap, subst, sym}
use Rattle.init_engine.specs.Turns.{world_of}
use Rattle.cli.specs.Journaled.{IsOutcome}
use Rattle.cli.proofs.JournaledLemmas.{at_most}
use Rattle.cli.proofs.by_threads.run_by_threads.Goals as goal

pub returns : goal.returns
returns g c =
    let P = c.args.program.now in
    let first = world_of c.args.world in
    let before = g.W.Write.contents c.args.out in
    let told = c.outcome_of.ensures P first c.args.limit _ _ _ _
    (at_most P first _ c.args.limit _ _ _ _ _ c.min-most.ensures c.run_threads-answer.ensures) in
    let begun = subst (λ (o : Option (List ℕ)). IsOutcome false c.args.limit P first o
    (g.W.Write.contents c.run_threads-answer.result.1.to) c.outcome_of.result) (ap g.W.Write.contents c.new.ensures)
    told in
    let over = subst (λ (o : Option (List ℕ)). IsOutcome false c.args.limit P first before o
    c.outcome_of.result) (ap g.W.Write.contents (sym c.into_inner-out.ensures)) begun in
    c.flushed-outcome.ensures c.args.limit P first before over
