use Rattle.std.proofs.Common.{◌≤◌, length, arith}
use Rattle.use_graph.proofs.CollectedLemmas.{collected_more, collected_all}
use Rattle.audit.specs.steps.Reaching.{IsFirstVertex}
use Rattle.audit.proofs.starts.add_entries.Goals as goal

pub loop-entry-preserved : goal.loop-entry-preserved
loop-entry-preserved c =
    collected_more (IsFirstVertex c.args.program.now c.args.uses.now) c.args.entries.now c.args.from.now.items
    c.loop-entry.from.items c.add_entry.new.from.items c.loop-entry.entry-index _ c.loop-entry-test.true
    c.loop-entry.invariant c.in_ok-add_entry.ensures

pub returns : goal.returns
returns c =
    let whole : length c.args.entries.now ≤ c.loop-entry.entry-index = omega arith in
    collected_all (IsFirstVertex c.args.program.now c.args.uses.now) c.args.entries.now c.args.from.now.items
    c.loop-entry.from.items c.loop-entry.entry-index whole c.loop-entry.invariant
