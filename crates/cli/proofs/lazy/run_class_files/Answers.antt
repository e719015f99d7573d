use Rattle.std.proofs.Common.{inr}
use Rattle.cli.specs.Runs.{count, texts_of}
use Rattle.cli.proofs.CountLemmas.{told_count}
use Rattle.cli.proofs.lazy.run_class_files.Goals as goal

pub returns-then-not-is_entry_count-clause-refusal :
    goal.returns-then-not-is_entry_count-clause-refusal
returns-then-not-is_entry_count-clause-refusal c =
    let no = c.if-not-is_entry_count.true in inr (count (λ few. let yes = c.is_entry_count.ensures.1 few in cc))

pub returns-in-Err-clause-count : goal.returns-in-Err-clause-count
returns-in-Err-clause-count c =
    told_count (texts_of c.args.files.now) c.args.entries.now c.in-Err.refusal c.in-Err.ensures.refusal
    (c.is_entry_count.ensures.0 c.if-not-is_entry_count.false)
